use mathlib.Core.Path.{◌≡◌, ap, ◌∙◌}
use mathlib.Core.List.{[], ◌∷◌, ◌++◌}
use Prim.Native.Nat.{ℕ, ◌+◌, ◌<◌}
use native.Mathlib.Omega.{arith}
use lib.IntN.{ℤ, pos}
use lib.ListN.{length, get_or, length-append}
use Rattle.std.proofs.lemmas.List.{get_or_default}
use mir.Syntax.{w32}
use mir.Val.{SFits, to_z, of_z}
use mir.Facts.{to_z-of_z}
use Rattle.std.specs.List.{zip}
use Rattle.std.proofs.lemmas.Iterator.{YieldsList-from_slice, YieldsList-from_zip}
use Rattle.std.proofs.lemmas.Iterator.Consumers.{YieldsList-from_enumerate, YieldsList-turn}
use Rattle.std.proofs.lemmas.List.FromFn.{length-enumerate_from, get_or-enumerate_from}
use Rattle.std.proofs.lemmas.Slice.Zip.{length-zip, get_or-zip}
use Rattle.order.specs.Key.{key}
use Rattle.order.specs.Order.{word}
use Rattle.order.proofs.TabLaws.{tab_none, tab_more}
use Rattle.keys.proofs.KeyLaws.{range_fits}
use Rattle.keys.proofs.pack.Goals as goal

-- what `key_of` answers, as the contract has its arguments
said : {a b d e : ℤ} {r : ℕ} → a ≡ d → b ≡ e → SFits w32 d → SFits w32 e → r ≡ key (to_z w32 (of_z w32 a)) (to_z w32 (of_z w32 b)) → r ≡ key d e
said p q f g h = rw (p, q, to_z-of_z f, to_z-of_z g) at h

pub loop-p-init : goal.loop-p-init
loop-p-init c = tab_none (word c.args.x.now c.args.y.now) c.args.to.now

pub loop-p-preserved : goal.loop-p-preserved
loop-p-preserved c =
    let v = c.args in
    let k = length c.loop-p.yielded in
    let x = c.in-Some.x.now in
    let y = c.in-Some.y.now in
    let pairs = YieldsList-from_zip {s = c.into_iter-p-iterator.result.iter} (YieldsList-from_slice v.x.now (cc)) (YieldsList-from_slice v.y.now (cc)) in
    let all = YieldsList-from_enumerate {s = c.into_iter-p-iterator.result} pairs (cc) in
    let t = YieldsList-turn all c.loop-p.yielded c.loop-p.p-iterator c.loop-p.yielded_by c.next.result c.next.new.self (c.in-Some.p, (c.in-Some.x, c.in-Some.y)) c.in-Some.is c.next.ensures.steps in
    let more : k < length v.x.now = omega (arith, t.0, length-enumerate_from 0 (zip v.x.now v.y.now), length-zip v.x.now v.y.now) in
    let few : k < length v.y.now = omega (arith, c.requires.0.even) in
    let e = t.1 ∙ get_or-enumerate_from 0 (zip v.x.now v.y.now) k (c.in-Some.p, (x, y)) (omega (arith, t.0, length-enumerate_from 0 (zip v.x.now v.y.now))) in
    let f = get_or-zip v.x.now v.y.now k (x, y) more few in
    let p : c.in-Some.p ≡ k = omega (arith, ap (λ (q : ℕ × (ℤ × ℤ)). q.0) e) in
    let east : x ≡ get_or v.x.now k (pos 0) =
    ap (λ (q : ℕ × (ℤ × ℤ)). q.1.0) e ∙ ap (λ (q : ℤ × ℤ). q.0) f ∙ get_or_default v.x.now k x (pos 0) more in
    let north : y ≡ get_or v.y.now k (pos 0) =
    ap (λ (q : ℕ × (ℤ × ℤ)). q.1.1) e ∙ ap (λ (q : ℤ × ℤ). q.1) f ∙ get_or_default v.y.now k y (pos 0) few in
    let said = said east north (range_fits _ (c.requires.0.x k more)) (range_fits _ (c.requires.0.y k more)) c.key_of.ensures.value in
    let next : length (c.loop-p.yielded ++ ((c.in-Some.p, (c.in-Some.x, c.in-Some.y)) ∷ [])) ≡ k + 1 = omega (arith, length-append c.loop-p.yielded ((c.in-Some.p, (c.in-Some.x, c.in-Some.y)) ∷ [])) in
    rw (next, said, p, c.loop-p.invariant) (tab_more (word v.x.now v.y.now) v.to.now k 0 (omega (arith, c.requires.1)))
