use Rattle.std.proofs.Common.{◌≡◌, ℕ, ◌^◌, ◌<◌, sym, ◌∙◌, arith, length, ℤ}
use borrow.Author.Count.{below_more}
use lib.Signed.{mag}
use mathlib.Core.Bool.{Bool, ◌||◌}
use mir.Syntax.{w32}
use mir.Val.{to_z, of_z}
use mir.Facts.{to_z-of_z}
use Rattle.plane.specs.Plane.{outside, Ranged}
use Rattle.plane.proofs.SignedLaws.{fit}
use Rattle.table.specs.Table.{box_of}
use Rattle.table.proofs.TableLaws.{uneven, off_at, no_fault, on, off}
use Rattle.table.proofs.check.Goals as goal
use Rattle.table.proofs.check.Goals.{then-t-places-via-then-t-places, then-t-places-via-else-t-places+then-t-places-2, then-t-places-via-else-t-places+else-t-places-2+then-places-gt4096}

-- what `is_off` answers on two elements
said : (x y : ℤ) {r b : Bool} → mag x < 2 ^ 31 → mag y < 2 ^ 31 → r ≡ (outside (to_z w32 (of_z w32 x)) || outside (to_z w32 (of_z w32 y))) → r ≡ b → (outside x || outside y) ≡ b
said x y h k e t = sym (rw (to_z-of_z (fit x h), to_z-of_z (fit y k)) at e) ∙ t

pub returns-then-t-places : goal.returns-then-t-places
returns-then-t-places c =
    rw (← c.t.view_is)
    (elim c.then-t-places.branch [
      | then-t-places-via-then-t-places w ↦ uneven _ (λ h. w.if-t-places.true h.y)
      | then-t-places-via-else-t-places+then-t-places-2 w ↦ uneven _ (λ h. w.if-t-places-2.true h.kit)
      | then-t-places-via-else-t-places+else-t-places-2+then-places-gt4096 w ↦ uneven _ (λ h. omega (arith, h.few))
    ])

pub loop-p-init : goal.loop-p-init
loop-p-init c = λ q b. absurd (omega arith)

pub returns-then-is_off : goal.returns-then-is_off
returns-then-is_off c =
    rw (← c.t.view_is)
    (off_at _ (record { y = c.if-t-places.false; kit = c.if-t-places-2.false; few = c.if-places-gt4096.false }) c.loop-p.p c.loop-p-test.true
    (rw (← c.t.view_is) at c.loop-p.invariant)
    (off (said _ _ c.is_off-arg-1.given c.is_off-arg-in-loop-p-1.given c.is_off.ensures c.if-is_off.true)))

pub loop-p-preserved : goal.loop-p-preserved
loop-p-preserved c = below_more _ _ c.loop-p.invariant (rw (← c.t.view_is) (on (said _ _ c.is_off-arg-1.given c.is_off-arg-in-loop-p-1.given c.is_off.ensures c.if-is_off.false)))

pub returns : goal.returns
returns c =
    let all : (q : ℕ) → q < length c.t.inside.x.now → Ranged (box_of c.args.t.now q) = λ q b. c.loop-p.invariant q (omega arith) in
    rw (← c.t.view_is)
    (no_fault _ (record { y = c.if-t-places.false; kit = c.if-t-places-2.false; few = c.if-places-gt4096.false }) (rw (← c.t.view_is) at all))
