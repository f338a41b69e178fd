use Rattle.std.proofs.Common.{◌≡◌, ◌≤◌, ◌∙◌, sym, ap, subst, refl, take, length, true, List, ℕ, arith}
use Rattle.tree.specs.Tree.{Tree, Shape}
use Rattle.groups.proofs.EntryLaws.{meets}
use Rattle.kit.specs.Kit.{kinds}
use Rattle.kit.specs.declared.Listed.{Listed}
use Rattle.verdict.proofs.SaidLaws.{numbered}
use Rattle.closest.specs.Walk.{begins, stands_at}
use Rattle.groups.specs.Members.{Few}
use Rattle.walk.specs.State.{state_of}
use Rattle.found.specs.Search.{refused, outcome}
use Rattle.found.proofs.SearchLaws.{take_padded, few_of, sound_want, searched_want, searched_none, searched_walk}
use Rattle.search.proofs.search_over.Goals as goal

pub returns-in-Err : goal.returns-in-Err
returns-in-Err c =
    c.refuse.ensures
    ∙ ap (λ (n : ℕ). refused n c.in-Err.r.at) c.code.ensures
    ∙ searched_want c.args.t.now c.args.tree.now c.args.want c.args.allowance c.in-Err.ensures (numbered c.in-Err.r.reason)

pub returns-then-not-root_holds : goal.returns-then-not-root_holds
returns-then-not-root_holds c =
    let root : c.root_holds.result ≡ begins c.args.t.now c.args.tree.now (kinds c.args.want) = c.root_holds.ensures c.args.t.now c.tree.inside.shape c.tree.inside.sides (sym (ap (λ (s : Shape). s.nodes) c.shape.view_is)) ∙ ap (λ (r : Tree). begins c.args.t.now r (kinds c.args.want)) c.tree.view_is in
    c.refuse-then-not-root_holds.ensures
    ∙ ap (λ (n : ℕ). refused n 0) c.code-then-not-root_holds.ensures
    ∙ searched_none c.args.t.now c.args.tree.now c.args.want c.args.allowance (sound_want c.args.t.now c.args.tree.now c.args.want c.in_default.ensures refl c.requires) (sym root ∙ c.if-not-root_holds.true)

pub root_holds-requires : goal.root_holds-requires
root_holds-requires c =
    let kits : c.args.tree.now.shape.nodes ≤ length c.args.tree.now.kits = (meets c.requires).counted.room.kits in
    omega (arith, kits, ap (λ (s : Shape). s.nodes) c.shape.view_is, ap (λ (r : Tree). r.shape.nodes) c.tree.view_is, ap (λ (r : Tree). length r.kits) c.tree.view_is)

pub list_kinds-l-requires : goal.list_kinds-l-requires
list_kinds-l-requires c = (sound_want c.args.t.now c.args.tree.now c.args.want c.in_default.ensures refl c.requires).few

pub walk_all-requires-clause-few : goal.walk_all-requires-clause-few
walk_all-requires-clause-few c =
    let s = sound_want c.args.t.now c.args.tree.now c.args.want c.in_default.ensures refl c.requires in
    subst (λ (k : Listed). Few k.count k.kinds) (sym c.list_kinds-l.ensures) (few_of c.args.want s.some s.few)

pub walk_all-requires-clause-begun : goal.walk_all-requires-clause-begun
walk_all-requires-clause-begun c =
    let root : c.root_holds.result ≡ begins c.args.t.now c.args.tree.now (kinds c.args.want) = c.root_holds.ensures c.args.t.now c.tree.inside.shape c.tree.inside.sides (sym (ap (λ (s : Shape). s.nodes) c.shape.view_is)) ∙ ap (λ (r : Tree). begins c.args.t.now r (kinds c.args.want)) c.tree.view_is in
    let e = ap (λ (k : Listed). take k.count k.kinds) c.list_kinds-l.ensures ∙ take_padded (kinds c.args.want) in
    subst (λ (k : List ℕ). begins c.args.t.now c.args.tree.now k ≡ true) (sym e) (sym root ∙ c.if-not-root_holds.false)

pub returns : goal.returns
returns c =
    let root : c.root_holds.result ≡ begins c.args.t.now c.args.tree.now (kinds c.args.want) = c.root_holds.ensures c.args.t.now c.tree.inside.shape c.tree.inside.sides (sym (ap (λ (s : Shape). s.nodes) c.shape.view_is)) ∙ ap (λ (r : Tree). begins c.args.t.now r (kinds c.args.want)) c.tree.view_is in
    let e = ap (λ (k : Listed). take k.count k.kinds) c.list_kinds-l.ensures ∙ take_padded (kinds c.args.want) in
    c.outcome_of.ensures
    ∙ ap outcome (c.walk_all.ensures ∙ ap (λ (k : List ℕ). state_of c.args.t.now (stands_at c.args.t.now c.args.tree.now k c.args.allowance)) e)
    ∙ searched_walk c.args.t.now c.args.tree.now c.args.want c.args.allowance (sound_want c.args.t.now c.args.tree.now c.args.want c.in_default.ensures refl c.requires) (sym root ∙ c.if-not-root_holds.false)
