use Rattle.std.proofs.Common.{[], ◌≤◌, eqb, length, get_or, bit_or, refl, sym, ap, ap₂, ◌∙◌, arith}
use Rattle.verdict.proofs.RuleLaws.{breaks_at, holds_all}
use Rattle.tree.specs.Tree.{Shape, Tree, kit_of}
use Rattle.tree.specs.Rules.{rule26}
use Rattle.tree.specs.Lent.{run_says}
use Rattle.tree.proofs.OwnerLaws.{runs_of}
use Rattle.tree.proofs.NodeLaws.{nodes_none, nodes_more, wider, run_says_lem, leaf_in, node_in}
use Rattle.inspect.proofs.kit_words.Goals as goal

pub loop-n-init : goal.loop-n-init
loop-n-init c = nodes_none _ _

pub run_kit-due-requires-clause-in_run : goal.run_kit-due-requires-clause-in_run
run_kit-due-requires-clause-in_run c e =
    let is = c.s.view_is ∙ ap (λ (t : Tree). t.shape) c.tree.view_is in
    rw (c.from-from.ensures, c.from-count.ensures)
    (leaf_in (rw (← is) at (runs_of c.requires.all_hold)) c.loop-n.n c.loop-n-test.true (length c.args.t.now.kit) (rw (← is) at c.requires.holds)
    (rw (← is) at c.requires.columns.entries) e)

pub run_kit-due-requires-clause-in_run_2 : goal.run_kit-due-requires-clause-in_run_2
run_kit-due-requires-clause-in_run_2 c e =
    let is = c.s.view_is ∙ ap (λ (t : Tree). t.shape) c.tree.view_is in
    let kits = rw (← is, ← c.tree.view_is) at c.requires.kits_len in
    rw (c.from-from.ensures, c.from-count.ensures)
    (wider kits
    (node_in (rw (← is) at (runs_of c.requires.all_hold)) c.loop-n.n c.loop-n-test.true (length c.args.t.now.kit) (rw (← is) at c.requires.holds)
    (rw (← is) at c.requires.columns.entries) e))

pub returns-then-tree-n : goal.returns-then-tree-n
returns-then-tree-n c =
    let is = c.s.view_is ∙ ap (λ (t : Tree). t.shape) c.tree.view_is in
    let kits = c.tree.inside.kits.now in
    let n = c.loop-n.n in
    let due = c.run_kit-due.ensures
    ∙ ap₂ (run_says bit_or (kit_of c.args.t.now kits) (eqb (get_or c.s.inside.level.now n 0) 1) c.s.inside.entries.now) c.from-from.ensures c.from-count.ensures
    ∙ run_says_lem (rw (← is) at (runs_of c.requires.all_hold)) n c.loop-n-test.true bit_or (kit_of c.args.t.now kits) in
    let past = rw (← is, ← c.tree.view_is) at c.loop-n.invariant in
    rw (← is, ← c.tree.view_is)
    (breaks_at (rule26 c.args.t.now kits _) refl [] n c.loop-n-test.true past.past (λ e. c.if-tree-n.true (e ∙ sym due)))

pub loop-n-preserved : goal.loop-n-preserved
loop-n-preserved c =
    let is = c.s.view_is ∙ ap (λ (t : Tree). t.shape) c.tree.view_is in
    let kits = c.tree.inside.kits.now in
    let n = c.loop-n.n in
    let due = c.run_kit-due.ensures
    ∙ ap₂ (run_says bit_or (kit_of c.args.t.now kits) (eqb (get_or c.s.inside.level.now n 0) 1) c.s.inside.entries.now) c.from-from.ensures c.from-count.ensures
    ∙ run_says_lem (rw (← is) at (runs_of c.requires.all_hold)) n c.loop-n-test.true bit_or (kit_of c.args.t.now kits) in
    let past = rw (← is, ← c.tree.view_is) at c.loop-n.invariant in
    rw (← is, ← c.tree.view_is) (nodes_more _ _ _ past c.loop-n-test.true (c.if-tree-n.false ∙ due))

pub returns : goal.returns
returns c =
    let is = c.s.view_is ∙ ap (λ (t : Tree). t.shape) c.tree.view_is in
    let done : c.args.tree.now.shape.nodes ≤ c.loop-n.n = omega (arith, c.loop-n-test.false, ap (λ (s : Shape). s.nodes) is) in
    holds_all (rule26 c.args.t.now c.args.tree.now.kits c.args.tree.now.shape) refl (λ k b. c.loop-n.invariant.past k (omega arith))
