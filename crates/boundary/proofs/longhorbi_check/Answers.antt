-- Where the answer has room its words are laid, and else nothing happens.
use Rattle.std.proofs.Common.{ap, ◌∙◌}
use Rattle.table.specs.Table.{table}
use Rattle.tree.specs.Tree.{Tree}
use Rattle.tree.specs.Rules.{check_rules}
use Rattle.verdict.specs.Rules.{verdict}
use Rattle.answer.proofs.LentLaws.{too_short}
use Rattle.words.specs.Words.{verdict_words}
use Rattle.words.proofs.WordLaws.{relaid}
use Rattle.boundary.proofs.longhorbi_check.Goals as goal

pub returns-then-answer-lt2 : goal.returns-then-answer-lt2
returns-then-answer-lt2 c = let l = too_short _ _ c.if-answer-lt2.true in record { value = l.0; answer_after = l.1 }

pub returns : goal.returns
returns c =
    let a = c.args in
    let lent = ap (λ (t : Tree). verdict_words (verdict (check_rules (table a.x.now a.y.now a.kit.now) t))) c.tree_of-tree.ensures in
    let l = relaid a.answer.now (c.check_words.ensures ∙ ap verdict_words c.check.ensures ∙ lent) (c.lay.ensures.value, c.lay.ensures.answer_after) in
    record { value = l.0; answer_after = l.1 }
