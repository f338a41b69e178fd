use Rattle.std.proofs.Common.{◌∙◌, ap, refl, ℕ}
use Rattle.verdict.proofs.SaidLaws.{numbered}
use Rattle.found.specs.Search.{refused}
use Rattle.found.proofs.SearchLaws.{sound_all, searched_fault}
use Rattle.search.proofs.search.Goals as goal

pub returns-in-Err : goal.returns-in-Err
returns-in-Err c =
    c.refuse.ensures
    ∙ ap (λ (n : ℕ). refused n c.in-Err.r.at) c.code.ensures
    ∙ searched_fault c.args.t.now c.args.tree.now c.args.want c.args.allowance c.in-Err.ensures (numbered c.in-Err.r.reason)

pub search_over-requires : goal.search_over-requires
search_over-requires c = (sound_all c.args.t.now c.args.tree.now c.args.want c.in_default.ensures refl).passes
