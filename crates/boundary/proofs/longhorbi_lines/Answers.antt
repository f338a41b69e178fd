-- Where a word is missing or out of range nothing happens.
use Rattle.std.proofs.Common.{sym, ◌∙◌}
use Rattle.words.proofs.LineLaws.{no_lines}
use Rattle.boundary.proofs.longhorbi_lines.Goals as goal

pub returns-then-not-is_found : goal.returns-then-not-is_found
returns-then-not-is_found c =
    let l = no_lines c.args.found.now c.args.want c.args.out.now (sym c.is_found.ensures ∙ c.if-not-is_found.true) in
    record { value = l.0; out_after = l.1 }
