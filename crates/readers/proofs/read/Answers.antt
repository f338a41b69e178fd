use Rattle.readers.proofs.CutLaws.{read_missing, read_out_of_form, read_value}
use Rattle.readers.proofs.read.Goals as goal

pub returns-in_default : goal.returns-in_default
returns-in_default g c = read_missing _ _ _ c.in_default.ensures c.args.line

pub returns-in_default-parse : goal.returns-in_default-parse
returns-in_default-parse g c = read_out_of_form _ _ _ _ _ c.in-Some.ensures.1 c.in_default-parse.ensures c.args.line

pub returns : goal.returns
returns g c =
    let w = c.in-Some.ensures in
    let v = c.in-Some-parse.ensures in (w.0, read_value _ _ _ _ _ w.1 _ v.0 v.1 c.args.line)
