use Rattle.quick.proofs.QuickLaws.{behind_key}
use Rattle.quick.proofs.read.Goals as goal

pub returns : goal.returns
returns g c =
    let a = c.args in
    let w = c.in_ok-rest.ensures.cases in
    behind_key a.key.now (g.F.ValueForm.form a.form.now) a.t.now _ c.requires w.0 w.1 _ _ c.in_ok-taken.ensures
