use Rattle.std.proofs.Common.{arith}
use borrow.Author.Tests.{lt-ltb, ne_eqb}
use Rattle.members.proofs.PlaceLaws.{before_is, first, less, more, equal}
use Rattle.members.proofs.Progress.is_better.Goals as goal

pub returns-then-not-best : goal.returns-then-not-best
returns-then-not-best c = first c.args.places.now c.args.squared c.args.self.now.best c.if-not-best.true

pub returns-then-squared-best : goal.returns-then-squared-best
returns-then-squared-best c =
    let b = c.args.self.now.best in
    rw (lt-ltb c.args.squared b.squared c.if-squared-best.true) (less c.args.places.now c.args.squared b c.if-not-best.false c.if-squared-best.true)

pub returns-then-squared-best-2 : goal.returns-then-squared-best-2
returns-then-squared-best-2 c =
    let b = c.args.self.now.best in
    rw (before_is c.args.places.now b.places c.lt.result c.lt.ensures) (equal c.args.places.now c.args.squared b c.if-not-best.false c.if-squared-best-2.true)

pub returns-else-squared-best-2 : goal.returns-else-squared-best-2
returns-else-squared-best-2 c =
    let b = c.args.self.now.best in
    rw (ne_eqb c.args.squared b.squared c.if-squared-best-2.false) (more c.args.places.now c.args.squared b c.if-not-best.false (omega (arith, c.if-squared-best.false, c.if-squared-best-2.false)))
