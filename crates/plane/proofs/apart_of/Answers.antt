use mathlib.Core.Path.{◌≡◌}
use Prim.Native.Nat.{ℕ, ◌*◌, ◌≤◌}
use native.Mathlib.Omega.{arith}
use Rattle.plane.specs.Plane.{gap, InRange}
use Rattle.plane.specs.declared.Span.{Span}
use Rattle.plane.proofs.WholeLaws.{square_le}
use Rattle.plane.proofs.GapLaws.{gap_ranged}
use Rattle.plane.proofs.apart_of.Goals as goal

small : {s t : Span} {m : ℕ} → m ≡ gap s t → InRange s → InRange t → m * m ≤ 16000000000000
small {s} {t} {m} e r w = square_le m 4000000 (omega (arith, gap_ranged s t r w))

pub overflow_mul-result : goal.overflow_mul-result
overflow_mul-result c = omega (arith, small c.gap-x.ensures c.requires.0.x c.requires.1.x)

pub overflow_mul-result-2 : goal.overflow_mul-result-2
overflow_mul-result-2 c =
    omega (arith, small c.gap-x.ensures c.requires.0.x c.requires.1.x, small c.gap-y.ensures c.requires.0.y c.requires.1.y)

pub overflow_add-result : goal.overflow_add-result
overflow_add-result c =
    omega (arith, small c.gap-x.ensures c.requires.0.x c.requires.1.x, small c.gap-y.ensures c.requires.0.y c.requires.1.y)
