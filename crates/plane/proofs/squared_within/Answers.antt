use mathlib.Core.Path.{◌≡◌}
use Prim.Native.Nat.{ℕ}
use native.Mathlib.Omega.{arith}
use lib.IntN.{ℤ, nat_abs, ◌-ℤ◌}
use mir.Syntax.{w32}
use mir.Val.{SFits, to_z, of_z}
use mir.Facts.{to_z-of_z}
use Rattle.plane.specs.Plane.{square, squared_of}
use Rattle.plane.proofs.WholeLaws.{squares_add}
use Rattle.plane.proofs.squared_within.Goals as goal

-- what `axis` answers, as the contract has its arguments
said : {a b : ℤ} {r : ℕ} → SFits w32 a → SFits w32 b → r ≡ square (nat_abs (to_z w32 (of_z w32 a) -ℤ to_z w32 (of_z w32 b))) → r ≡ square (nat_abs (a -ℤ b))
said f g e = rw (to_z-of_z f, to_z-of_z g) at e

pub returns : goal.returns
unfolding squared_of
returns c =
    let v = c.args in
    omega (
      arith,
      said c.ranges.ax c.ranges.bx c.axis.ensures.value,
      said c.ranges.ay c.ranges.by c.axis-2.ensures.value,
      squares_add (v.ax -ℤ v.bx) (v.ay -ℤ v.by),
    )
