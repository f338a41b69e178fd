-- Runs of 16, 8, 4, 2 digits, then single ones.
-- Assumes nothing.
use mathlib.Core.Path.{◌≡◌, ◌∙◌}
use Prim.Native.Nat.{ℕ, ◌^◌, ◌<◌}
use native.Mathlib.Omega.{arith}
use Rattle.order.specs.Key.{interleaved}
use Rattle.keys.proofs.KeyLaws.{interleaved_high, interleaved_below}
use Rattle.keys.proofs.SpreadLaws.{lows, twice, drawn, lanes_whole, lanes_bits}
use Rattle.keys.proofs.spread.Goals as goal

small : {r : ℕ} (v : ℕ) → r ≡ interleaved 21 v 0 → r < 4 ^ 21
small v e = rw e (interleaved_below 21 21 v 0 (omega arith))

pub returns : goal.returns
unfolding lows twice
returns c =
    let v = c.args.v in
    let runs = drawn 2 8 v _ (omega arith) (drawn 4 4 v _ (omega arith) (drawn 8 2 v _ (omega arith) (drawn 16 1 v v (omega arith) (lanes_whole v c.requires)))) in
    let e = drawn 1 16 v _ (omega arith) runs ∙ lanes_bits 32 v ∙ interleaved_high 21 32 v (omega arith) c.requires in
    record { value = e; bound = small v e }
