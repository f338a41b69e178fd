-- The first j numbers are stored, and zeros are behind them.
use Rattle.std.proofs.Common.{◌≡◌, ◌≤◌, ℕ, ◌<◌, length, get_or}
use Rattle.members.proofs.Members.group_with.Given as goal

abbrev pub invariant-loop-j : goal.invariant-loop-j
invariant-loop-j l = record {
  eight : length l.places ≡ 8;
  stored : (k : ℕ) → k < l.j → get_or l.places k 0 ≡ get_or l.self.numbers k 0;
  rest : (k : ℕ) → l.j ≤ k → k < 8 → get_or l.places k 0 ≡ 0;
}
