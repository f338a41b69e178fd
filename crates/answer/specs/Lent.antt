-- A list laid at the start of a lent buffer, or nothing where it is too short for it.
-- Assumes nothing.
use Rattle.std.specs.Prelude.{ℕ, List, ◌++◌, length, drop}
use Rattle.std.proofs.Math.Decide.{dec_le}

-- how many elements are laid
unfoldable pub laid : {A : Type 0} → List A → List A → ℕ
unfolding dec_le
laid given old = elim (dec_le (length given) (length old)) [ yes _ ↦ length given | no _ ↦ 0 ]

-- the buffer afterwards
unfoldable pub holding : {A : Type 0} → List A → List A → List A
unfolding dec_le
holding given old = elim (dec_le (length given) (length old)) [ yes _ ↦ given ++ drop (length given) old | no _ ↦ old ]
