-- What the writer refuses, and what it leaves in the lent buffer.
-- Assumes nothing.
use Rattle.std.specs.Prelude.{ℕ, zero, suc, ◌≤◌, List, [], ◌∷◌, ◌++◌, length, Result, Ok, Err}
use Rattle.std.proofs.Math.Decide.{dec_le}
use Rattle.std.proofs.Common.{lit≤}
use Rattle.table.specs.Table.{table_rules}
use Rattle.verdict.specs.Rules.{Rule}
use Rattle.verdict.specs.declared.Refusal.{Refusal}
use Rattle.rows.specs.Sheet.{Held, sheet_bytes}
use Rattle.scan.specs.Lent.{over}

-- 54: the buffer is not too short for the sheet
abbrev pub rule54 : Held → ℕ → Rule
rule54 h room = record { code = 54; numbered = lit≤ tt; from = 0; many = 1; Asks = λ _. length (sheet_bytes h) ≤ room; decides = λ _. dec_le (length (sheet_bytes h)) room }

abbrev pub write_rules : Held → ℕ → List Rule
write_rules h room = table_rules h.table ++ rule54 h room ∷ []

-- the byte count and the buffer afterwards, by the refusal's number: in a refusal 0, and all is kept
abbrev pub afterwards : ℕ → Held → List ℕ → ℕ × List ℕ
afterwards zero h before = (length (sheet_bytes h), over (sheet_bytes h) before)
afterwards (suc code) h before = (0, before)

-- the byte count that the writer gives
abbrev pub written : Result ℕ Refusal → ℕ
written (Ok bytes) = bytes
written (Err _) = 0
