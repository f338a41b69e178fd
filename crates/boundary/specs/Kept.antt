-- What builder, writer and reader leave behind where the answer's words may have no room.
-- Assumes nothing.
use Rattle.std.specs.Prelude.{List, [], ◌∷◌, ℕ, length}
use Rattle.std.proofs.Math.Decide.{dec_le}
use Rattle.table.specs.Table.{Table}
use Rattle.tree.specs.Tree.{Tree}
use Rattle.tree.specs.Lent.{shape, tree}
use Rattle.tree.specs.Rules.{lengths}
use Rattle.verdict.specs.Rules.{verdict}
use Rattle.verdict.specs.Rules.{Verdict}
use Rattle.build.specs.Room as build
use Rattle.rows.specs.Sheet.{Held}
use Rattle.sheet.specs.Write as sheet

-- what was lent afterwards: as it was, where the lent answer has fewer than n words
unfoldable pub given : {A : Type 0} → ℕ → List ℕ → A → A → A
unfolding dec_le
given n answer after before = elim (dec_le n (length answer)) [ yes _ ↦ after | no _ ↦ before ]

-- what the builder says of a table and lent columns, and the tree it leaves in them
abbrev pub build_says : Table → Tree → Verdict
build_says t before = verdict (build.build_rules t (lengths before))

abbrev pub build_leaves : Table → Tree → Tree
build_leaves t before = build.afterwards (build_says t before).code t before

-- code, at, nodes, listed
abbrev pub build_words : Table → Tree → List ℕ
build_words t before =
    let after = build_leaves t before in
    (build_says t before).code ∷ (build_says t before).at ∷ after.shape.nodes ∷ after.shape.listed ∷ []

-- the columns of a tree without its counts
abbrev pub columns : Tree → Tree
columns t = let s = t.shape in tree (shape 0 0 s.level s.start s.count s.entries) t.sides t.kits

-- what the writer says of what it is asked and a lent buffer, and the byte count and the buffer it leaves
abbrev pub write_says : Held → List ℕ → Verdict
write_says h before = verdict (sheet.write_rules h (length before))

abbrev pub write_leaves : Held → List ℕ → ℕ × List ℕ
write_leaves h before = sheet.afterwards (write_says h before).code h before

-- code, at, bytes
abbrev pub write_words : Held → List ℕ → List ℕ
write_words h before = (write_says h before).code ∷ (write_says h before).at ∷ (write_leaves h before).0 ∷ []
