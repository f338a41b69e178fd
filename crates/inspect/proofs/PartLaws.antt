-- The rules of a tree are looked at part by part: each part is what its rules come to, and a later one is looked at only when all earlier ones hold.
-- Assumes nothing.
use Rattle.std.proofs.Common.{◌≡◌, ℕ, List, [], ◌∷◌, ◌++◌, length, sym, ap, subst, ◌∙◌, arith}
use Rattle.table.specs.Table.{Table, places, Even}
use Rattle.verdict.specs.Numbers.{number}
use Rattle.verdict.specs.Rules.{Rule, Holds, AllHold, Verdict, verdict, says}
use Rattle.verdict.specs.declared.Refusal.{Refusal}
use Rattle.verdict.proofs.SaidLaws.{refused_on, held_on, none_refused}
use Rattle.tree.specs.Tree.{Shape, Tree}
use Rattle.tree.specs.Rules.{lengths, Counted, rule21, rules22, rule23, rule24, rule25, rule26, tree_rules}
use Rattle.tree.specs.Lent.{Columns}
use Rattle.tree.proofs.NameLaws.{names_more}

module _ (t : Table) (tree : Tree) where
  -- the parts, and the rules after each
  abbrev pub counts : List Rule
  counts = rule21 (places t) tree.shape.nodes tree.shape.listed (lengths tree) ∷ []

  abbrev pub names : List Rule
  names = rule23 (places t) tree.shape ∷ []

  abbrev pub distinct : List Rule
  distinct = rule24 tree.shape ∷ []

  abbrev pub boxes : List Rule
  boxes = rule25 t tree.sides tree.shape ∷ []

  abbrev pub kits : List Rule
  kits = rule26 t tree.kits tree.shape ∷ []

  abbrev after_names : List Rule
  after_names = distinct ++ (boxes ++ kits)

  abbrev after_runs : List Rule
  after_runs = names ++ after_names

  abbrev after_counts : List Rule
  after_counts = rules22 tree.shape ++ after_runs

  abbrev all : List Rule
  all = tree_rules t tree

  pub in_counts : (r : Refusal) → says (number r.reason) r.at ≡ verdict counts → says (number r.reason) r.at ≡ verdict all
  in_counts = refused_on counts after_counts

  module _ (a : says 0 0 ≡ verdict counts) where
    counted : Counted (places t) tree.shape.nodes tree.shape.listed (lengths tree)
    counted = (none_refused counts a).0 0 (omega arith) (omega arith)

    pub columns : Columns tree.shape
    columns = record { few = counted.few; level = counted.room.level; start = counted.room.start; count = counted.room.count; entries = counted.room.entries }

    pub room : Counted (places t) tree.shape.nodes tree.shape.listed (lengths tree)
    room = counted

    on_counts : {w : Verdict} → w ≡ verdict after_counts → w ≡ verdict all
    on_counts = held_on counts after_counts a

    pub in_runs : (r : Refusal) → says (number r.reason) r.at ≡ verdict (rules22 tree.shape) → says (number r.reason) r.at ≡ verdict all
    in_runs r e = on_counts (refused_on (rules22 tree.shape) after_runs r e)

    module _ (b : says 0 0 ≡ verdict (rules22 tree.shape)) where
      pub runs : AllHold (rules22 tree.shape)
      runs = none_refused (rules22 tree.shape) b

      on_runs : {w : Verdict} → w ≡ verdict after_runs → w ≡ verdict all
      on_runs e = on_counts (held_on (rules22 tree.shape) after_runs b e)

      pub in_names : (r : Refusal) → says (number r.reason) r.at ≡ verdict names → says (number r.reason) r.at ≡ verdict all
      in_names r e = on_runs (refused_on names after_names r e)

      module _ (c : says 0 0 ≡ verdict names) where
        pub named : Holds (rule23 (places t) tree.shape)
        named = (none_refused names c).0

        pub named_few : Even t → Holds (rule23 4096 tree.shape)
        named_few e = names_more (places t) 4096 tree.shape e.few named

        pub named_kit : Even t → Holds (rule23 (length t.kit) tree.shape)
        named_kit e = subst (λ (p : ℕ). Holds (rule23 p tree.shape)) (sym e.kit) named

        on_names : {w : Verdict} → w ≡ verdict after_names → w ≡ verdict all
        on_names e = on_runs (held_on names after_names c e)

        pub in_distinct : (r : Refusal) → says (number r.reason) r.at ≡ verdict distinct → says (number r.reason) r.at ≡ verdict all
        in_distinct r e = on_names (refused_on distinct (boxes ++ kits) r e)

        module _ (d : says 0 0 ≡ verdict distinct) where
          on_distinct : {w : Verdict} → w ≡ verdict (boxes ++ kits) → w ≡ verdict all
          on_distinct e = on_names (held_on distinct (boxes ++ kits) d e)

          pub in_boxes : (r : Refusal) → says (number r.reason) r.at ≡ verdict boxes → says (number r.reason) r.at ≡ verdict all
          in_boxes r e = on_distinct (refused_on boxes kits r e)

          pub in_kits : says 0 0 ≡ verdict boxes → {w : Verdict} → w ≡ verdict kits → w ≡ verdict all
          in_kits f e = on_distinct (held_on boxes kits f e)

-- the runs of a shape that is another's
pub same_runs : {s u : Shape} {w : Verdict} → s ≡ u → w ≡ verdict (rules22 s) → w ≡ verdict (rules22 u)
same_runs e h = h ∙ ap (λ (s : Shape). verdict (rules22 s)) e
