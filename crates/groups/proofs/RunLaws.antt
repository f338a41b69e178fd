-- The run of an opened candidate: what its entries are and where they are read.
-- Assumes nothing.
use mathlib.Core.Path.{◌≡◌, sym, ap₂, subst, ◌∙◌}
use mathlib.Core.Bool.{Bool}
use mathlib.Core.List.{List}
use Prim.Native.Nat.{ℕ, ◌+◌, ◌<◌}
use native.Mathlib.Omega.{arith}
use lib.ListN.{length, take, get_or}
use lib.Seq.{get_or-take}
use Rattle.table.specs.Table.{Table}
use Rattle.tree.specs.Tree.{Tree, thing, count_of}
use Rattle.closest.specs.Candidate.{entry}
use Rattle.groups.specs.Members.{Member, Real, Few, Passes}
use Rattle.groups.specs.declared.Opening.{Opening}
use Rattle.groups.proofs.Opens.{Opens}
use Rattle.groups.proofs.EntryLaws.{Reads, reads_of, entry_listed, entry_few, entry_real}

-- a wanted kind is one of 64
pub kind_small : {tree : Tree} (kinds : List ℕ) (m : ℕ) {cand : List Member} {o : Opening} → Opens tree (take m kinds) m cand o → Few m kinds → o.kind < 64
kind_small kinds m {o = o} opens few = omega (arith, opens.kind ∙ get_or-take m kinds o.top 0 opens.inside, few.small o.top opens.inside)

module _ {t : Table} {tree : Tree} (p : Passes t tree) {kinds : List ℕ} {m : ℕ} {cand : List Member} {o : Opening} (opens : Opens tree kinds m cand o) (k : ℕ) (b : k < o.many) where
  pub in_run : k < count_of tree.shape o.node
  in_run = omega (arith, b, opens.many)

  pub in_list : o.first + k < length tree.shape.entries
  in_list = omega (arith, opens.first, entry_listed p o.node k opens.there in_run)

  pub in_few : o.first + k < 65536
  in_few = omega (arith, opens.first, entry_few p o.node k opens.there in_run)

  pub is_entry : thing o.leaf (get_or tree.shape.entries (o.first + k) 0) ≡ entry tree.shape o.node k
  is_entry = ap₂ (λ (u : Bool) (f : ℕ). thing u (get_or tree.shape.entries (f + k) 0)) opens.leaf opens.first

  pub real : Real t tree (entry tree.shape o.node k)
  real = entry_real p o.node k opens.there in_run

  pub reads : Reads p o.leaf (get_or tree.shape.entries (o.first + k) 0)
  reads = reads_of p o.leaf (get_or tree.shape.entries (o.first + k) 0) (subst (Real t tree) (sym is_entry) real)
