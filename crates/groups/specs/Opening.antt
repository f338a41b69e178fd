-- A candidate that is opened, and the candidates that come of it, as the code has them.
-- Assumes nothing.
use Rattle.std.specs.Prelude.{◌≡◌, List, ℕ, length, take}
use Rattle.std.proofs.Math.Option.{none}
use Rattle.table.specs.Table.{Table}
use Rattle.tree.specs.Tree.{Tree}
use Rattle.closest.specs.Group.{spread}
use Rattle.closest.specs.Candidate.{member, topmost, group_of, entries_of}
use Rattle.walks.specs.Allowance.{Stand}
use Rattle.groups.specs.Members.{Member, boxes_of, things_of, Fair}
use Rattle.groups.specs.Leads.{Near, leads}
use Rattle.members.specs.declared.Best.{Best}

-- a candidate that is opened at its topmost member: it is no group, and it is not dropped
pub record Opened (t : Table) (tree : Tree) (kinds : List ℕ) (m : ℕ) (cand : List Member) (top : ℕ) (best : Best) : Type 0 where
  pub fair : Fair t tree kinds (take m cand)
  pub is : top ≡ topmost tree.shape (things_of (take m cand))
  pub whole : group_of tree.shape (things_of (take m cand)) ≡ none
  pub near : Near best (spread (boxes_of (take m cand)))
  pub eight : length best.places ≡ 8

-- from where it stands, the walk took all candidates that come of it; what it knows then does not drop the candidate either
pub record Led (t : Table) (tree : Tree) (kinds : List ℕ) (allowance m : ℕ) (cand : List Member) (top : ℕ) (from to : Stand Best) : Type 0 where
  pub led : to ≡ leads t tree kinds allowance (things_of (take m cand)) top (entries_of tree.shape (member (things_of (take m cand)) top)) from
  pub near : Near to.known (spread (boxes_of (take m cand)))
  pub eight : length to.known.places ≡ 8
