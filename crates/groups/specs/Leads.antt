-- Where the walk stands after some candidates, with what the code knows.
-- Assumes nothing.
use Rattle.std.specs.Prelude.{◌≡◌, Bool, true, false, List, ℕ, suc, ◌≤◌, get_or}
use Rattle.std.proofs.Math.Option.{Option, none, some}
use Rattle.kit.specs.Kit.{padded}
use Rattle.table.specs.Table.{Table}
use Rattle.tree.specs.Tree.{Tree, Thing}
use Rattle.walks.specs.Allowance.{Stand, advance}
use Rattle.walks.specs.Walk.{Memory, walk, chain}
use Rattle.closest.specs.Group.{diameter}
use Rattle.closest.specs.Candidate.{levels, replaced, scene, too_far}
use Rattle.closest.specs.Walk.{holds, boxes}
use Rattle.members.specs.Best.{improved}
use Rattle.members.specs.declared.Best.{Best}

-- the memory of the code: the bound is the best's square, and a group becomes the best if it is better
abbrev pub bound_of : Bool → ℕ → Option ℕ
bound_of true squared = some squared
bound_of false squared = none

abbrev pub kept : Table → Memory (List ℕ) Best
kept t = record { bound = λ b. bound_of b.known b.squared; learn = λ b g. improved (padded g) (diameter t g) b }

-- the best known after each step of taking a candidate and all below it
abbrev pub walk_best : Table → Tree → List ℕ → List Thing → Best → List Best
walk_best t tree kinds c b = walk (scene tree.shape (holds t tree) kinds) (kept t) (too_far (boxes t tree) kinds) (suc (levels tree.shape c)) c b

-- a spread that the best does not drop
abbrev pub Near : Best → ℕ → Type 0
Near b d = b.known ≡ true → d ≤ b.squared

-- where the walk stands after each of some candidates was taken by g
abbrev pub ahead : {C K : Type 0} → ℕ → (C → K → List K) → List C → Stand K → Stand K
ahead a g cs w = advance a (chain g cs w.known) w

-- where it stands after member i of c was replaced by each of some things; the candidates below c are walked with one level less
unfoldable pub leads : Table → Tree → List ℕ → ℕ → List Thing → ℕ → List Thing → Stand Best → Stand Best
leads t tree kinds a c i ys w =
    ahead a (λ d b. walk (scene tree.shape (holds t tree) kinds) (kept t) (too_far (boxes t tree) kinds) (levels tree.shape c) d b)
    (replaced (holds t tree (get_or kinds i 0)) c i ys) w
