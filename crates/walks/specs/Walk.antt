-- A walk over candidates C that drops by what it knows, K, of the groups G that it has met.
-- Assumes nothing.
use Rattle.std.specs.Prelude.{Bool, true, false, List, [], ◌∷◌, ◌++◌, ℕ, zero, suc}
use Rattle.std.proofs.Math.Option.{Option, none, some}
use Rattle.walks.specs.Lists.{each}

-- what candidates are: the group that one is where all its members are places, and else the candidates right below it, in order
pub record Scene (C G : Type 0) : Type 0 where
  pub group : C → Option G
  pub below : C → List C

-- what is known: the square above which a group is of no use, if there is one, and what a group adds
pub record Memory (G K : Type 0) : Type 0 where
  pub bound : K → Option ℕ
  pub learn : K → G → K

-- the last of a list, or k where it is empty
unfoldable pub final : {K : Type 0} → K → List K → K
final k [] = k
final k (a ∷ l) = final a l

-- what taking each of some candidates gives, one after the other, each from what the one before left
unfoldable pub chain : {C K : Type 0} → (C → K → List K) → List C → K → List K
chain take [] k = []
chain take (c ∷ cs) k = take c k ++ chain take cs (final k (take c k))

module _ {C G K : Type 0} (s : Scene C G) (m : Memory G K) (far : C → ℕ → Bool) where
  -- step 1: a candidate is dropped where something is known and the candidate is too far for it
  unfoldable pub dropped : C → K → Bool
  dropped c k = elim (m.bound k) [ none ↦ false | some d ↦ far c d ]

  -- what is known after each step of taking c and all below it, one element for each candidate taken; fuel bounds the depth.
  -- A dropped candidate teaches nothing, a group is learnt, and any other candidate is opened
  unfoldable pub walk : ℕ → C → K → List K
  walk zero c k = []
  walk (suc fuel) c k =
      elim (dropped c k) [
        | true ↦ k ∷ []
        | false ↦ elim (s.group c) [ some g ↦ m.learn k g ∷ [] | none ↦ k ∷ chain (λ d e. walk fuel d e) (s.below c) k ]
      ]

-- the groups at or below c, in the order of the walk without dropping
unfoldable pub reach : {C G : Type 0} → Scene C G → ℕ → C → List G
reach s zero c = []
reach s (suc fuel) c = elim (s.group c) [ some g ↦ g ∷ [] | none ↦ each (λ d. reach s fuel d) (s.below c) ]
