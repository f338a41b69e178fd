-- A memory of the best group ends with the best of all that it was told.
-- Assumes nothing.
use mathlib.Core.Path.{◌≡◌, refl, ap}
use mathlib.Core.Bool.{Bool, true, false}
use mathlib.Core.List.{List, [], ◌∷◌}
use mathlib.Core.Option.{Option, none, some, none-ne-some}
use mathlib.Core.Logic.{◌⊎◌, inl, inr, ⊎_elim}
use Prim.Native.Nat.{ℕ, ◌≤◌, ◌<◌}
use native.Mathlib.Omega.{arith}
use Rattle.walks.specs.Lists.{In, fold}
use Rattle.walks.specs.Order.{Order}
use Rattle.walks.specs.Best.{BestOf, improve, bound_by, best}
use Rattle.walks.proofs.WalkLaws.{Lawful}
use Rattle.walks.proofs.OrderLaws.{clash, not_true}

-- the best goes by which groups there are
pub best_iff : {G : Type 0} (better : G → G → Bool) (P Q : G → Type 0) → ((g : G) → P g → Q g) → ((g : G) → Q g → P g) → (k : Option G) → BestOf better P k → BestOf better Q k
best_iff better P Q f h none b = λ g q. b g (h g q)
best_iff better P Q f h (some a) b = (f a b.0, λ g q. b.1 g (h g q))

module _ {G : Type 0} {better : G → G → Bool} (o : Order better) where
  -- there is one best at most
  pub best_unique : (P : G → Type 0) (k l : Option G) → BestOf better P k → BestOf better P l → k ≡ l
  best_unique P none none a b = refl
  best_unique P none (some h) a b = absurd (a h b.0)
  best_unique P (some g) none a b = absurd (b g a.0)
  best_unique P (some g) (some h) a b = ap some (o.total g h (b.1 g a.0) (a.1 h b.0))

  best_step : (P : G → Type 0) (k : Option G) (g : G) → BestOf better P k → BestOf better (λ h. P h ⊎ (h ≡ g)) (improve better k g)
  unfolding improve
  best_step P none g b = (inr refl, λ h p. ⊎_elim (λ q. absurd (b h q)) (λ e. rw e (o.irrefl g)) p)
  best_step P (some a) g b = go (better g a) refl
    where
      go : (u : Bool) → better g a ≡ u → BestOf better (λ h. P h ⊎ (h ≡ g)) (elim u [ true ↦ some g | false ↦ some a ])
      go true e = (inr refl, λ h p. ⊎_elim (λ q. not_true _ (λ l. clash (o.trans h g a l e) (b.1 h q))) (λ q. rw q (o.irrefl g)) p)
      go false e = (inl b.0, λ h p. ⊎_elim (λ q. b.1 h q) (λ q. rw q e) p)

  best_fold : (P Q : G → Type 0) (k : Option G) (l : List G) → ((g : G) → Q g → P g ⊎ In g l) → ((g : G) → P g → Q g) → ((g : G) → In g l → Q g) → BestOf better P k → BestOf better Q (fold (improve better) k l)
  unfolding fold
  best_fold P Q k [] q p i b = best_iff better P Q p (λ g h. ⊎_elim (λ a. a) (λ a. absurd a) (q g h)) k b
  best_fold P Q k (a ∷ l) q p i b =
      best_fold (λ g. P g ⊎ (g ≡ a)) Q (improve better k a) l (λ g h. ⊎_elim (λ x. inl (inl x)) (λ x. ⊎_elim (λ e. inl (inr e)) (λ y. inr y) x) (q g h))
      (λ g h. ⊎_elim (p g) (λ e. i g (inl e)) h) (λ g h. i g (inr h)) (best_step P k a b)

  -- told a list, the memory ends with the best of the groups that the list has
  pub best_of : (P : G → Type 0) (l : List G) → ((g : G) → In g l → P g) → ((g : G) → P g → In g l) → BestOf better P (fold (improve better) none l)
  best_of P l f h = best_fold (λ g. ⊥) P none l (λ g p. inr (h g p)) (λ g p. absurd p) f (λ g p. p)

-- where the better of two has no greater square, a group above the bound is not better
pub best_lawful : {G : Type 0} (better : G → G → Bool) (square : G → ℕ) → ((g h : G) → better g h ≡ true → square g ≤ square h) → Lawful (best better square) square (λ k. Unit {0})
unfolding improve
best_lawful {G} better square less = record { ok = λ k g u. tt; keeps = λ k g d u. keeps k g d }
  where
    keeps : (k : Option G) (g : G) (d : ℕ) → bound_by square k ≡ some d → d < square g → improve better k g ≡ k
    keeps none g d e h = absurd (none-ne-some d e)
    keeps (some b) g d e h =
        let same : square b ≡ d = cc in
        rw (improve, not_true (better g b) (λ p. omega (arith, less g b p)))
