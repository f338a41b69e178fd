-- The lines of the first places, written one place after the other.
-- Assumes nothing.
use Rattle.std.proofs.Common.{ℕ, zero, suc, ◌+◌, ◌-◌, ◌≤◌, ◌<◌, ◌≡◌, ap, ◌++◌, length, arith, add-one, length-append}
use Rattle.table.specs.Table.{Table, places}
use Rattle.print.specs.Wrote.{HasRoom, Wrote}
use Rattle.print.specs.declared.Page.{Page}
use Rattle.print.proofs.WroteLaws.{wrote_none, wrote_then, wrote_text, room_next}
use Rattle.rows.specs.Pieces.{text_at, places_text}

-- the lines of one place more
places_next : (t : Table) (k : ℕ) → places_text t k ++ text_at t k ≡ places_text t (k + 1)
unfolding places_text
places_next t k = rw add-one

places_longer : (t : Table) (k n : ℕ) → length (places_text t k) ≤ length (places_text t (n + k))
places_longer t k zero = let e : k ≡ 0 + k = omega arith in omega (arith, ap (λ (j : ℕ). length (places_text t j)) e)
places_longer t k (suc n) =
    let e : n + k + 1 ≡ suc n + k = omega arith in
    omega (arith, places_longer t k n, ap length (places_next t (n + k)), length-append (places_text t (n + k)) (text_at t (n + k)), ap (λ (j : ℕ). length (places_text t j)) e)

-- the lines of the first k places are written: no more than room for all is needed
module _ (t : Table) {p : Page} (fits : HasRoom p (places_text t (places t))) where
  pub no_place : Wrote p (places_text t 0) p
  unfolding places_text
  no_place = wrote_none p (omega (arith, fits))

  module _ (k : ℕ) {q : Page} (w : Wrote p (places_text t k) q) where
    pub place_room : k < places t → HasRoom q (text_at t k)
    place_room less =
        let n = places t - (k + 1) in
        let e : n + (k + 1) ≡ places t = omega arith in
        let next : HasRoom p (places_text t k ++ text_at t k) = omega (arith, fits, places_longer t (k + 1) n, ap length (places_next t k), ap (λ (j : ℕ). length (places_text t j)) e) in
        room_next (text_at t k) w next

    pub place_more : {r : Page} → Wrote q (text_at t k) r → Wrote p (places_text t (k + 1)) r
    place_more v = wrote_text (places_next t k) (wrote_then w v)
