-- One text written after another is the two as one.
-- Assumes nothing.
use Rattle.std.proofs.Common.{◌≤◌, ℕ, ◌≡◌, ◌∙◌, subst, List, [], ◌++◌, refl, length, arith, length-append}
use lib.Seq.{paste-zero}
use Rattle.print.specs.Wrote.{Wrote, HasRoom}
use Rattle.print.specs.declared.Page.{Page}
use Rattle.print.proofs.PutLaws.{puts_long, puts_then}

pub wrote_then : {p q r : Page} {t u : List ℕ} → Wrote p t q → Wrote q u r → Wrote p (t ++ u) r
wrote_then {p} {q} {r} {t} {u} f g =
    let fits : HasRoom p (t ++ u) = omega (arith, f.room, g.room, f.puts.end, puts_long f.room f.puts, length-append t u) in
    record { room = fits; puts = puts_then u fits f.puts g.puts; same = g.same ∙ f.same }

-- nothing written
pub wrote_none : (p : Page) → p.at ≤ length p.out.now → Wrote p [] p
wrote_none p h = record { room = omega arith; puts = record { end = omega arith; bytes = paste-zero p.out.now p.at [] }; same = refl }

-- the same by the text's name
pub wrote_text : {p q : Page} {t u : List ℕ} → t ≡ u → Wrote p t q → Wrote p u q
wrote_text {p} {q} e w = subst (λ t. Wrote p t q) e w

-- a page keeps its length
pub wrote_length : {p q : Page} {t : List ℕ} → Wrote p t q → length q.out.now ≡ length p.out.now
wrote_length w = puts_long w.room w.puts

-- of two texts the second has room after the first
pub room_next : {p q : Page} {t : List ℕ} (u : List ℕ) → Wrote p t q → HasRoom p (t ++ u) → HasRoom q u
room_next {t = t} u w h = omega (arith, length-append t u, wrote_length w, w.puts.end)
