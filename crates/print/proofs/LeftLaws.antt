-- A text written part by part: what stands, and what is left to write.
-- Assumes nothing.
use Rattle.std.proofs.Common.{ℕ, ◌≡◌, ◌∙◌, refl, sym, ap, subst, List, [], ◌++◌, length, append_assoc, arith, length-append}
use mathlib.Core.List.{append-nil}
use Rattle.print.specs.Wrote.{HasRoom, Wrote}
use Rattle.print.specs.declared.Page.{Page}
use Rattle.print.proofs.WroteLaws.{wrote_none, wrote_then, wrote_text, wrote_length}

-- of the text `all`, written on the page p, `left` is still to be written on q
pub record Left (p : Page) (all left : List ℕ) (q : Page) : Type 0 where
  pub done : List ℕ
  pub wrote : Wrote p done q
  pub whole : done ++ left ≡ all
  pub fits : HasRoom p all

pub left_all : {p : Page} (all : List ℕ) → HasRoom p all → Left p all all p
left_all {p} all h = record { done = []; wrote = wrote_none p (omega arith); whole = refl; fits = h }

-- what is left, by another name
pub left_is : {p q : Page} {all t u : List ℕ} → t ≡ u → Left p all t q → Left p all u q
left_is {p} {q} {all} e l = subst (λ t. Left p all t q) e l

pub left_none : {p q : Page} {all : List ℕ} → Left p all [] q → Wrote p all q
left_none l = wrote_text (sym (append-nil l.done) ∙ l.whole) l.wrote

pub left_room : {p q : Page} {all : List ℕ} (t u : List ℕ) → Left p all (t ++ u) q → HasRoom q t
left_room t u l = omega (arith, l.fits, ap length l.whole, length-append l.done (t ++ u), length-append t u, wrote_length l.wrote, l.wrote.puts.end)

pub left_more : {p q r : Page} {all : List ℕ} (t u : List ℕ) → Left p all (t ++ u) q → Wrote q t r → Left p all u r
left_more t u l w = record { done = l.done ++ t; wrote = wrote_then l.wrote w; whole = append_assoc l.done t u ∙ l.whole; fits = l.fits }
