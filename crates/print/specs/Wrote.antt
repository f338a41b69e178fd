-- A text written on a page after what is written there.
-- Assumes nothing.
use Rattle.std.specs.Prelude.{ℕ, ◌+◌, ◌≡◌, ◌≤◌, List, length}
use Rattle.print.specs.Puts.{Puts}
use Rattle.print.specs.declared.Page.{Page}

-- the page has room for the text
abbrev pub HasRoom : Page → List ℕ → Type 0
HasRoom p t = p.at + length t ≤ length p.out.now

-- q is the page after the text was put on p, in the same buffer
pub record Wrote (p : Page) (t : List ℕ) (q : Page) : Type 0 where
  pub room : HasRoom p t
  pub puts : Puts p.out.now p.at t q.at q.out.now
  pub same : q.out.ghost_name ≡ p.out.ghost_name
