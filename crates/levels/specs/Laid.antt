-- Columns that hold the builder's levels, runs and entry list, and may be longer.
-- Assumes nothing.
use Rattle.std.specs.Prelude.{◌≡◌, List, ℕ, suc, ◌+◌, ◌-◌, ◌≤◌, ◌<◌, length, get_or}
use Rattle.order.specs.Order.{order}
use Rattle.table.specs.Table.{Table, places}
use Rattle.tree.specs.Tree.{Shape}
use Rattle.levels.specs.Levels.{nodes, listed, level_at, start_at, count_at}

-- a column says f of each of the first n numbers
pub record Says {A : Type 0} (d : A) (n : ℕ) (f : ℕ → A) (column : List A) : Type 0 where
  pub room : n ≤ length column
  pub at : (m : ℕ) → m < n → get_or column m d ≡ f m

pub record Laid (t : Table) (s : Shape) : Type 0 where
  pub few : places t ≤ 4096
  pub level : Says 0 (nodes (places t)) (level_at (places t)) s.level
  pub start : Says 0 (nodes (places t)) (start_at (places t)) s.start
  pub count : Says 0 (nodes (places t)) (count_at (places t)) s.count
  pub long : listed (places t) ≤ length s.entries
  pub node : (i : ℕ) → suc i < nodes (places t) → get_or s.entries i 0 ≡ suc i
  pub place : (r : ℕ) → r < places t → get_or s.entries (nodes (places t) - 1 + r) 0 ≡ get_or (order t.x t.y) r 0
