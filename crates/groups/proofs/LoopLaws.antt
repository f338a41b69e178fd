-- What the loop over the run of an opened candidate keeps, and how it ends.
-- Assumes nothing.
use mathlib.Core.Path.{◌≡◌, sym, ap, ap₂, subst, ◌∙◌}
use mathlib.Core.Bool.{Bool, true, false}
use mathlib.Core.List.{List, map}
use mathlib.Core.Option.{none, some}
use Prim.Native.Nat.{ℕ, ◌+◌, ◌≤◌, ◌<◌}
use native.Mathlib.Omega.{arith}
use lib.Dec.{ltb}
use lib.ListN.{length, take, drop, get_or, set, length-map}
use Rattle.kit.specs.Kit.{padded}
use Rattle.table.specs.Table.{Table}
use Rattle.tree.specs.Tree.{Tree, Thing, node, box_of}
use Rattle.members.specs.Boxes.{without}
use Rattle.members.specs.Best.{improved}
use Rattle.walks.specs.Allowance.{Stand, stand}
use Rattle.walks.specs.Order.{before}
use Rattle.closest.specs.Group.{farthest, spread, diameter}
use Rattle.closest.specs.Candidate.{number, member, topmost, group_of, entry, entries_of, boxes_in}
use Rattle.closest.specs.Walk.{holds, boxes}
use Rattle.closest.proofs.CandidateLaws.{group_is}
use Rattle.groups.specs.Members.{Member, Placed, boxes_of, thing_of, things_of}
use Rattle.groups.specs.Opening.{Led}
use Rattle.groups.specs.Leads.{Near, leads}
use Rattle.members.specs.declared.Best.{Best}
use Rattle.groups.specs.declared.Opening.{Opening}
use Rattle.groups.proofs.Opens.{Last}
use Rattle.groups.proofs.MemberLaws.{whole_spread}
use Rattle.groups.proofs.OpenLaws.{placed}
use Rattle.groups.proofs.RunLaws.{in_run}
use Rattle.groups.proofs.StepLaws.{again_not, ended, turn_spent}
use Rattle.groups.proofs.TurnLaws.{at_spent, at_far, at_whole, at_more}
use Rattle.groups.proofs.NextLaws.{Ready, inside, lower, next, next_long, next_fair, next_things, next_spread, next_rises, comes, dropped_far}

-- the best is the old one, or the group that it was offered
improved_is : (P : Best → Type 0) (g : List ℕ) (d : ℕ) (b : Best) → P (record { known = true; squared = d; places = g }) → P b → P (improved g d b)
unfolding improved
improved_is P g d b new old = go b.known (ltb d b.squared) (ltb b.squared d) (before g b.places)
  where
    made : Best
    made = record { known = true; squared = d; places = g }

    go : (u v w x : Bool) → P (elim u as (λ _. Best) [ false ↦ made | true ↦ elim v [ true ↦ made | false ↦ elim w [ true ↦ b | false ↦ elim x [ true ↦ made | false ↦ b ] ] ] ])
    go false v w x = new
    go true true w x = new
    go true false true x = old
    go true false false true = new
    go true false false false = old

-- up to entry k of the run: what is left leads to where all led, and what is known drops the opened candidate no more than before
pub record Going (t : Table) (tree : Tree) (kinds : List ℕ) (allowance m : ℕ) (cand : List Member) (o : Opening) (from : Stand Best) (steps : ℕ) (best : Best) (k : ℕ) : Type 0 where
  pub some : k ≤ o.many
  pub led : leads t tree kinds allowance (things_of (take m cand)) o.top (drop k (entries_of tree.shape (node o.node))) (stand steps false best)
      ≡ leads t tree kinds allowance (things_of (take m cand)) o.top (entries_of tree.shape (node o.node)) from
  pub near : Near best (spread (boxes_of (take m cand)))
  pub eight : length best.places ≡ 8

module _ {t : Table} {tree : Tree} {kinds : List ℕ} {m : ℕ} {cand : List Member} {o : Opening} (r : Ready t tree kinds m cand o) (allowance : ℕ) (from : Stand Best) where
  abbrev c : List Thing
  c = things_of (take m cand)

  abbrev Goes : ℕ → Best → ℕ → Type 0
  Goes steps best k = Going t tree kinds allowance m cand o from steps best k

  abbrev Ends : Stand Best → Type 0
  Ends to = Led t tree kinds allowance m cand o.top from to

  ends : {to : Stand Best} → to ≡ leads t tree kinds allowance c o.top (entries_of tree.shape (node o.node)) from → Near to.known (spread (boxes_of (take m cand))) → length to.known.places ≡ 8 → Ends to
  ends e n l = record { led = e ∙ ap (λ (x : Thing). leads t tree kinds allowance c o.top (entries_of tree.shape x) from) (sym r.opens.is); near = n; eight = l }

  module _ {steps : ℕ} {best : Best} {k : ℕ} (g : Goes steps best k) where
    pub over : o.many ≤ k → Ends (stand steps false best)
    over h = ends (sym (ended t tree kinds allowance c o.top o.node k (stand steps false best) (omega (arith, h, r.opens.many))) ∙ g.led) g.near g.eight

    module _ (b : k < o.many) where
      abbrev y : Thing
      y = entry tree.shape o.node k

      pub skips : holds t tree (get_or kinds o.top 0) y ≡ false → Goes steps best (k + 1)
      skips h = record { some = omega arith; led = sym (again_not t tree kinds allowance c o.top o.node k (stand steps false best) (in_run r.passes r.opens k b) h) ∙ g.led; near = g.near; eight = g.eight }

      module _ (held : holds t tree (get_or kinds o.top 0) y ≡ true) where
        pub spends : {now : ℕ} → (allowance ≤ steps) × (now ≡ steps) → Ends (stand now true best)
        spends (h, e) =
            subst (λ (n : ℕ). Ends (stand n true best)) (sym e)
            (ends
            (sym (at_spent t tree kinds allowance c o.top o.node k (in_run r.passes r.opens k b) held (inside r) (lower r k b) steps best h) ∙ g.led)
            g.near
            g.eight)

        module _ {now : ℕ} (taken : (steps < allowance) × (now ≡ steps + 1)) where
          abbrev room : steps < allowance
          room = taken.0

          counted : {z : Best} → Goes (steps + 1) z (k + 1) → Goes now z (k + 1)
          counted {z} q = subst (λ (n : ℕ). Goes n z (k + 1)) (sym taken.1) q

          -- how far the entry is from the others
          abbrev far : ℕ
          far = farthest (box_of t tree.sides y) (without o.top (boxes_of (take m cand)))

          pub drops : best.known ≡ true → best.squared < far → Goes now best (k + 1)
          drops f h = counted (record {
            some = omega arith;
            led = sym (at_far t tree kinds allowance c o.top o.node k (in_run r.passes r.opens k b) held (inside r) (lower r k b) steps best room f (omega (arith, next_spread r k b, dropped_far r k b best g.near h))) ∙ g.led;
            near = g.near;
            eight = g.eight;
          })

          module _ (h : Near best far) where
            near_next : Near best (spread (boxes_in (boxes t tree) kinds (set c o.top y)))
            near_next e = omega (arith, next_spread r k b, comes r k b best g.near h e)

            -- the candidate is a group
            pub learns : {places : List ℕ} {d : ℕ} {new : Best} → Last tree c o.top → places ≡ map number (set c o.top y) → length (padded places) ≡ 8 → d ≡ spread (boxes_of (take m (next r k b))) →
                new ≡ improved (padded places) d best → Goes now new (k + 1)
            learns {places} {d} {new} last e eight q i = counted (record {
              some = omega arith;
              led = ap (λ (z : Best). leads t tree kinds allowance c o.top (drop (k + 1) (entries_of tree.shape (node o.node))) (stand (steps + 1) false z)) (i ∙ ap₂ (λ (z : List ℕ) (n : ℕ). improved (padded z) n best) e wide)
                  ∙ sym (at_whole t tree kinds allowance c o.top o.node k (in_run r.passes r.opens k b) held (inside r) (lower r k b) steps best room near_next whole)
                  ∙ g.led;
              near = subst (λ (z : Best). Near z (spread (boxes_of (take m cand)))) (sym i)
                  (improved_is (λ (z : Best). Near z (spread (boxes_of (take m cand)))) (padded places) d best (λ _. omega (arith, q, next_rises r k b)) g.near);
              eight = subst (λ (z : Best). length z.places ≡ 8) (sym i) (improved_is (λ (z : Best). length z.places ≡ 8) (padded places) d best eight g.eight);
            })
              where
                whole : group_of tree.shape (set c o.top y) ≡ some (map number (set c o.top y))
                whole = last y (lower r k b)

                standing : Placed tree (set c o.top y)
                standing = subst (Placed tree) (next_things r k b) (placed r.passes kinds m (next r k b) (next_long r k b) (next_fair r k b))

                size : length kinds ≡ length (set c o.top y)
                size = sym (next_fair r k b).size ∙ sym (length-map (take m (next r k b)) thing_of) ∙ ap length (next_things r k b)

                wide : d ≡ diameter t (map number (set c o.top y))
                wide = q ∙ next_spread r k b ∙ whole_spread t tree kinds (set c o.top y) size standing ((group_is tree.shape (set c o.top y) whole).0 (topmost tree.shape (set c o.top y)))

            -- the candidate was opened, and all below it was taken
            module _ (more : group_of tree.shape (set c o.top y) ≡ none) {v : Stand Best}
                (e : Led t tree kinds allowance m (next r k b) (topmost tree.shape (set c o.top y)) (stand now false best) v) where
              near_still : Near v.known (spread (boxes_of (take m cand)))
              near_still i = omega (arith, e.near i, next_rises r k b)

              took : leads t tree kinds allowance c o.top (drop (k + 1) (entries_of tree.shape (node o.node))) v ≡ leads t tree kinds allowance c o.top (entries_of tree.shape (node o.node)) from
              took =
                  sym (at_more t tree kinds allowance c o.top o.node k (in_run r.passes r.opens k b) held (inside r) (lower r k b) steps best room near_next more v
                  (e.led
                  ∙ ap (λ (n : ℕ). leads t tree kinds allowance (things_of (take m (next r k b))) (topmost tree.shape (set c o.top y)) (entries_of tree.shape (member (things_of (take m (next r k b))) (topmost tree.shape (set c o.top y)))) (stand n false best)) taken.1
                  ∙ ap (λ (d : List Thing). leads t tree kinds allowance d (topmost tree.shape (set c o.top y)) (entries_of tree.shape (member d (topmost tree.shape (set c o.top y)))) (stand (steps + 1) false best)) (next_things r k b)))
                  ∙ g.led

              pub goes_on : v.spent ≡ false → Goes v.steps v.known (k + 1)
              goes_on f = record { some = omega arith; led = ap (λ (w : Bool). leads t tree kinds allowance c o.top (drop (k + 1) (entries_of tree.shape (node o.node))) (stand v.steps w v.known)) (sym f) ∙ took; near = near_still; eight = e.eight }

              pub stops : v.spent ≡ true → Ends v
              stops f = ends (sym (turn_spent t tree kinds allowance c o.top (drop (k + 1) (entries_of tree.shape (node o.node))) v f) ∙ took) near_still e.eight
