use Rattle.std.proofs.Common.{◌≡◌, [], ◌∷◌, ℕ, refl, arith}
use mathlib.Core.Logic.{⊎_elim}
use Rattle.verdict.specs.Rules.{verdict, says}
use Rattle.verdict.proofs.RuleLaws.{breaks_at, holds_all}
use Rattle.tree.specs.declared.Lengths.{Lengths}
use Rattle.tree.specs.Rules.{Counted, rule21}
use Rattle.shapes.proofs.counted.Goals as goal
use Rattle.shapes.proofs.counted.Goals.{then-places-eq0-via-then-places-eq0, then-places-eq0-via-else-places-eq0+then-listed-places, then-nodes-eq0+else-places-ne0+else-listed-ne0, else-nodes-eq0+else-places-eq0+else-listed-places}

-- rule 21 is looked at in one place only
module _ {p nodes listed : ℕ} {l : Lengths} where
  breaks : (Counted p nodes listed l → ⊥) → says 21 0 ≡ verdict (rule21 p nodes listed l ∷ [])
  breaks h = breaks_at (rule21 p nodes listed l) refl [] 0 (omega arith) (λ j b. absurd (omega arith)) h

  holds : Counted p nodes listed l → says 0 0 ≡ verdict (rule21 p nodes listed l ∷ [])
  holds h = holds_all (rule21 p nodes listed l) refl (λ _ _. h)

pub returns-then-nodes-gt2048 : goal.returns-then-nodes-gt2048
returns-then-nodes-gt2048 c = breaks (λ h. omega (arith, h.few, c.if-nodes-gt2048.true))

pub returns-then-places-ne0 : goal.returns-then-places-ne0
returns-then-places-ne0 c =
    breaks (λ h. ⊎_elim (λ w. w (h.empty.0 c.if-nodes-eq0.true)) (λ w. w.1 (omega (arith, h.all, c.if-nodes-eq0.true, w.0))) c.then-places-ne0.either)

pub returns-then-places-eq0 : goal.returns-then-places-eq0
returns-then-places-eq0 c =
    let ways = c.then-places-eq0.branch in
    breaks
    (λ h.
    let due = h.all in
    elim ways [
      | then-places-eq0-via-then-places-eq0 w ↦ c.if-nodes-eq0.false (h.empty.1 w.if-places-eq0.true)
      | then-places-eq0-via-else-places-eq0+then-listed-places w ↦ w.if-listed-places.true due
    ])

pub returns-then-not-has_room : goal.returns-then-not-has_room
returns-then-not-has_room c = breaks (λ h. c.has_room.ensures.fails c.if-not-has_room.true h.room)

pub returns : goal.returns
returns c =
    holds
    (elim c.if-nodes-eq0.branch [
      | then-nodes-eq0+else-places-ne0+else-listed-ne0 w ↦ record {
        empty = (λ _. w.if-places-ne0.false, λ _. w.if-nodes-eq0.true);
        few = omega arith;
        all = omega (arith, w.if-places-ne0.false, w.if-nodes-eq0.true, w.if-listed-ne0.false);
        room = c.has_room.ensures.holds c.if-not-has_room.false;
      }
      | else-nodes-eq0+else-places-eq0+else-listed-places w ↦ record {
        empty = (λ e. absurd (w.if-nodes-eq0.false e), λ e. absurd (w.if-places-eq0.false e));
        few = omega arith;
        all = omega (arith, w.if-listed-places.false);
        room = c.has_room.ensures.holds c.if-not-has_room.false;
      }
    ])
