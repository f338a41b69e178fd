-- What `==` on spans and boxes says: that the two are the same.
-- Assumes nothing.
use mathlib.Core.Path.{◌≡◌, refl, sym, ap, ap₂, ◌∙◌}
use mathlib.Core.Bool.{Bool, true, false, not, ◌&&◌}
use Rattle.std.specs.Bool.{Decides}
use Rattle.std.specs.Ordering.{int_eq}
use Rattle.std.proofs.lemmas.Bool.Decides.{Decides-int_eq}
use Rattle.plane.specs.Plane.{span, box}
use Rattle.plane.specs.declared.Span.{Span}
use Rattle.plane.specs.declared.Box.{Box}
use Rattle.plane.proofs.WholeLaws.{false_not_true}

-- two things that are each decided, together
both : {P Q R : Type 0} (s t : Bool) → Decides s P → Decides t Q → (P → Q → R) → (R → P) → (R → Q) → Decides (s && t) R
both true true h k f g l = (λ e. f (h.0 refl) (k.0 refl), λ r. refl)
both true false h k f g l = (λ e. absurd (false_not_true e), λ r. k.1 (l r))
both false t h k f g l = (λ e. absurd (false_not_true e), λ r. h.1 (g r))

pub span_test : (s t : Span) → Decides (int_eq s.lo t.lo && int_eq s.hi t.hi) (s ≡ t)
span_test s t =
    both _ _ (Decides-int_eq s.lo t.lo) (Decides-int_eq s.hi t.hi) (ap₂ span) (ap (λ (u : Span). u.lo)) (ap (λ (u : Span). u.hi))

pub box_test : (b c : Box) → Decides ((int_eq b.x.lo c.x.lo && int_eq b.x.hi c.x.hi) && (int_eq b.y.lo c.y.lo && int_eq b.y.hi c.y.hi)) (b ≡ c)
box_test b c = both _ _ (span_test b.x c.x) (span_test b.y c.y) (ap₂ box) (ap (λ (d : Box). d.x)) (ap (λ (d : Box). d.y))

told : {P : Type 0} {r s : Bool} → r ≡ s → Decides s P → Decides r P
told e d = (λ t. d.0 (sym e ∙ t), λ p. e ∙ d.1 p)

-- and what `!=` on boxes says
pub other_boxes : {b c : Box} {r : Bool} → r ≡ not ((int_eq b.x.lo c.x.lo && int_eq b.x.hi c.x.hi) && (int_eq b.y.lo c.y.lo && int_eq b.y.hi c.y.hi))
    → (r ≡ true → b ≡ c → ⊥) × (r ≡ false → b ≡ c)
other_boxes {b} {c} e = apart _ e (box_test b c)
  where
    apart : {P : Type 0} {r : Bool} (s : Bool) → r ≡ not s → Decides s P → (r ≡ true → P → ⊥) × (r ≡ false → P)
    apart true e d = (λ t p. false_not_true (sym e ∙ t), λ f. d.0 refl)
    apart false e d = (λ t p. false_not_true (d.1 p), λ f. absurd (false_not_true (sym f ∙ e)))
