-- A line that is read in one go: a key, a value in form, a line feed.
-- Assumes nothing.
use Prim.Native.Nat.{ℕ, zero, suc, ◌+◌, ◌-◌, ◌≤◌, ◌<◌}
use mathlib.Core.Path.{◌≡◌, refl, ap, ap₂, sym, ◌∙◌, subst}
use mathlib.Core.Bool.{Bool, true, false, true≢false, false≢true}
use mathlib.Core.List.{List, [], ◌∷◌, ◌++◌, append_assoc}
use native.Mathlib.Omega.{arith}
use lib.Dec.{T}
use lib.IntN.{ℤ, pos}
use lib.ListN.{length, take, drop, get_or, length-take, length-drop, length-append, take-append-drop}
use lib.Seq.{take_all, drop-drop, drop-cons, get_or-take, drop-append-add}
use mir.Syntax.{w32}
use mir.Val.{to_z, of_z, bool_byte as from_bool}
use mir.Facts.{to_z-of_z}
use Rattle.lines.specs.Text.{NoZero, minus}
use Rattle.lines.specs.Form.{Form, natural, coordinate}
use Rattle.lines.specs.Line.{fair, got, read_line, line_text}
use Rattle.lines.proofs.FormLaws.{Sound, number_form, form_number}
use Rattle.readers.proofs.SignedLaws.{minus_good, plain_good, minus_fits}
use Rattle.readers.proofs.ParseLaws.{Sofar, led_empty}
use Rattle.lines.proofs.PartLaws.{lawful_line}
use Rattle.std.specs.Str.{bytes_eq}
use Rattle.std.proofs.lemmas.Slice.Eq.{bytes_eq-Decides}
use Rattle.std.specs.Prelude.{Option, Some, None, IfSome}
use Rattle.quick.specs.declared.Run.{Run}
use Rattle.quick.specs.Quick.{with_sign, Leads, Follows, ReadsWell}

-- the part of a text from n on
rest_of : (n : ℕ) (t : List ℕ) → take (length t - n) (drop n t) ≡ drop n t
rest_of n t = take_all (length t - n) (drop n t) (omega (arith, length-drop n t))

-- a number
pub number_leads : (most : ℕ) (t : List ℕ) → most ≤ 4294967295 → (a i : ℕ) → Sofar 10 t a i → i < length t → get_or t i 0 ≡ 10 → a ≤ most → NoZero (take i t) → Leads (natural most) t (i + 1) a
number_leads most t small a i s h e m z = record { width = i; counts = refl; within = h; feed = e; form = form_number most (omega arith) (take i t) s.digits z (omega (arith, s.value)); value = s.value }

-- a coordinate is a number, or a number but 0 after a minus
plain_leads : (t : List ℕ) (c v : ℕ) → (get_or t 0 0 ≡ 45 → ⊥) → Leads (natural 1000000) t c v → Leads (coordinate 1000000) t c (pos v)
plain_leads t c v n l =
    let g = plain_good 1000000 (omega arith) (take l.width t) plain l.form in
    record { width = l.width; counts = l.counts; within = l.within; feed = l.feed; form = g.0; value = ap pos l.value ∙ sym g.1 }
  where
    some : length (take l.width t) ≡ 0 → ⊥
    some e = led_empty (take l.width t) e (number_form 1000000 (omega arith) (take l.width t) l.form).1.0

    plain : get_or (take l.width t) 0 0 ≡ 45 → ⊥
    plain e = n (sym (get_or-take l.width t 0 0 (omega (arith, some, length-take l.width t))) ∙ e)

minus_leads : (t : List ℕ) (c v : ℕ) → get_or t 0 0 ≡ 45 → Leads (natural 1000000) (drop 1 t) c v → (v ≡ 0 → ⊥) → Leads (coordinate 1000000) t (suc c) (minus v)
minus_leads [] c v e l n = absurd (omega (arith, l.within))
minus_leads (x ∷ t) c v e l n =
    let g = minus_good 1000000 (omega arith) (x ∷ take l.width t) e l.form (λ q. n (l.value ∙ q)) in
    record { width = suc l.width; counts = omega (arith, l.counts); within = omega (arith, l.within); feed = l.feed; form = g.0; value = ap minus l.value ∙ sym g.1 }

a_minus : (t : List ℕ) → bytes_eq (45 ∷ []) (take 1 t) ≡ true → get_or t 0 0 ≡ 45
a_minus [] e = absurd (false≢true e)
a_minus (x ∷ t) e = sym (ap (λ (l : List ℕ). get_or l 0 0) ((bytes_eq-Decides (45 ∷ []) (x ∷ [])).0 e))

no_minus : (t : List ℕ) → bytes_eq (45 ∷ []) (take 1 t) ≡ false → get_or t 0 0 ≡ 45 → ⊥
no_minus [] e q = omega arith
no_minus (x ∷ t) e q = true≢false (sym ((bytes_eq-Decides (45 ∷ []) (x ∷ [])).1 (ap (λ (x : ℕ). x ∷ []) (sym q))) ∙ e)

sign_held : (m : Bool) (n : ℕ) → n ≤ 1000000 → to_z w32 (of_z w32 (with_sign m n)) ≡ with_sign m n
sign_held false n h = to_z-of_z {w = w32} (record { sfits = omega arith })
sign_held true n h = to_z-of_z (minus_fits n h)

pub signed_leads : (t : List ℕ) (m : Bool) (r c v : ℕ) (z : ℤ) → m ≡ bytes_eq (45 ∷ []) (take 1 t) → r ≡ from_bool m → Leads (natural 1000000) (take (length t - r) (drop r t)) c v → r ≤ v → z ≡ with_sign m v →
    Leads (coordinate 1000000) t (r + c) (to_z w32 (of_z w32 z))
signed_leads t m r c v z b q l h e =
    subst (Leads (coordinate 1000000) t (r + c)) (sym (ap (λ (z : ℤ). to_z w32 (of_z w32 z)) e ∙ sign_held m v (omega (arith, l.value, l.form.0))))
    (go m r b q (subst (λ (u : List ℕ). Leads (natural 1000000) u c v) (rest_of r t) l) h)
  where
    go : (m : Bool) (r : ℕ) → m ≡ bytes_eq (45 ∷ []) (take 1 t) → r ≡ from_bool m → Leads (natural 1000000) (drop r t) c v → r ≤ v → Leads (coordinate 1000000) t (r + c) (with_sign m v)
    go false zero m q l h = let e : c ≡ 0 + c = omega arith in subst (λ (n : ℕ). Leads (coordinate 1000000) t n (pos v)) e (plain_leads t c v (no_minus t (sym m)) l)
    go false (suc r) m q l h = absurd (omega arith)
    go true zero m q l h = absurd (omega arith)
    go true (suc zero) m q l h = let e : suc c ≡ 1 + c = omega arith in subst (λ (n : ℕ). Leads (coordinate 1000000) t n (minus v)) e (minus_leads t c v (a_minus t (sym m)) l (λ q. omega arith))
    go true (suc (suc r)) m q l h = absurd (omega arith)

-- what leads a text makes a line with any key
pub follows : {A : Type 0} (f : Form A) → Sound f → (t : List ℕ) (c : ℕ) (v : A) → Leads f t c v → Follows f t c v
follows f sound t c v leads key plain = record {
  most = omega (arith, leads.within, leads.counts, length-append key t);
  read = λ n.
      ap (read_line key f n) shape
      ∙ (lawful_line key f plain sound).back n v (drop (suc leads.width) t) (subst f.Fits (sym leads.value) leads.form.0)
      ∙ ap (λ (r : List ℕ). got v r) left;
}
  where
    shape : key ++ t ≡ line_text key f v ++ drop (suc leads.width) t
    shape =
        let text_is : f.text v ≡ take leads.width t = ap f.text leads.value ∙ leads.form.1 in
        let joined : key ++ (f.text v ++ (10 ∷ drop (suc leads.width) t)) ≡ line_text key f v ++ drop (suc leads.width) t = simp append_assoc in
        ap (λ (x : List ℕ). key ++ x) (sym (take-append-drop leads.width t) ∙ ap₂ (λ (x y : List ℕ). x ++ y) (sym text_is) (drop-cons t leads.width 0 leads.within ∙ ap (λ (x : ℕ). x ∷ drop (suc leads.width) t) leads.feed))
        ∙ joined

    left : drop (suc leads.width) t ≡ drop (length key + c) (key ++ t)
    left = let e : suc leads.width ≡ c = omega (arith, leads.counts) in ap (λ (n : ℕ). drop n t) e ∙ sym (drop-append-add key t c)

pub some_follows : {A : Type 0} (f : Form A) → Sound f → (t : List ℕ) (r : Option (Run A)) → IfSome r (λ r. Leads f t r.count r.value) → IfSome r (λ r. Follows f t r.count r.value)
some_follows f sound t None l = l
some_follows f sound t (Some r) l = follows f sound t r.count r.value l

-- the line that t begins with, where its key is stripped
pub behind_key : {A : Type 0} (key : List ℕ) (f : Form A) (t u : List ℕ) → T (fair key) → bytes_eq (take (length key) t) key ≡ true → u ≡ drop (length key) t → (c : ℕ) (v : A) → Follows f u c v → ReadsWell key f t (length key + c) v
behind_key key f t u plain e q c v w =
    let k : take (length key) t ≡ key = (bytes_eq-Decides (take (length key) t) key).0 e in
    let s : key ++ u ≡ t = ap₂ (λ (x y : List ℕ). x ++ y) (sym k) q ∙ take-append-drop (length key) t in
    subst (λ (t : List ℕ). ReadsWell key f t (length key + c) v) s (w key plain)

-- the line at a place in s
pub reads_at : {A : Type 0} (key : List ℕ) (f : Form A) (s : List ℕ) (at c : ℕ) (v : A) → at ≤ length s → ReadsWell key f (take (length s - at) (drop at s)) c v →
    (at + c ≤ length s) × ((n : ℕ) → read_line key f n (drop at s) ≡ got v (drop (at + c) s))
reads_at key f s at c v h w =
    let r = subst (λ (t : List ℕ). ReadsWell key f t c v) (rest_of at s) w in
    (omega (arith, r.most, length-drop at s), λ n. r.read n ∙ ap (λ (l : List ℕ). got v l) (drop-drop c at s))
