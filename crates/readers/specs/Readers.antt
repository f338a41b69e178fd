-- What the readers of lines tell.
-- Assumes nothing.
use Rattle.std.specs.Prelude.{ℕ, ◌+◌, ◌≤◌, ◌<◌, ◌≡◌, List, length, take, drop, SomeIff, MatchOption, Option, Result, MatchResult}
use denote.Ref.{Bor}
use Rattle.verdict.specs.declared.Refusal.{Refusal}
use Rattle.verdict.specs.Numbers.{number}
use Rattle.readers.specs.declared.Line.{Line}
use Rattle.lines.specs.Form.{Form, InForm}
use Rattle.lines.specs.Line.{line, none, cut, longest, due, Got, refused, got}

-- the line that t begins with has n bytes, with no line feed among them; or there is none
abbrev pub Ends : List ℕ → Option ℕ → Type 0
Ends t r = MatchOption r (cut longest t ≡ none) (λ n. (n < length t) × (cut longest t ≡ line (take n t) (drop (n + 1) t)))

-- the value of a text that is in form
abbrev pub Parses : {A : Type 0} → Form A → List ℕ → Option A → Type 0
Parses f t r = SomeIff r (InForm f t) (f.value t)

-- the value of the line at `at`, and where the next begins, if the line has the due key
abbrev pub Due : List ℕ → ℕ → List ℕ → Option (Line (Bor (List ℕ))) → Type 0
Due s at key r = MatchOption r (due key (drop at s) ≡ none) (λ l. (l.next ≤ length s) × (due key (drop at s) ≡ line l.value.now (drop l.next s)))

-- what is told of bytes s that were read: the number and the line of a refusal; or the value, seen in some way, and where the next line begins
abbrev pub ReadsAs : {A B : Type 0} → (B → A) → List ℕ → Got A → Result (Line B) Refusal → Type 0
ReadsAs view s g r = MatchResult r (λ l. (l.next ≤ length s) × (g ≡ got (view l.value) (drop l.next s))) (λ e. g ≡ refused (number e.reason) e.at)

abbrev pub Reads : {A : Type 0} → List ℕ → Got A → Result (Line A) Refusal → Type 0
Reads s g r = ReadsAs (λ v. v) s g r
