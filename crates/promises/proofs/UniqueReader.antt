-- The sheet reader holds the caller's bytes, so its two makers have their contract in the program logic alone: what it ensures of a result says which one that is.
-- Assumes nothing.
use mathlib.Core.Path.{◌≡◌, ap₂}
use mathlib.Core.List.{List}
use Prim.Native.Nat.{ℕ}
use seplogic.Ra.Ura.{Ura}
use base.Logic.{SProp, ent, via, snd∗, ex_e}
use base.Fml.{Lft}
use prog.Memory.{Memory}
use prog.Routine.{Routine}
use types.Logic.{Logic, sem}
use contract.Monad.{Fun, fact, fact_mono}
use denote.Ref.{Bor}
use denote.Triple.Clauses.{ensured, lasts}
use Rattle.scan.specs.declared.Reader.{Reader}
use Rattle.scan.specs.contracts.Reader.new as new
use Rattle.scan.specs.contracts.Reader.moved as moved

-- a reader of src s that stands at n
abbrev pub reader : Bor (List ℕ) → ℕ → Reader
reader s n = record { src = s; at = n }

only : (s : Bor (List ℕ)) (n : ℕ) (r : Reader) → (r.src ≡ s) × (r.at ≡ n) → r ≡ reader s n
only s n r e = ap₂ reader e.0 e.1

module _ {M : Type 1} {𝓤 : Ura M} (𝓛 : Logic 𝓤) (mem : Memory → SProp 𝓤) (run : Routine → Fun 𝓤) (κ : Lft) where
  -- a reader that stands at the start
  pub new_settled : (s : Bor (List ℕ)) (r : Reader) → ent 𝓤 (ensured 𝓛 new.ended (new.clauses 𝓛 mem run) (κ, tt) (s, tt) tt r) (fact 𝓤 (r ≡ reader s 0))
  new_settled s r =
      let says : Type 0 = (r.src ≡ s) × (r.at ≡ 0) in
      via 𝓤 (fact 𝓤 says) (ex_e 𝓤 _ (λ ws. snd∗ 𝓤 (sem 𝓛 (lasts new.ended (κ, tt) (s, tt) ws)) (fact 𝓤 says))) (fact_mono 𝓤 says (r ≡ reader s 0) (only s 0 r))

  -- a reader o come as far as n
  pub moved_settled : (o : Reader) (n : ℕ) (r : Reader) → ent 𝓤 (ensured 𝓛 moved.ended (moved.clauses 𝓛 mem run) (κ, tt) (o, (n, tt)) tt r) (fact 𝓤 (r ≡ reader o.src n))
  moved_settled o n r =
      let says : Type 0 = (r.src ≡ o.src) × (r.at ≡ n) in
      via 𝓤 (fact 𝓤 says) (ex_e 𝓤 _ (λ ws. snd∗ 𝓤 (sem 𝓛 (lasts moved.ended (κ, tt) (o, (n, tt)) ws)) (fact 𝓤 says))) (fact_mono 𝓤 says (r ≡ reader o.src n) (only o.src n r))
