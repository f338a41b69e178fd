-- What it is for a contract, as the toolchain reads it, to settle its call.
-- Assumes nothing.
use Rattle.std.specs.Prelude.{◌≡◌}

-- a contract asks nothing of the arguments a
abbrev pub AsksNothing : {K A : Type 0} → (K → A → Type 0) → Type 0
AsksNothing {K} {A} Pre = (κs : K) (a : A) → Pre κs a

-- a contract settles its call: of two results r and r' over the same arguments a, with the parameters b and b' at exit, the results are equal, and so is what stands in the lent places. A parameter that is given away is another type at exit
abbrev pub Settles : {K A B R L : Type 0} → (B → L) → (K → A → R → B → Type 0) → Type 0
Settles {K} {A} {B} {R} lent Post = (κs : K) (a : A) (r r' : R) (b b' : B) → Post κs a r b → Post κs a r' b' → (r ≡ r') × (lent b ≡ lent b')

-- nothing is lent to be changed
abbrev pub nothing : {A : Type 0} → A → Unit {0}
nothing _ = tt
