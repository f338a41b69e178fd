-- Decisions from decisions: their types say all.
-- Assumes nothing.

abbrev pub dec_by : {A B : Type 0} → (A → B) → (B → A) → Dec A → Dec B
dec_by f g (yes a) = yes (f a)
dec_by f g (no h) = no (λ b. h (g b))

abbrev pub dec_implies : {A B : Type 0} → Dec A → Dec B → Dec (A → B)
dec_implies (no h) e = yes (λ a. absurd (h a))
dec_implies (yes a) (yes b) = yes (λ _. b)
dec_implies (yes a) (no h) = no (λ f. h (f a))
