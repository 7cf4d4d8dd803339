-- When a word is the given one, and when it is not.
use Rattle.std.proofs.Common.{◌≡◌, ℕ, suc, Bool, true, false, List, [], ◌∷◌, length, get_or, refl, arith}
use Rattle.std.specs.Str.{bytes_eq}
use Rattle.std.proofs.lemmas.Slice.Eq.{bytes_eq-Decides}

-- the values of f from 0 on are the bytes of the text
abbrev pub Spells : (ℕ → ℕ) → List ℕ → Type 0
Spells f [] = Unit {0}
Spells f (b ∷ bs) = (f 0 ≡ b) × Spells (λ i. f (suc i)) bs

-- a word of the same length with each byte of the text is the text
pub same_text : (w v : List ℕ) → length w ≡ length v → Spells (λ i. get_or w i 0) v → w ≡ v
same_text [] [] h s = refl
same_text [] (b ∷ bs) h s = absurd (omega arith)
same_text (x ∷ xs) [] h s = absurd (omega arith)
same_text (x ∷ xs) (b ∷ bs) h s = λ j. s.0 j ∷ same_text xs bs (omega arith) s.1 j

-- a word that is not the text does not pass the test
pub other_text : (w v : List ℕ) → ¬ (w ≡ v) → bytes_eq w v ≡ false
other_text w v h = by (bytes_eq w v) (bytes_eq-Decides w v).0
  where
    by : (b : Bool) → (b ≡ true → w ≡ v) → b ≡ false
    by true told = absurd (h (told refl))
    by false told = refl
