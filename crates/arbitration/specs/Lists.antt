-- Words for lists: how many pass, a test of an element that may be there, and a change of the first that passes.
use Rattle.std.specs.Prelude.{ℕ, ◌+◌, Bool, false, if◌then◌else◌, List, [], ◌∷◌, Some, None, Option}

-- how many elements pass, counted from the front
abbrev pub count : {A : Type 0} → (A → Bool) → List A → ℕ
count p [] = 0
count p (x ∷ xs) = (if p x then 1 else 0) + count p xs

-- there is an element, and it passes
abbrev pub holds : {A : Type 0} → (A → Bool) → Option A → Bool
holds q None = false
holds q (Some x) = q x

-- f of the first element that passes, the others as they were
abbrev pub amended : {A : Type 0} → (A → Bool) → (A → A) → List A → List A
amended p f [] = []
amended p f (x ∷ xs) = if p x then f x ∷ xs else x ∷ amended p f xs
