-- How a line is cut into words, and which number a word writes.
use Rattle.std.specs.Prelude.{◌≡◌, ℕ, ◌+◌, ◌-◌, ◌*◌, Bool, if◌then◌else◌, not, ◌&&◌, ◌||◌, List, [], ◌∷◌, drop, Some, None, Option, ◌==◌, nat_le}
use Rattle.std.specs.List.{before_first, position_or_len}

-- a test of bytes computes p: whatever a call of it on a byte may answer is what p says of that byte;
-- gives b r: a call on the byte b may answer r
abbrev pub Computes : (ℕ → Bool → Type 0) → (ℕ → Bool) → Type 0
Computes gives p = (b : ℕ) (r : Bool) → gives b r → r ≡ p b

-- the text from its first byte that passes the test on, empty where none does
abbrev pub from : (ℕ → Bool) → List ℕ → List ℕ
from p t = drop (position_or_len p t) t

-- a line up to its comment, which begins with the first `#`
abbrev pub uncommented : List ℕ → List ℕ
uncommented l = before_first (λ b. b == 35) l

-- a space, a tab or a carriage return
abbrev pub blank : ℕ → Bool
blank b = b == 32 || (b == 9 || b == 13)

-- the text from its first byte that is not blank
abbrev pub inked : List ℕ → List ℕ
inked t = from (λ b. not (blank b)) t

-- the first word, empty if there is none
abbrev pub word : List ℕ → List ℕ
word t = before_first blank (inked t)

-- what follows the first word
abbrev pub rest : List ℕ → List ℕ
rest t = from blank (inked t)

-- a word, unless it is empty
abbrev pub unless_empty : List ℕ → Option (List ℕ)
unless_empty [] = None
unless_empty (b ∷ bs) = Some (b ∷ bs)

-- the first word, if there is one
abbrev pub first_word : List ℕ → Option (List ℕ)
first_word t = unless_empty (word t)

-- one digit more behind a number, up to 255
abbrev pub shifted : ℕ → ℕ → Option ℕ
shifted n b = if nat_le 48 b && nat_le b 57 && nat_le (10 * n + (b - 48)) 255 then Some (10 * n + (b - 48)) else None

-- the digits bs behind the number so far, if there is one
abbrev pub shifted_on : Option ℕ → List ℕ → Option ℕ
shifted_on None bs = None
shifted_on (Some n) [] = Some n
shifted_on (Some n) (b ∷ bs) = shifted_on (shifted n b) bs

-- the number from 0 to 255 that a word writes
abbrev pub number : List ℕ → Option ℕ
number [] = None
number (b ∷ bs) = shifted_on (Some 0) (b ∷ bs)
