-- What holds of every segment that was set up and called as the code allows.
use Rattle.std.specs.Prelude.{◌≡◌, ℕ, ◌≤◌, Bool, true, if◌then◌else◌, not, ◌&&◌, List, [], ◌∷◌, map, length, nat_eq}
use Rattle.arbitration.specs.declared.contenders.Contender.{Contender}
use Rattle.std.specs.List.{list_any, list_all}
use Rattle.arbitration.specs.Lists.{count}
use Rattle.arbitration.specs.Contenders.{asks, waits, owns}
use Rattle.arbitration.specs.Rules.{in_range}

-- the levels of the contenders
abbrev pub levels : List Contender → List ℕ
levels cs = map (λ c. c.level) cs

-- no two are equal
abbrev pub distinct : List ℕ → Bool
distinct [] = true
distinct (l ∷ ls) = not (list_any (nat_eq l) ls) && distinct ls

-- while the inhibit is up somebody asks, and while it is down nobody waits
abbrev pub calm : List Contender → Bool → Bool
calm cs inhibit = if inhibit then list_any asks cs else not (list_any waits cs)

-- at most 16 contenders, no two of one level, each level in its range, at most one owner, and calm
abbrev pub Sound : List Contender → Bool → Type 0
Sound cs inhibit = (length cs ≤ 16) × (distinct (levels cs) ≡ true) × (list_all (λ c. in_range c.level c.access) cs ≡ true) × (count owns cs ≤ 1) × (calm cs inhibit ≡ true)
