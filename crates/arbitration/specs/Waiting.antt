-- How long an assured contender may have to wait, over lists of events.
use Rattle.std.specs.Prelude.{◌≡◌, ℕ, ◌+◌, ◌*◌, ◌≤◌, Bool, true, false, not, ◌&&◌, List, [], ◌∷◌, ◌++◌, is_ok, Ok, Err, Result, ◌==◌}
use Rattle.arbitration.specs.declared.contenders.Contender.{Contender}
use Rattle.arbitration.specs.declared.replies.Answer.{Answer}
use Rattle.arbitration.specs.declared.replies.Answer.TheVariants.{Asking, Waiting, Granted, Done}
use Rattle.arbitration.specs.declared.replies.Event.{Event}
use Rattle.arbitration.specs.declared.replies.Event.TheVariants.{Arbitrate}
use Rattle.std.specs.List.{list_any}
use Rattle.arbitration.specs.Lists.{count}
use Rattle.arbitration.specs.Contenders.{idle, owns, wishes, assured, prioritised}
use Rattle.arbitration.specs.Rules.{Bus, its, answer, after}

-- the segment after a list of events
abbrev pub after_all : List Event → Bus → Bus
after_all [] b = b
after_all (e ∷ es) b = after_all es (after e b)

-- the level that an answer grants the segment to, if any
abbrev pub granted_by : Result Answer ℕ → List ℕ
granted_by (Ok Asking) = []
granted_by (Ok Waiting) = []
granted_by (Ok (Granted l)) = l ∷ []
granted_by (Ok Done) = []
granted_by (Err n) = []

-- the levels that a list of events grants the segment to, in order, read off the answers
abbrev pub grants : List Event → Bus → List ℕ
grants [] b = []
grants (e ∷ es) b = granted_by (answer e b) ++ grants es (after e b)

-- the contender of level x wishes after each of the events
abbrev pub WishesThrough : ℕ → List Event → Bus → Type 0
WishesThrough x [] b = Unit {0}
WishesThrough x (e ∷ es) b = (its x wishes (after e b) ≡ true) × WishesThrough x es (after e b)

-- l is another level than x
abbrev pub other : ℕ → ℕ → Bool
other x l = not (l == x)

-- an assured contender of another level than x
abbrev pub rival : ℕ → Contender → Bool
rival x c = other x c.level && assured c

-- k: how many other assured contenders there are
abbrev pub rivals : ℕ → Bus → ℕ
rivals x b = count (rival x) b.contenders

-- how many of the grants went to others
abbrev pub to_others : ℕ → List ℕ → ℕ
to_others x ls = count (other x) ls

-- p: how many of the grants went to prioritised contenders
abbrev pub to_prioritised : Bus → List ℕ → ℕ
to_prioritised b ls = count (λ l. its l prioritised b) ls

-- what the contender of level x, which came to wish at the first of the events, may count on
pub record Bounded (x : ℕ) (es : List Event) (b : Bus) : Type 0 where
  -- others were granted the segment at most 2k + p times
  pub at_most : to_others x (grants es b) ≤ 2 * rivals x b + to_prioritised b (grants es b)
  -- and at most k + p times if the inhibit was down at the wish
  pub at_most_if_down : b.inhibit ≡ false → to_others x (grants es b) ≤ rivals x b + to_prioritised b (grants es b)
  -- and if nobody owns the segment now, arbitrate is not refused
  pub not_refused : list_any owns (after_all es b).contenders ≡ false → is_ok (answer Arbitrate (after_all es b)) ≡ true

-- On the segment b, whatever events came before: an assured contender that is idle, comes to wish at the event e
-- and goes on wishing, is not passed over without end.
abbrev pub WaitingIsBounded : Bus → Type 0
WaitingIsBounded b = (x : ℕ) (before : List Event) (e : Event) (during : List Event)
    → its x assured (after_all before b) ≡ true
    → its x idle (after_all before b) ≡ true
    → WishesThrough x (e ∷ during) (after_all before b)
    → Bounded x (e ∷ during) (after_all before b)
