-- What happens on a segment, over its contenders and its inhibit.
use Rattle.std.specs.Prelude.{ℕ, Bool, true, false, if◌then◌else◌, not, ◌&&◌, List, [], ◌∷◌, ◌++◌, map, length, is_ok, Some, None, Ok, Err, Option, Result, nat_le, find, option_map, ok_or}
use Rattle.arbitration.specs.declared.contenders.Access.{Access}
use Rattle.arbitration.specs.declared.contenders.Access.TheVariants.{Prioritised, Assured}
use Rattle.arbitration.specs.declared.contenders.State.{State}
use Rattle.arbitration.specs.declared.contenders.State.TheVariants.{Idle, Owns}
use Rattle.arbitration.specs.declared.contenders.Move.{Move}
use Rattle.arbitration.specs.declared.contenders.Move.TheVariants as move
use Rattle.arbitration.specs.declared.contenders.Contender.{Contender}
use Rattle.arbitration.specs.declared.replies.Answer.{Answer}
use Rattle.arbitration.specs.declared.replies.Answer.TheVariants.{Granted}
use Rattle.arbitration.specs.declared.replies.Event.{Event}
use Rattle.arbitration.specs.declared.replies.Event.TheVariants.{Wish, Withdraw, Arbitrate, Release}
use Rattle.std.specs.List.{list_any}
use Rattle.arbitration.specs.Lists.{holds, amended}
use Rattle.arbitration.specs.Contenders.{at_level, asks, owns, put, moved, move_verdict, wake, outranks}

-- a segment: its number, its contenders in the order in which they were added, and whether the inhibit is up
pub record Bus : Type 0 where
  pub number : ℕ
  pub contenders : List Contender
  pub inhibit : Bool

-- the contender of a level is there, and passes
abbrev pub its : ℕ → (Contender → Bool) → Bus → Bool
its l q b = holds q (find (at_level l) b.contenders)

-- ---- setup
-- a segment that nobody is on
abbrev pub empty : ℕ → Bus
empty n = record { number = n; contenders = []; inhibit = false }

-- the highest level that a contender of an access may have: the system levels 32 to 63 are prioritised
abbrev pub highest_level : Access → ℕ
highest_level Prioritised = 63
highest_level Assured = 31

-- the level is in the range of the access
abbrev pub in_range : ℕ → Access → Bool
in_range l a = nat_le 1 l && nat_le l (highest_level a)

-- the number of the refusal of a contender: the segment has 16, its level is out of range, its level is in use
abbrev pub add_refusal : ℕ → Access → Bus → Option ℕ
add_refusal l a b = if nat_le 16 (length b.contenders) then Some 6 else if not (in_range l a) then Some 2 else if list_any (at_level l) b.contenders then Some 3 else None

-- a contender as it is added: idle
abbrev pub newcomer : ℕ → Access → Contender
newcomer l a = record { level = l; access = a; state = Idle }

-- the segment with a contender more, behind the others
abbrev pub added : ℕ → Access → Bus → Bus
added l a b = record { number = b.number; contenders = b.contenders ++ newcomer l a ∷ []; inhibit = b.inhibit }

-- ---- the stages of a change
-- the inhibit is up and nobody asks, so that it has to go down
abbrev pub lifts : Bus → Bool
lifts b = b.inhibit && not (list_any asks b.contenders)

-- settling: where the inhibit has to go down, it does, and all who wait ask
abbrev pub settled : Bus → Bus
settled b = record { number = b.number; contenders = if lifts b then map wake b.contenders else b.contenders; inhibit = b.inhibit && list_any asks b.contenders }

-- the contender of a level makes a move
abbrev pub made : Move → ℕ → Bus → Bus
made m l b = record { number = b.number; contenders = amended (at_level l) (moved m b.inhibit) b.contenders; inhibit = b.inhibit }

-- the foremost of c and of the one that is foremost behind it, if there is one
abbrev pub foremost : Contender → Option Contender → Contender
foremost c None = c
foremost c (Some d) = if outranks d c then d else c

-- the foremost of those that ask, if anybody does
abbrev pub winner : List Contender → Option Contender
winner [] = None
winner (c ∷ cs) = if asks c then Some (foremost c (winner cs)) else winner cs

-- c asks, and has the level of w
abbrev pub asks_as : Contender → Contender → Bool
asks_as w c = asks c && at_level w.level c

-- a grant to w: the inhibit goes up, and the contender that asks at the level of w owns
abbrev pub granted : Contender → Bus → Bus
granted w b = record { number = b.number; contenders = amended (asks_as w) (put Owns) b.contenders; inhibit = true }

-- a grant to the winner, and settling
abbrev pub arbitrated : Option Contender → Bus → Bus
arbitrated None b = b
arbitrated (Some w) b = settled (granted w b)

-- ---- the calls
-- what a move answers, where there may be no contender of the level
abbrev pub by_contender : Move → Bool → Option Contender → Result Answer ℕ
by_contender m inhibit None = Err 8
by_contender m inhibit (Some c) = move_verdict m inhibit c

-- what a move of the contender of a level answers, or the number of its refusal
abbrev pub move_answer : Move → ℕ → Bus → Result Answer ℕ
move_answer m l b = by_contender m b.inhibit (find (at_level l) b.contenders)

-- what an arbitration answers: the level of the winner, or 23 where there is none, since nobody asks
abbrev pub by_winner : Option Contender → Result Answer ℕ
by_winner None = Err 23
by_winner (Some w) = Ok (Granted w.level)

-- what an event is answered, or the number of its refusal
abbrev pub answer : Event → Bus → Result Answer ℕ
answer (Wish l) b = move_answer move.Wish l b
answer (Withdraw l) b = move_answer move.Withdraw l b
answer Arbitrate b = if list_any owns b.contenders then Err 22 else by_winner (winner b.contenders)
answer (Release l) b = move_answer move.Release l b

-- the segment after a move of the contender of a level; a refused move changes nothing
abbrev pub after_move : Move → ℕ → Bus → Bus
after_move m l b = if is_ok (move_answer m l b) then settled (made m l b) else b

-- the segment after an event; a refused one changes nothing
abbrev pub after : Event → Bus → Bus
after (Wish l) b = after_move move.Wish l b
after (Withdraw l) b = after_move move.Withdraw l b
after Arbitrate b = if is_ok (answer Arbitrate b) then arbitrated (winner b.contenders) b else b
after (Release l) b = after_move move.Release l b

-- ---- the questions
-- the level of a contender, if there is one
abbrev pub level_of : Option Contender → Option ℕ
level_of o = option_map (λ c. c.level) o

-- the level that owns
abbrev pub owner_of : Bus → Option ℕ
owner_of b = level_of (find owns b.contenders)

-- what the contender of a level is doing, or 8 where there is none
abbrev pub state_of : ℕ → Bus → Result State ℕ
state_of l b = ok_or (option_map (λ c. c.state) (find (at_level l) b.contenders)) 8
