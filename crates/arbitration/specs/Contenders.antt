-- One contender: its state, and what its own calls do to it.
use Rattle.std.specs.Prelude.{ℕ, Bool, true, false, if◌then◌else◌, not, ◌||◌, Ok, Err, Result, ◌==◌, nat_lt}
use Rattle.arbitration.specs.declared.contenders.Access.{Access}
use Rattle.arbitration.specs.declared.contenders.Access.TheVariants.{Prioritised, Assured}
use Rattle.arbitration.specs.declared.contenders.State.{State}
use Rattle.arbitration.specs.declared.contenders.State.TheVariants.{Idle, Waits, Asks, Owns}
use Rattle.arbitration.specs.declared.contenders.Move.{Move}
use Rattle.arbitration.specs.declared.contenders.Move.TheVariants.{Wish, Withdraw, Release}
use Rattle.arbitration.specs.declared.contenders.Contender.{Contender}
use Rattle.arbitration.specs.declared.replies.Answer.{Answer}
use Rattle.arbitration.specs.declared.replies.Answer.TheVariants.{Asking, Waiting, Done}

-- a number for each state, used only to compare two states
abbrev pub rank : State → ℕ
rank Idle = 0
rank Waits = 1
rank Asks = 2
rank Owns = 3

-- two states are the same
abbrev pub same_state : State → State → Bool
same_state s t = rank s == rank t

-- the contender is in the state
abbrev pub in_state : State → Contender → Bool
in_state s c = same_state s c.state

-- it takes no part
abbrev pub idle : Contender → Bool
idle c = in_state Idle c

-- it waits for the next round
abbrev pub waits : Contender → Bool
waits c = in_state Waits c

-- it asks for the segment
abbrev pub asks : Contender → Bool
asks c = in_state Asks c

-- it owns the segment
abbrev pub owns : Contender → Bool
owns c = in_state Owns c

-- it wishes: it asks or waits
abbrev pub wishes : Contender → Bool
wishes c = asks c || waits c

-- the access is assured
abbrev pub is_assured : Access → Bool
is_assured Prioritised = false
is_assured Assured = true

-- the contender has assured access
abbrev pub assured : Contender → Bool
assured c = is_assured c.access

-- the contender has prioritised access
abbrev pub prioritised : Contender → Bool
prioritised c = not (assured c)

-- the contender has the level
abbrev pub at_level : ℕ → Contender → Bool
at_level l c = c.level == l

-- c, in the state s
abbrev pub put : State → Contender → Contender
put s c = record { level = c.level; access = c.access; state = s }

-- whether a contender in the state s may make the move
abbrev pub allows : Move → State → Bool
allows Wish s = same_state Idle s
allows Withdraw s = same_state Asks s || same_state Waits s
allows Release s = same_state Owns s

-- the number of the refusal where the state does not allow the move
abbrev pub refusal_of : Move → ℕ
refusal_of Wish = 20
refusal_of Withdraw = 21
refusal_of Release = 24

-- where an allowed move leads: a wish to asking, but an assured contender waits while the inhibit is up
abbrev pub reached : Move → Access → Bool → State
reached Wish Prioritised inhibit = Asks
reached Wish Assured inhibit = if inhibit then Waits else Asks
reached Withdraw access inhibit = Idle
reached Release access inhibit = Idle

-- what an allowed move answers, by the state that it led to
abbrev pub told : Move → State → Answer
told Wish s = if same_state Asks s then Asking else Waiting
told Withdraw s = Done
told Release s = Done

-- what the move answers, or the number of its refusal
abbrev pub move_verdict : Move → Bool → Contender → Result Answer ℕ
move_verdict m inhibit c = if allows m c.state then Ok (told m (reached m c.access inhibit)) else Err (refusal_of m)

-- the state after the move; a refused move changes nothing
abbrev pub next : Move → Access → Bool → State → State
next m access inhibit s = if allows m s then reached m access inhibit else s

-- the contender after the move
abbrev pub moved : Move → Bool → Contender → Contender
moved m inhibit c = put (next m c.access inhibit c.state) c

-- the state after settling has lifted the inhibit: who waited asks
abbrev pub woken : State → State
woken s = if same_state Waits s then Asks else s

-- the contender after settling has lifted the inhibit
abbrev pub wake : Contender → Contender
wake c = put (woken c.state) c

-- the order of arbitration: c goes before d if its level is higher
abbrev pub outranks : Contender → Contender → Bool
outranks c d = nat_lt d.level c.level
