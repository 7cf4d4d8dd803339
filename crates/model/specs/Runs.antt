-- Lists of calls: where they lead, what they grant, and whose they are.
use Rattle.std.specs.Prelude.{ℕ, Bool, true, false, if◌then◌else◌, ◌&&◌, List, [], ◌∷◌, ◌++◌, Some, None, Option, ◌==◌}
use Rattle.arbitration.specs.Lists.{holds}
use Rattle.model.specs.declared.calls.Call.{Call}
use Rattle.model.specs.declared.calls.Call.TheVariants.{Wish, Withdraw, Arbitrate, Address, Data, End, Release, Clear}
use Rattle.model.specs.declared.replies.Grant.{Grant}
use Rattle.model.specs.Crates.{Crate}
use Rattle.model.specs.Calls.{step}

-- the crate after the calls, each of which meets what the ones before it left
abbrev pub after_calls : List Call → Crate → Crate
after_calls [] c = c
after_calls (x ∷ xs) c = after_calls xs (step x c).crate

-- the grants of the calls, in order
abbrev pub grants_of : List Call → Crate → List Grant
grants_of [] c = []
grants_of (x ∷ xs) c = (step x c).grants ++ grants_of xs (step x c).crate

-- the levels to which segment n was granted, in order
abbrev pub levels_on : ℕ → List Grant → List ℕ
levels_on n [] = []
levels_on n (g ∷ gs) = if g.segment == n then g.level ∷ levels_on n gs else levels_on n gs

-- P holds of the crate after each of the calls
abbrev pub Throughout : (Crate → Type 0) → List Call → Crate → Type 0
Throughout P [] c = Unit {0}
Throughout P (x ∷ xs) c = P (step x c).crate × Throughout P xs (step x c).crate

-- the master that makes a call, by its segment and its level
abbrev pub caller : Call → Option (ℕ × ℕ)
caller (Wish n l) = Some (n, l)
caller (Withdraw n l) = Some (n, l)
caller (Arbitrate n) = None
caller (Address n l ms ad) = Some (n, l)
caller (Data n l ms read w) = Some (n, l)
caller (End n l) = Some (n, l)
caller (Release n l) = Some (n, l)
caller (Clear n) = None

-- the master of level l on segment n makes the call
abbrev pub is_by : ℕ → ℕ → Call → Bool
is_by n l x = holds (λ m. (m.0 == n) && m.1 == l) (caller x)

-- what a call may do to its master's link: end it, move a word or a pointer over it, or neither
pub data Kind : Type 0 where
  ends : Kind
  transfers : Kind
  neither : Kind

-- the kind of a call
abbrev pub kind : Call → Kind
kind (Wish n l) = neither
kind (Withdraw n l) = neither
kind (Arbitrate n) = neither
kind (Address n l ms ad) = neither
kind (Data n l ms read w) = transfers
kind (End n l) = ends
kind (Release n l) = ends
kind (Clear n) = neither

-- it may end a link
abbrev pub is_end : Kind → Bool
is_end ends = true
is_end transfers = false
is_end neither = false

-- it may move a word or a pointer over a link
abbrev pub is_transfer : Kind → Bool
is_transfer ends = false
is_transfer transfers = true
is_transfer neither = false
