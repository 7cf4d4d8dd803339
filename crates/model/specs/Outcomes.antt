-- What comes of a call: the crate after it, what it is answered, and the grants that it brought.
use Rattle.std.specs.Prelude.{ℕ, Bool, if◌then◌else◌, List, [], ◌++◌, Some, None, Ok, Err, Option, Result}
use Rattle.model.specs.declared.replies.Answer.{Answer}
use Rattle.model.specs.declared.replies.Reason.{Reason}
use Rattle.arbitration.specs.declared.replies.Refusal.{Refusal}
use Rattle.model.specs.declared.replies.Grant.{Grant}
use Rattle.model.specs.Crates.{Crate}

-- the grants stand in the order in which they came
pub record Outcome : Type 0 where
  pub crate : Crate
  pub reply : Result Answer (Refusal Reason)
  pub grants : List Grant

-- refused for the reason r, at the segment n that the call named: nothing changes
abbrev pub refused : Reason → ℕ → Crate → Outcome
refused r n c = record { crate = c; reply = Err (record { reason = r; segment = n }); grants = [] }

-- answered, with no grant
abbrev pub answered : Answer → Crate → Outcome
answered a c = record { crate = c; reply = Ok a; grants = [] }

-- a check: refused if the test passes, else o
abbrev pub refused_if : Bool → Reason → ℕ → Crate → Outcome → Outcome
refused_if t r n c o = if t then refused r n c else o

-- a check: refused if there is nothing, else what f makes of it
abbrev pub given : {A : Type 0} → Option A → Reason → ℕ → Crate → (A → Outcome) → Outcome
given None r n c f = refused r n c
given (Some x) r n c f = f x

-- with the grants that came before
abbrev pub behind : List Grant → Outcome → Outcome
behind gs o = record { crate = o.crate; reply = o.reply; grants = gs ++ o.grants }
