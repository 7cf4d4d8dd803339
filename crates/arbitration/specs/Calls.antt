-- What the calls of the code promise of a segment, in the words of the rules.
use Rattle.std.specs.Prelude.{◌≡◌, ℕ, Some, None, Ok, Err, Option, Result, option_map}
use Rattle.std.specs.Result.{result_err}
use Rattle.arbitration.specs.declared.contenders.Access.{Access}
use Rattle.arbitration.specs.declared.replies.Answer.{Answer}
use Rattle.arbitration.specs.declared.replies.Event.{Event}
use Rattle.arbitration.specs.declared.replies.Reason.{Reason}
use Rattle.arbitration.specs.declared.replies.Refusal.{Refusal}
use Rattle.arbitration.specs.declared.replies.SetupFault.{SetupFault}
use Rattle.arbitration.specs.declared.replies.SetupFault.TheVariants.{Refused, NoMemory}
use Rattle.arbitration.specs.declared.bus.questions.Load.{Load}
use Rattle.arbitration.specs.Numbers.{number_of, reported, at_segment}
use Rattle.arbitration.specs.Contenders.{asks, waits}
use Rattle.arbitration.specs.Lists.{count}
use Rattle.arbitration.specs.Rules.{Bus, add_refusal, added, answer, after}
use Rattle.arbitration.specs.Sound.{Sound}

-- the event e comes to the segment b: it is answered r, and leaves the segment b'
pub record Happens (e : Event) (b : Bus) (r : Result Answer (Refusal Reason)) (b' : Bus) : Type 0 where
  -- the answer, or the refusal and its place, is what the rules say
  pub answered : reported r ≡ at_segment b.number (answer e b)
  -- so is the segment after it; a refused event changes nothing
  pub leaves : b' ≡ after e b
  -- what always holds of a segment held of it before, and holds of it after
  pub was_sound : Sound b.contenders b.inhibit
  pub stays_sound : Sound b'.contenders b'.inhibit

-- the number of the refusal in a result, if it is one
abbrev pub refusal_in : Result (Unit {0}) Reason → Option ℕ
refusal_in r = option_map number_of (result_err r)

-- what adding a contender to the segment b may come to: it is added, or refused, or there is no memory for it;
-- refused or without memory, the segment stays as it was
abbrev pub Added : ℕ → Access → Bus → Result (Unit {0}) SetupFault → Bus → Type 0
Added l a b (Ok _) b' = (add_refusal l a b ≡ None) × (b' ≡ added l a b)
Added l a b (Err (Refused r)) b' = (add_refusal l a b ≡ Some (number_of r.reason)) × (r.segment ≡ b.number) × (b' ≡ b)
Added l a b (Err (NoMemory e)) b' = (add_refusal l a b ≡ None) × (b' ≡ b)

-- how many ask and how many wait
abbrev pub load_of : Bus → Load
load_of b = record { asking = count asks b.contenders; waiting = count waits b.contenders }
