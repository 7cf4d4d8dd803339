-- Who wins an arbitration.
use Rattle.std.specs.Prelude.{◌≡◌, ℕ, true, false, not, ◌&&◌, List, is_ok, Ok, nat_lt}
use Rattle.arbitration.specs.declared.contenders.Contender.{Contender}
use Rattle.arbitration.specs.declared.replies.Answer.TheVariants.{Granted}
use Rattle.arbitration.specs.declared.replies.Event.TheVariants.{Arbitrate}
use Rattle.std.specs.List.{list_any}
use Rattle.arbitration.specs.Contenders.{at_level, asks, owns}
use Rattle.arbitration.specs.Rules.{Bus, answer}

-- l is the highest level that asks
pub record Highest (cs : List Contender) (l : ℕ) : Type 0 where
  pub asks_itself : list_any (λ c. asks c && at_level l c) cs ≡ true
  pub none_above : list_any (λ c. asks c && nat_lt l c.level) cs ≡ false

-- an arbitration is answered exactly if nobody owns and somebody asks
abbrev pub AnsweredIfFreeAndAsked : Bus → Type 0
AnsweredIfFreeAndAsked b = is_ok (answer Arbitrate b) ≡ (not (list_any owns b.contenders) && list_any asks b.contenders)

-- whatever level an arbitration grants the segment to is the highest that asks
abbrev pub HighestAskerWins : Bus → Type 0
HighestAskerWins b = (l : ℕ) → answer Arbitrate b ≡ Ok (Granted l) → Highest b.contenders l
