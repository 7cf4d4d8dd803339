-- The lines that the program prints, byte by byte.
use Rattle.std.specs.Prelude.{ℕ, ◌-◌, Bool, true, false, if◌then◌else◌, List, [], ◌++◌, length, Some, None, Ok, Err, is_some, codes, decimal, Option, Result}
use Rattle.std.specs.List.{flat_map, list_any, repeat}
use Rattle.arbitration.specs.declared.contenders.Contender.{Contender}
use Rattle.arbitration.specs.declared.contenders.State.{State}
use Rattle.arbitration.specs.declared.contenders.State.TheVariants.{Asks, Waits}
use Rattle.arbitration.specs.declared.replies.Answer.{Answer}
use Rattle.arbitration.specs.declared.replies.Answer.TheVariants.{Asking, Waiting, Granted, Done}
use Rattle.arbitration.specs.declared.replies.Reason.{Reason}
use Rattle.arbitration.specs.declared.replies.Refusal.{Refusal}
use Rattle.arbitration.specs.Lists.{count}
use Rattle.arbitration.specs.Contenders.{in_state, asks, waits}
use Rattle.arbitration.specs.Numbers.{number_of}
use Rattle.arbitration.specs.Rules.{Bus, owner_of}
use Rattle.loadbar.specs.declared.scripts.Unreadable.{Unreadable}
use Rattle.loadbar.specs.declared.scripts.Unreadable.TheVariants.{NoSuchCall, NoLevel, NoAccess, TooManyWords}

-- a result with its refusal as a number
abbrev pub plain : Result Answer (Refusal Reason) → Result Answer ℕ
plain (Ok a) = Ok a
plain (Err r) = Err (number_of r.reason)

-- an answer, or R and the number of the refusal
abbrev pub spoken : Result Answer ℕ → List ℕ
spoken (Ok Asking) = codes "W1"
spoken (Ok Waiting) = codes "W0"
spoken (Ok (Granted l)) = codes "G" ++ decimal l
spoken (Ok Done) = codes "K"
spoken (Err n) = codes "R" ++ decimal n

-- what is wrong with a line that cannot be read
abbrev pub complaint : Unreadable → List ℕ
complaint NoSuchCall = codes "no such call"
complaint NoLevel = codes "a level from 0 to 255 is wanted"
complaint NoAccess = codes "the access is prioritised or assured"
complaint TooManyWords = codes "more words than the call takes"

-- the level of the owner, or a dash
abbrev pub owner_text : Option ℕ → List ℕ
owner_text None = codes "-"
owner_text (Some l) = decimal l

-- a space and the level of a contender, if it is in the state
abbrev pub level_text : State → Contender → List ℕ
level_text s c = if in_state s c then codes " " ++ decimal c.level else []

-- the levels of those in a state, or a dash where nobody is
abbrev pub levels_text : State → List Contender → List ℕ
levels_text s cs = if list_any (in_state s) cs then flat_map (level_text s) cs else codes " -"

-- how many own
abbrev pub owners : Option ℕ → ℕ
owners o = if is_some o then 1 else 0

-- how many are left when those that own, ask and wait are taken away
abbrev pub idlers : Bus → ℕ
idlers b = length b.contenders - owners (owner_of b) - count asks b.contenders - count waits b.contenders

-- a mark for each contender: # owns, = asks, - waits, . idles
abbrev pub bar_text : Bus → List ℕ
bar_text b = codes "[" ++ repeat (owners (owner_of b)) (codes "#") ++ repeat (count asks b.contenders) (codes "=") ++ repeat (count waits b.contenders) (codes "-") ++ repeat (idlers b) (codes ".") ++ codes "]"

-- whether the inhibit is up
abbrev pub inhibit_text : Bool → List ℕ
inhibit_text true = codes "up"
inhibit_text false = codes "down"

-- the load of a segment: the bar, the owner, who asks, who waits, the inhibit
abbrev pub load_text : Bus → List ℕ
load_text b = bar_text b ++ (codes "  owner " ++ (owner_text (owner_of b) ++ (codes "  asks" ++ (levels_text Asks b.contenders ++ (codes "  waits" ++ (levels_text Waits b.contenders ++ (codes "  inhibit " ++ inhibit_text b.inhibit)))))))

-- the line of a call: its number, its answer, the load of the segment after it
abbrev pub call_line : ℕ → Result Answer ℕ → Bus → List ℕ
call_line n a b = decimal n ++ (codes " " ++ (spoken a ++ (codes "  " ++ (load_text b ++ codes "\n"))))

-- a message on a line of the script
abbrev pub message_line : ℕ → List ℕ → List ℕ
message_line n text = codes "line " ++ (decimal n ++ (codes ": " ++ (text ++ codes "\n")))

-- that a contender is refused, with the number of the refusal
abbrev pub refused : ℕ → List ℕ
refused number = codes "contender refused, " ++ spoken (Err number)
