-- What a script prints, line by line.
-- A Run is how far a script has come: the segment, the number of lines read, and the number of calls made.
use Rattle.std.specs.Prelude.{ℕ, ◌+◌, min, if◌then◌else◌, List, [], ◌∷◌, ◌++◌, Some, None, Ok, Err, Option, Result, ◌==◌}
use Rattle.arbitration.specs.declared.contenders.Access.{Access}
use Rattle.arbitration.specs.declared.replies.Event.{Event}
use Rattle.arbitration.specs.Rules.{Bus, empty, add_refusal, added, answer, after}
use Rattle.loadbar.specs.declared.runs.Run.{Run}
use Rattle.loadbar.specs.declared.scripts.Line.{Line}
use Rattle.loadbar.specs.declared.scripts.Line.TheVariants.{Blank, Contender, Call}
use Rattle.loadbar.specs.declared.scripts.Unreadable.{Unreadable}
use Rattle.loadbar.specs.Listing.{complaint, call_line, message_line, refused}
use Rattle.loadbar.specs.Scripts.{read}

-- before the first line: the segment 1, with nobody on it
abbrev pub start : Run
start = record { segment = empty 1; lines = 0; calls = 0 }

-- the next number; counts stop at the largest that 64 bits hold
abbrev pub next : ℕ → ℕ
next n = min (n + 1) 18446744073709551615

-- ---- a contender
-- the segment with a contender more, unless it is refused
abbrev pub unless_refused : Option ℕ → ℕ → Access → Bus → Bus
unless_refused None l a b = added l a b
unless_refused (Some n) l a b = b

-- after a line that adds a contender
abbrev pub with_contender : ℕ → Access → Run → Run
with_contender l a r = record { segment = unless_refused (add_refusal l a r.segment) l a r.segment; lines = r.lines; calls = r.calls }

-- the message, if the contender is refused
abbrev pub if_refused : Option ℕ → ℕ → List ℕ
if_refused None line = []
if_refused (Some n) line = message_line line (refused n)

-- what a line that adds a contender prints
abbrev pub contender_text : ℕ → Access → Run → List ℕ
contender_text l a r = if_refused (add_refusal l a r.segment) r.lines

-- ---- a call
-- after a call
abbrev pub with_call : Event → Run → Run
with_call e r = record { segment = after e r.segment; lines = r.lines; calls = next r.calls }

-- what a call prints
abbrev pub call_text : Event → Run → List ℕ
call_text e r = call_line (next r.calls) (answer e r.segment) (after e r.segment)

-- ---- a line
-- one line more
abbrev pub counted : Run → Run
counted r = record { segment = r.segment; lines = next r.lines; calls = r.calls }

-- after what a line says
abbrev pub done : Result Line Unreadable → Run → Run
done (Err u) r = r
done (Ok Blank) r = r
done (Ok (Contender l a)) r = with_contender l a r
done (Ok (Call e)) r = with_call e r

-- what is printed for what a line says
abbrev pub text_of : Result Line Unreadable → Run → List ℕ
text_of (Err u) r = message_line r.lines (complaint u)
text_of (Ok Blank) r = []
text_of (Ok (Contender l a)) r = contender_text l a r
text_of (Ok (Call e)) r = call_text e r

-- after a line
abbrev pub taken_in : List ℕ → Run → Run
taken_in line r = done (read line) (counted r)

-- what a line prints
abbrev pub printed : List ℕ → Run → List ℕ
printed line r = text_of (read line) (counted r)

-- ---- a script
-- a byte in front of the first line
abbrev pub prefixed : ℕ → List (List ℕ) → List (List ℕ)
prefixed b [] = (b ∷ []) ∷ []
prefixed b (l ∷ ls) = (b ∷ l) ∷ ls

-- the lines of a text, without their ends; the last needs no end
abbrev pub lines_of : List ℕ → List (List ℕ)
lines_of [] = []
lines_of (b ∷ bs) = if b == 10 then [] ∷ lines_of bs else prefixed b (lines_of bs)

-- what the lines print, one after the other
abbrev pub report : List (List ℕ) → Run → List ℕ
report [] r = []
report (l ∷ ls) r = printed l r ++ report ls (taken_in l r)

-- what a script prints
abbrev pub listing : List ℕ → List ℕ
listing script = report (lines_of script) start
