-- The book of last words: for each module, space and address the last word that was written there, else the setup's.
-- It is fed the calls in order, each with its answer and with the link and the pointer that it met, and nothing else:
-- it never looks into a module again.
use Rattle.std.specs.Prelude.{ℕ, Bool, false, if◌then◌else◌, not, ◌&&◌, List, [], ◌∷◌, Some, None, Ok, Err, Option, Result, ◌==◌, nat_lt}
use Rattle.model.specs.declared.calls.Call.{Call}
use Rattle.model.specs.declared.calls.Call.TheVariants.{Wish, Withdraw, Arbitrate, Address, Data, End, Release, Clear}
use Rattle.model.specs.declared.cells.Space.{Space}
use Rattle.model.specs.declared.cells.Cell.{Cell}
use Rattle.model.specs.declared.cells.Cell.TheVariants.{Absent, Fixed, Open}
use Rattle.model.specs.declared.parts.Link.{Link}
use Rattle.model.specs.declared.replies.Answer.{Answer}
use Rattle.model.specs.declared.replies.Answer.TheVariants.{Asking, Waiting, Granted, Done, Linked, Stopped, Cycle}
use Rattle.model.specs.declared.replies.Reason.{Reason}
use Rattle.arbitration.specs.declared.replies.Refusal.{Refusal}
use Rattle.model.specs.Crates.{Crate, link_at, same_space}
use Rattle.model.specs.Cycles.{pointer}
use Rattle.model.specs.Calls.{step}
use Rattle.model.specs.Numbers.{status_code}

-- the last word, if any, by module, space and address
abbrev pub Book : Type 0
Book = ℕ → Space → ℕ → Option ℕ

-- the word of a fixed or open cell
abbrev pub word_of : Cell → Option ℕ
word_of Absent = None
word_of (Fixed w) = Some w
word_of (Open w) = Some w

-- the book before the first call: the setup's words
abbrev pub setup_book : Crate → Book
setup_book c k s a = word_of (c.cells k s a)

-- the book with the word w for module k, space s and address a
abbrev pub entered : ℕ → Space → ℕ → ℕ → Book → Book
entered k s a w b k' s' a' = if k == k' && same_space s s' && a == a' then Some w else b k' s' a'

-- the word w at the place of a link: the linked module, the linked space, and the pointer
abbrev pub entered_at : Option Link → ℕ → Crate → Book → Book
entered_at None w c b = b
entered_at (Some k) w c b = entered k.slot k.space (pointer k c) w b

-- a data cycle with SS 0
abbrev pub is_success : Result Answer (Refusal Reason) → Bool
is_success (Ok Asking) = false
is_success (Ok Waiting) = false
is_success (Ok (Granted l)) = false
is_success (Ok Done) = false
is_success (Ok Linked) = false
is_success (Ok (Stopped s n)) = false
is_success (Ok (Cycle s w)) = status_code s == 0
is_success (Err r) = false

-- the book after a call that met the crate c and was answered r: a word is entered for a single or block write with SS 0, and for nothing else
abbrev pub noted : Call → Result Answer (Refusal Reason) → Crate → Book → Book
noted (Wish n l) r c b = b
noted (Withdraw n l) r c b = b
noted (Arbitrate n) r c b = b
noted (Address n l ms ad) r c b = b
noted (Data n l ms read w) r c b = if is_success r && nat_lt ms 2 && not read then entered_at (link_at n c) w c b else b
noted (End n l) r c b = b
noted (Release n l) r c b = b
noted (Clear n) r c b = b

-- the book after a list of calls, the first of which met the crate c
abbrev pub book_after : List Call → Crate → Book → Book
book_after [] c b = b
book_after (x ∷ xs) c b = book_after xs (step x c).crate (noted x (step x c).reply c b)
