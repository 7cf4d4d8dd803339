-- A data cycle over a link. Slave status 2 and 6 change nothing.
use Rattle.std.specs.Prelude.{ℕ, ◌+◌, ◌%◌, ◌^◌, Bool, true, false, if◌then◌else◌, ◌==◌, nat_lt}
use Rattle.model.specs.declared.cells.Cell.{Cell}
use Rattle.model.specs.declared.cells.Cell.TheVariants.{Absent, Fixed, Open}
use Rattle.model.specs.declared.parts.Link.{Link}
use Rattle.model.specs.declared.replies.Status.{Status}
use Rattle.model.specs.declared.replies.Status.TheVariants.{Valid, EndOfBlock, Rejected}
use Rattle.model.specs.declared.replies.Answer.TheVariants.{Cycle}
use Rattle.model.specs.Crates.{Crate, pointer_at, set_pointer, store}
use Rattle.model.specs.Outcomes.{Outcome, answered}

-- the pointer of the linked module in the linked space
abbrev pub pointer : Link → Crate → ℕ
pointer k c = pointer_at k.slot k.space c

-- what comes of a data cycle: how it went, the word that it answers, and the crate after it
pub record Cycled : Type 0 where
  pub status : Status
  pub word : ℕ
  pub crate : Crate

-- a cycle that went so, answers the word w, and leaves the crate c
abbrev pub cycled : Status → ℕ → Crate → Cycled
cycled s w c = record { status = s; word = w; crate = c }

-- as the outcome of a call: no grant
abbrev pub as_outcome : Cycled → Outcome
as_outcome y = answered (Cycle y.status y.word) y.crate

-- after a block transfer the pointer is one further than it was, with 0 after FFFFFFFFh
abbrev pub advanced : Bool → Link → ℕ → Crate → Crate
advanced block k t c = if block then set_pointer k.slot k.space ((t + 1) % 2 ^ 32) c else c

-- a transfer with the cell at the pointer t: read answers its word, write puts w there and answers 0
abbrev pub transferred : Bool → Bool → Link → ℕ → ℕ → Crate → Cell → Cycled
transferred block read k t w c Absent = cycled (if block then EndOfBlock else Rejected) 0 c
transferred block true k t w c (Fixed x) = cycled Valid x (advanced block k t c)
transferred block false k t w c (Fixed x) = cycled Rejected 0 c
transferred block true k t w c (Open x) = cycled Valid x (advanced block k t c)
transferred block false k t w c (Open x) = cycled Valid 0 (advanced block k t (store k.slot k.space t w c))

-- single or block: a transfer at the pointer
abbrev pub word_cycle : Bool → Bool → ℕ → Crate → Link → Cycled
word_cycle block read w c k = transferred block read k (pointer k c) w c (c.cells k.slot k.space (pointer k c))

-- secondary address: read answers the pointer, write loads it
abbrev pub pointer_cycle : Bool → ℕ → Crate → Link → Cycled
pointer_cycle true w c k = cycled Valid (pointer k c) c
pointer_cycle false w c k = cycled Valid 0 (set_pointer k.slot k.space w c)

-- MS 0 single, 1 block, 2 secondary address, 3 to 7 reserved
abbrev pub data_cycle : ℕ → Bool → ℕ → Crate → Link → Cycled
data_cycle ms read w c k = if nat_lt ms 2 then word_cycle (ms == 1) read w c k else if ms == 2 then pointer_cycle read w c k else cycled Rejected 0 c
