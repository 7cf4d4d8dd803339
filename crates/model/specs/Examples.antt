-- Ten worked examples, each with what the definitions give and what is wanted.
use Rattle.std.specs.Prelude.{◌≡◌, ℕ, Bool, true, false, if◌then◌else◌, List, [], ◌∷◌, ◌++◌, map, None, Ok, Err, Result, ◌==◌, nat_lt}
use Rattle.arbitration.specs.declared.contenders.Access.TheVariants.{Prioritised, Assured}
use Rattle.arbitration.specs.Contenders.{asks}
use Rattle.arbitration.specs.Rules.{newcomer, its}
use Rattle.model.specs.declared.calls.Call.{Call}
use Rattle.model.specs.declared.calls.Call.TheVariants as call
use Rattle.model.specs.declared.cells.Space.TheVariants.{Data, Csr}
use Rattle.model.specs.declared.cells.Cell.TheVariants.{Absent, Fixed, Open}
use Rattle.model.specs.declared.parts.Slot.{Slot}
use Rattle.model.specs.declared.replies.Answer.{Answer}
use Rattle.model.specs.declared.replies.Answer.TheVariants.{Asking, Waiting, Granted, Done, Linked, Stopped, Cycle}
use Rattle.model.specs.declared.replies.Reason.{Reason}
use Rattle.arbitration.specs.declared.replies.Refusal.{Refusal}
use Rattle.model.specs.Crates.{Table, Crate, bus_at, pointer_at}
use Rattle.model.specs.Numbers.{number_of, status_code, link_code, stop_code}
use Rattle.model.specs.Calls.{step}
use Rattle.model.specs.Rest.{AtRest}
use Rattle.model.specs.Runs.{after_calls}

-- ---- what is seen
-- the answer to a call, by its numbers, or what is so after it
pub data Seen : Type 0 where
  asks_now : Seen
  waits_now : Seen
  grants_to : (level : ℕ) → Seen
  is_done : Seen
  links : (ss : ℕ) → Seen
  stops : (ss : ℕ) (segment : ℕ) → Seen
  cycles : (ss : ℕ) (word : ℕ) → Seen
  refuses : (number : ℕ) → Seen
  inhibit : (up : Bool) → Seen
  asking : (yes_or_no : Bool) → Seen
  pointer : (address : ℕ) → Seen

-- an answer or a refusal by its numbers
abbrev pub seen : Result Answer (Refusal Reason) → Seen
seen (Ok Asking) = Seen.asks_now
seen (Ok Waiting) = Seen.waits_now
seen (Ok (Granted l)) = Seen.grants_to l
seen (Ok Done) = Seen.is_done
seen (Ok Linked) = Seen.links link_code
seen (Ok (Stopped s n)) = Seen.stops (stop_code s) n
seen (Ok (Cycle s w)) = Seen.cycles (status_code s) w
seen (Err r) = Seen.refuses (number_of r.reason)

-- what the call x is answered, after the calls xs
abbrev pub says : Crate → List Call → Call → Seen
says c xs x = seen (step x (after_calls xs c)).reply

-- ---- the crate
-- data 0 to 255 open at 0, CSR 0 fixed 1
abbrev pub memory : Table
memory Data a = if nat_lt a 256 then Open 0 else Absent
memory Csr a = if a == 0 then Fixed 1 else Absent

-- CSR 80000000h to 80000003h fixed: 55h, 0, 0, 1
abbrev pub prom : Table
prom Data a = Absent
prom Csr a = if a == 0x8000_0000 then Fixed 0x55 else if a == 0x8000_0001 then Fixed 0 else if a == 0x8000_0002 then Fixed 0 else if a == 0x8000_0003 then Fixed 1 else Absent

-- a slot with both pointers at 0
abbrev pub slot : ℕ → ℕ → ℕ → Slot
slot n position number = record { segment = n; position = position; number = number; pointers = record { «data» = 0; csr = 0 } }

-- segment 1 with the masters 5 and 9, assured, and 40, prioritised; a memory at position 3 with number 1,
-- and a parameter PROM at position 4 with number 2
abbrev pub one_segment : Crate
one_segment =
    record {
      segments = record { bus = record { number = 1; contenders = newcomer 5 Assured ∷ newcomer 9 Assured ∷ newcomer 40 Prioritised ∷ []; inhibit = false }; operation = None } ∷ [];
      interconnects = [];
      slots = slot 1 3 1 ∷ slot 1 4 2 ∷ [];
      cells = λ k s a. (if k == 0 then memory s a else if k == 1 then prom s a else Absent);
    }

-- ---- the runs
-- 5 and 9 wish
abbrev pub both_wish : List Call
both_wish = call.Wish 1 5 ∷ call.Wish 1 9 ∷ []

-- 9 is granted the segment, releases it and wishes again
abbrev pub nine_again : List Call
nine_again = both_wish ++ call.Arbitrate 1 ∷ call.Release 1 9 ∷ call.Wish 1 9 ∷ []

-- 9 is granted the segment, 40 wishes, and 9 releases
abbrev pub forty_comes : List Call
forty_comes = both_wish ++ call.Arbitrate 1 ∷ call.Wish 1 40 ∷ call.Release 1 9 ∷ []

-- 5 alone wishes, and is granted the segment
abbrev pub five_owns : List Call
five_owns = call.Wish 1 5 ∷ call.Arbitrate 1 ∷ []

-- 5 addresses with the word ad, in data space
abbrev pub addressed_by : ℕ → List Call
addressed_by ad = five_owns ++ call.Address 1 5 0 ad ∷ []

-- the CSR pointer of the PROM stands at 80000000h
abbrev pub prom_linked : List Call
prom_linked = five_owns ++ call.Address 1 5 1 0x0002_0000 ∷ call.Data 1 5 2 false 0x8000_0000 ∷ []

-- 5 reads a word, block mode
abbrev pub block_read : Call
block_read = call.Data 1 5 1 true 0

-- 5 writes 7, block mode
abbrev pub block_write : Call
block_write = call.Data 1 5 1 false 7

-- ---- the examples
-- what the definitions give, and what is wanted
pub record Example : Type 0 where
  pub gives : List Seen
  pub wanted : List Seen

-- the ten
abbrev pub examples : List Example
examples =
    -- 1. after both wished, 9 is granted the segment
    record { gives = says one_segment both_wish (call.Arbitrate 1) ∷ []; wanted = Seen.grants_to 9 ∷ [] } ∷
    -- 2. 9 released it and wishes again: it waits
    record { gives = says one_segment (both_wish ++ call.Arbitrate 1 ∷ call.Release 1 9 ∷ []) (call.Wish 1 9) ∷ []; wanted = Seen.waits_now ∷ [] } ∷
    -- 3. the next grant is to 5, and then the inhibit is down and 9 asks
    (let c : Crate = after_calls (nine_again ++ call.Arbitrate 1 ∷ []) one_segment in
    record {
      gives = says one_segment nine_again (call.Arbitrate 1) ∷ Seen.inhibit (bus_at 1 c).inhibit ∷ Seen.asking (its 9 asks (bus_at 1 c)) ∷ [];
      wanted = Seen.grants_to 5 ∷ Seen.inhibit false ∷ Seen.asking true ∷ [];
    }) ∷
    -- 4. 40 wishes with the inhibit up: it asks, and wins over 5
    (let c : Crate = after_calls (both_wish ++ call.Arbitrate 1 ∷ []) one_segment in
    record {
      gives = Seen.inhibit (bus_at 1 c).inhibit ∷ says c [] (call.Wish 1 40) ∷ says one_segment forty_comes (call.Arbitrate 1) ∷ [];
      wanted = Seen.inhibit true ∷ Seen.asks_now ∷ Seen.grants_to 40 ∷ [];
    }) ∷
    -- 5. a sole asker wins, and the inhibit is down after
    record {
      gives = says one_segment (call.Wish 1 5 ∷ []) (call.Arbitrate 1) ∷ Seen.inhibit (bus_at 1 (after_calls five_owns one_segment)).inhibit ∷ [];
      wanted = Seen.grants_to 5 ∷ Seen.inhibit false ∷ [];
    } ∷
    -- 6. the last word of the memory, 255, is read in block mode with SS 0, and the pointer goes to 256; there the next block read ends with SS 2
    (let c : Crate = after_calls (addressed_by 0x0001_00ff) one_segment in
    record {
      gives = says c [] block_read ∷ Seen.pointer (pointer_at 0 Data (after_calls (block_read ∷ []) c)) ∷ says c (block_read ∷ []) block_read ∷ [];
      wanted = Seen.cycles 0 0 ∷ Seen.pointer 256 ∷ Seen.cycles 2 0 ∷ [];
    }) ∷
    -- 7. read in single mode, 256 gives SS 6
    record { gives = says one_segment (addressed_by 0x0001_0100) (call.Data 1 5 0 true 0) ∷ []; wanted = Seen.cycles 6 0 ∷ [] } ∷
    -- 8. MS 3 gives SS 6
    record { gives = says one_segment (addressed_by 0x0001_0010) (call.Data 1 5 3 true 0) ∷ []; wanted = Seen.cycles 6 0 ∷ [] } ∷
    -- 9. the PROM does not take a word at 80000000h, also in block mode: SS 6, and its pointer is where it was
    (let c : Crate = after_calls prom_linked one_segment in
    record {
      gives = says c [] block_write ∷ Seen.pointer (pointer_at 1 Csr (after_calls (block_write ∷ []) c)) ∷ [];
      wanted = Seen.cycles 6 0 ∷ Seen.pointer 0x8000_0000 ∷ [];
    }) ∷
    -- 10. the address 00000100h means nothing: it is refused with 28
    record { gives = says one_segment five_owns (call.Address 1 5 0 0x0000_0100) ∷ []; wanted = Seen.refuses 28 ∷ [] } ∷ []

-- the crate is at rest, and all ten give what is wanted
abbrev pub TheTenExamplesHold : Type 0
TheTenExamplesHold = AtRest one_segment × (map (λ e. e.gives) examples ≡ map (λ e. e.wanted) examples)
