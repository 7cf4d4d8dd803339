-- Runs that show what the laws and the definitions speak of: a wish that sees just as many grants to others as it may,
-- a word that goes over two interconnects, the ways in which an address stops, and every refusal.
use Rattle.std.specs.Prelude.{◌≡◌, ℕ, ◌+◌, ◌*◌, ◌<◌, Bool, true, false, if◌then◌else◌, List, [], ◌∷◌, ◌++◌, map, Some, None, Option, ◌==◌}
use Rattle.std.specs.Option.{option_map}
use Rattle.arbitration.specs.declared.contenders.Access.TheVariants.{Prioritised, Assured}
use Rattle.arbitration.specs.declared.contenders.Contender.{Contender}
use Rattle.arbitration.specs.Contenders.{idle, wishes, assured}
use Rattle.arbitration.specs.Rules.{Bus, newcomer, its}
use Rattle.arbitration.specs.Waiting.{rivals, to_others, to_prioritised}
use Rattle.model.specs.declared.calls.Call.{Call}
use Rattle.model.specs.declared.calls.Call.TheVariants.{Wish, Withdraw, Arbitrate, Address, Data, End, Release, Clear}
use Rattle.model.specs.declared.cells.Space.TheVariants as space
use Rattle.model.specs.declared.cells.Cell.TheVariants.{Absent}
use Rattle.model.specs.declared.parts.Flags.{Flags}
use Rattle.model.specs.declared.parts.Interconnect.{Interconnect}
use Rattle.model.specs.Crates.{Segment, Crate, bus_at, operation_at, interconnect_to, pointer_at}
use Rattle.model.specs.Addresses.{grant}
use Rattle.model.specs.Rest.{AtRest}
use Rattle.model.specs.Runs.{after_calls, grants_of, levels_on, Throughout}
use Rattle.model.specs.Laws.{HasLink}
use Rattle.model.specs.Examples.{Seen, says, memory, slot}

-- a segment at rest
abbrev pub segment : ℕ → List Contender → Segment
segment n ds = record { bus = record { number = n; contenders = ds; inhibit = false }; operation = None }

-- ---- a wish that waits as long as it may
-- one other assured contender, so that k is 1, and a prioritised one
abbrev pub three_masters : Crate
three_masters = record { segments = segment 1 (newcomer 3 Assured ∷ newcomer 5 Assured ∷ newcomer 40 Prioritised ∷ []) ∷ []; interconnects = []; slots = []; cells = λ k s a. Absent }

-- 40 owns and 5 asks, so that the inhibit is up
abbrev pub before : List Call
before = Wish 1 40 ∷ Wish 1 5 ∷ Arbitrate 1 ∷ []

-- after 3 came to wish: grants to 5, to 40 and to 5 again
abbrev pub during : List Call
during = Release 1 40 ∷ Arbitrate 1 ∷ Release 1 5 ∷ Wish 1 5 ∷ Wish 1 40 ∷ Arbitrate 1 ∷ Release 1 40 ∷ Arbitrate 1 ∷ []

-- level 3 sees 2k + p grants to others, which is more than k + p, while it wishes with the inhibit up at its wish
pub record TheBoundOnWaitingIsMet : Type 0 where
  pub rests : AtRest three_masters
  pub starts : let b : Bus = bus_at 1 (after_calls before three_masters) in
      (its 3 assured b ≡ true) × (its 3 idle b ≡ true) × (b.inhibit ≡ true) × (rivals 3 b ≡ 1)
  pub wishes_on : Throughout (λ c. its 3 wishes (bus_at 1 c) ≡ true) (Wish 1 3 ∷ during) (after_calls before three_masters)
  pub met : let c : Crate = after_calls before three_masters in let ls : List ℕ = levels_on 1 (grants_of (Wish 1 3 ∷ during) c) in
      (to_prioritised (bus_at 1 c) ls ≡ 1) × (to_others 3 ls ≡ 2 * 1 + 1) × (1 + 1 < to_others 3 ls)

-- ---- a word that goes over two interconnects
-- an interconnect at rest, at position 0, with level 20 and assured access
abbrev pub interconnect : ℕ → ℕ → ℕ → Interconnect
interconnect near far mask = record { near = near; position = 0; far = far; level = 20; access = Assured; mask = mask; flags = record { failed = false; lost = false } }

-- segments 1, 2 and 3 in a row, the first with a master and the second with two, and a memory on the third, at position 7 with number 1
abbrev pub three_in_a_row : Crate
three_in_a_row =
    record {
      segments = segment 1 (newcomer 5 Assured ∷ []) ∷ segment 2 (newcomer 6 Assured ∷ newcomer 20 Assured ∷ newcomer 40 Prioritised ∷ []) ∷ segment 3 (newcomer 20 Assured ∷ []) ∷ [];
      -- groups 2 and 3 from segment 1, group 3 from segment 2
      interconnects = interconnect 1 2 6 ∷ interconnect 2 3 4 ∷ [];
      slots = slot 3 7 1 ∷ [];
      cells = λ k s a. (if k == 0 then memory s a else Absent);
    }

-- the master of segment 1 links the memory at word 16
abbrev pub linking : List Call
linking = Wish 1 5 ∷ Arbitrate 1 ∷ Address 1 5 0 0x0301_0010 ∷ []

-- and writes 77 there
abbrev pub writing : List Call
writing = linking ++ Data 1 5 0 false 77 ∷ []

-- it ends its link, and the master of segment 2 links the memory at the same word
abbrev pub linking_from_2 : List Call
linking_from_2 = writing ++ End 1 5 ∷ Wish 2 6 ∷ Arbitrate 2 ∷ Address 2 6 0 0x0301_0010 ∷ []

-- the word written over two interconnects is read back over both, and by another master over one
pub record AWordGoesOverTwoInterconnects : Type 0 where
  pub rests : AtRest three_in_a_row
  pub granted : grants_of linking three_in_a_row ≡ grant 1 5 ∷ grant 2 20 ∷ grant 3 20 ∷ []
  -- by its number the memory has its data pointer loaded
  pub loaded : pointer_at 0 space.Data (after_calls linking three_in_a_row) ≡ 16
  pub linked : HasLink 1 5 (record { slot = 0; space = space.Data }) (after_calls linking three_in_a_row)
  pub written : says three_in_a_row linking (Data 1 5 0 false 77) ≡ Seen.cycles 0 0
  pub read_back : says three_in_a_row writing (Data 1 5 0 true 0) ≡ Seen.cycles 0 77
  pub linked_from_2 : HasLink 2 6 (record { slot = 0; space = space.Data }) (after_calls linking_from_2 three_in_a_row)
  pub read_from_2 : says three_in_a_row linking_from_2 (Data 2 6 0 true 0) ≡ Seen.cycles 0 77

-- ---- an address that stops
-- both flags of the interconnect that leads to a segment
abbrev pub flags_to : ℕ → Crate → Option Flags
flags_to n c = option_map (λ i. i.flags) (interconnect_to n c)

-- flags 11 and 12
abbrev pub flagged : Bool → Bool → Option Flags
flagged f l = Some (record { failed = f; lost = l })

-- the master of segment 1 owns it, and on segment 2 the level 40 asks
abbrev pub contending : List Call
contending = Wish 1 5 ∷ Arbitrate 1 ∷ Wish 2 40 ∷ []

-- its address finds segment 2 granted to 40, and is repeated once 40 has released it
abbrev pub repeating : List Call
repeating = contending ++ Address 1 5 0 0x0301_0010 ∷ Release 2 40 ∷ []

-- an address to a module that is not there
abbrev pub to_nobody : Call
to_nobody = Address 1 5 0 0x0309_0000

-- SS 1 and SS 2 with their segments, flags and operations, and what clear does
pub record AStoppedAddressIsToldAndFlagged : Type 0 where
  -- 40 wins segment 2: network busy there, and flag 12; the operation is begun
  pub busy : says three_in_a_row contending (Address 1 5 0 0x0301_0010) ≡ Seen.stops 1 2
  pub lost : flags_to 2 (after_calls repeating three_in_a_row) ≡ flagged false true
  pub begun : operation_at 1 (after_calls repeating three_in_a_row) ≡ Some (record { group = 3; link = None })
  -- so that another group is refused, and the same one goes through
  pub elsewhere : says three_in_a_row repeating (Address 1 5 0 0x0201_0010) ≡ Seen.refuses 26
  pub through : says three_in_a_row repeating (Address 1 5 0 0x0301_0010) ≡ Seen.links 0
  -- nothing on segment 3 has the number 9: network failure there, and flag 11; nothing is under way, and both interconnects are idle
  pub failed : says three_in_a_row repeating to_nobody ≡ Seen.stops 2 3
  pub noted : let c : Crate = after_calls (repeating ++ to_nobody ∷ []) three_in_a_row in
      (flags_to 3 c ≡ flagged true false) × (operation_at 1 c ≡ None) × (its 20 idle (bus_at 2 c) ≡ true) × (its 20 idle (bus_at 3 c) ≡ true)
  -- clear lowers the flags of the interconnect that it names, and of no other
  pub cleared : let c : Crate = after_calls (repeating ++ to_nobody ∷ Clear 3 ∷ []) three_in_a_row in
      (flags_to 3 c ≡ flagged false false) × (flags_to 2 c ≡ flagged false true)

-- ---- a link by position
-- the pointer of the memory stands at 16; then its master links it again, by its position
abbrev pub by_position : List Call
by_position = linking ++ End 1 5 ∷ Address 1 5 0 0x0300_0007 ∷ []

-- a link by position moves no pointer
pub record ALinkByPositionMovesNoPointer : Type 0 where
  pub linked : HasLink 1 5 (record { slot = 0; space = space.Data }) (after_calls by_position three_in_a_row)
  pub unmoved : pointer_at 0 space.Data (after_calls by_position three_in_a_row) ≡ 16

-- ---- every refusal
-- the answers to calls that are refused, by rising number
abbrev pub refusals : List Seen
refusals =
    says three_in_a_row [] (Wish 9 5) ∷
    says three_in_a_row [] (Wish 2 20) ∷
    says three_in_a_row linking (Data 1 5 8 true 0) ∷
    says three_in_a_row [] (Clear 1) ∷
    says three_in_a_row (Wish 1 5 ∷ []) (Wish 1 5) ∷
    says three_in_a_row [] (Withdraw 1 5) ∷
    says three_in_a_row linking (Arbitrate 3) ∷
    says three_in_a_row [] (Arbitrate 1) ∷
    says three_in_a_row [] (Release 1 5) ∷
    says three_in_a_row linking (Address 1 5 0 0x0301_0010) ∷
    says three_in_a_row repeating (Address 1 5 0 0x0201_0010) ∷
    says three_in_a_row contending (End 1 5) ∷
    says three_in_a_row contending (Data 1 5 0 true 0) ∷
    says three_in_a_row contending (Address 1 5 0 0x0501_0010) ∷ []

-- each reason is met, under its number
abbrev pub EachRefusalIsMet : Type 0
EachRefusalIsMet = refusals ≡ map Seen.refuses (7 ∷ 8 ∷ 9 ∷ 10 ∷ 20 ∷ 21 ∷ 22 ∷ 23 ∷ 24 ∷ 25 ∷ 26 ∷ 27 ∷ 27 ∷ 28 ∷ [])
