-- A crate as a value: what it is made of, what is looked up in it, and the single changes that calls are made of.
-- Where a number names several things, the first is meant. A change of a segment, an interconnect or a slot that is not there does nothing.
use Rattle.std.specs.Prelude.{ℕ, zero, suc, ◌+◌, Bool, true, false, if◌then◌else◌, ◌&&◌, List, [], ◌∷◌, Some, None, Option, ◌==◌, find}
use Rattle.std.specs.List.{slice_get}
use Rattle.arbitration.specs.declared.replies.Event.{Event}
use Rattle.arbitration.specs.Lists.{amended}
use Rattle.arbitration.specs.Rules.{Bus, empty, after}
use Rattle.model.specs.declared.cells.Space.{Space}
use Rattle.model.specs.declared.cells.Space.TheVariants.{Data, Csr}
use Rattle.model.specs.declared.cells.Cell.{Cell}
use Rattle.model.specs.declared.cells.Cell.TheVariants.{Open}
use Rattle.model.specs.declared.parts.Flags.{Flags}
use Rattle.model.specs.declared.parts.Interconnect.{Interconnect}
use Rattle.model.specs.declared.parts.Pointers.{Pointers}
use Rattle.model.specs.declared.parts.Slot.{Slot}
use Rattle.model.specs.declared.parts.Link.{Link}
use Rattle.model.specs.declared.parts.Operation.{Operation}

-- a segment: its bus, with number, contenders and inhibit, and what its owner has under way
pub record Segment : Type 0 where
  pub bus : Bus
  pub operation : Option Operation

-- what a module holds: a cell for each space and address
abbrev pub Table : Type 0
Table = Space → ℕ → Cell

-- a crate: its segments, its interconnects, where its modules stand, and what each module holds, by the index of its slot
pub record Crate : Type 0 where
  pub segments : List Segment
  pub interconnects : List Interconnect
  pub slots : List Slot
  pub cells : ℕ → Table

-- ---- segments, by number
-- the segment has the number n
abbrev pub numbered : ℕ → Segment → Bool
numbered n s = s.bus.number == n

-- the segment of number n, if there is one
abbrev pub segment_at : ℕ → Crate → Option Segment
segment_at n c = find (numbered n) c.segments

-- the bus of a segment; of one that is not there, a bus that nobody is on
abbrev pub bus_of : ℕ → Option Segment → Bus
bus_of n None = empty n
bus_of n (Some s) = s.bus

-- the bus of segment n
abbrev pub bus_at : ℕ → Crate → Bus
bus_at n c = bus_of n (segment_at n c)

-- what is under way on a segment, if it is there
abbrev pub operation_of : Option Segment → Option Operation
operation_of None = None
operation_of (Some s) = s.operation

-- what the owner of segment n has under way
abbrev pub operation_at : ℕ → Crate → Option Operation
operation_at n c = operation_of (segment_at n c)

-- the link of an operation, if it has one
abbrev pub link_of : Option Operation → Option Link
link_of None = None
link_of (Some o) = o.link

-- the link of the owner of segment n
abbrev pub link_at : ℕ → Crate → Option Link
link_at n c = link_of (operation_at n c)

-- the crate with other segments
abbrev pub with_segments : List Segment → Crate → Crate
with_segments ss c = record { segments = ss; interconnects = c.interconnects; slots = c.slots; cells = c.cells }

-- the segment after an event on its bus
abbrev pub with_event : Event → Segment → Segment
with_event e s = record { bus = after e s.bus; operation = s.operation }

-- an event happens on the bus of segment n; one that the bus refuses changes nothing
abbrev pub happens : ℕ → Event → Crate → Crate
happens n e c = with_segments (amended (numbered n) (with_event e) c.segments) c

-- the segment with another operation under way, or none
abbrev pub with_operation : Option Operation → Segment → Segment
with_operation o s = record { bus = s.bus; operation = o }

-- what the owner of segment n has under way becomes o
abbrev pub set_operation : ℕ → Option Operation → Crate → Crate
set_operation n o c = with_segments (amended (numbered n) (with_operation o) c.segments) c

-- ---- interconnects, by far segment
-- the interconnect leads to segment n
abbrev pub leads_to : ℕ → Interconnect → Bool
leads_to n i = i.far == n

-- the interconnect that leads to segment n
abbrev pub interconnect_to : ℕ → Crate → Option Interconnect
interconnect_to n c = find (leads_to n) c.interconnects

-- the interconnect with its flags changed by f
abbrev pub with_flags : (Flags → Flags) → Interconnect → Interconnect
with_flags f i = record { near = i.near; position = i.position; far = i.far; level = i.level; access = i.access; mask = i.mask; flags = f i.flags }

-- the flags of the interconnect that leads to segment n are changed by f
abbrev pub set_flags : ℕ → (Flags → Flags) → Crate → Crate
set_flags n f c = record { segments = c.segments; interconnects = amended (leads_to n) (with_flags f) c.interconnects; slots = c.slots; cells = c.cells }

-- ---- modules, by the index of their slot
-- the index of the first slot that passes
abbrev pub index_of : (Slot → Bool) → List Slot → Option ℕ
index_of p [] = None
index_of p (x ∷ xs) = if p x then Some 0 else elim (index_of p xs) [ None ↦ None | Some k ↦ Some (k + 1) ]

-- the pointer for a space
abbrev pub in_space : Space → Pointers → ℕ
in_space Data p = p.«data»
in_space Csr p = p.csr

-- the pointer of a slot for a space, 0 where there is no such slot
abbrev pub pointer_of : Space → Option Slot → ℕ
pointer_of s None = 0
pointer_of s (Some x) = in_space s x.pointers

-- the pointer of module k in space s
abbrev pub pointer_at : ℕ → Space → Crate → ℕ
pointer_at k s c = pointer_of s (slice_get c.slots k)

-- the pointers with the one for a space at v
abbrev pub put_pointer : Space → ℕ → Pointers → Pointers
put_pointer Data v p = record { «data» = v; csr = p.csr }
put_pointer Csr v p = record { «data» = p.«data»; csr = v }

-- the slot with its pointer for a space at v
abbrev pub with_pointer : Space → ℕ → Slot → Slot
with_pointer s v x = record { segment = x.segment; position = x.position; number = x.number; pointers = put_pointer s v x.pointers }

-- the slot of index k with its pointer of space s at v, the others as they were
abbrev pub pointed : ℕ → Space → ℕ → List Slot → List Slot
pointed k s v [] = []
pointed zero s v (x ∷ xs) = with_pointer s v x ∷ xs
pointed (suc k) s v (x ∷ xs) = x ∷ pointed k s v xs

-- the pointer of module k in space s becomes v
abbrev pub set_pointer : ℕ → Space → ℕ → Crate → Crate
set_pointer k s v c = record { segments = c.segments; interconnects = c.interconnects; slots = pointed k s v c.slots; cells = c.cells }

-- ---- what a module holds
-- two spaces are the same
abbrev pub same_space : Space → Space → Bool
same_space Data Data = true
same_space Data Csr = false
same_space Csr Data = false
same_space Csr Csr = true

-- the table t with the word w in the cell of space s and address a; every other cell as it was
abbrev pub stored : Table → Space → ℕ → ℕ → Table
stored t s a w s' a' = if same_space s s' && a == a' then Open w else t s' a'

-- the word w is stored in a cell of module k; every other module is as it was
abbrev pub store : ℕ → Space → ℕ → ℕ → Crate → Crate
store k s a w c =
    record {
      segments = c.segments;
      interconnects = c.interconnects;
      slots = c.slots;
      cells = λ k' s' a'. (if k == k' then stored (c.cells k) s a w s' a' else c.cells k' s' a');
    }
