-- A crate at rest, within the limits: what a crate may be before its first call. Any tree of segments, and any table of cells for each module.
use Rattle.std.specs.Prelude.{◌≡◌, ℕ, Bool, true, false, not, ◌&&◌, List, [], ◌∷◌, ◌++◌, map, length, is_some, ◌==◌, bit_and, nat_le, nat_lt}
use Rattle.arbitration.specs.declared.contenders.Access.{Access}
use Rattle.arbitration.specs.declared.contenders.Access.TheVariants.{Prioritised, Assured}
use Rattle.arbitration.specs.declared.contenders.Contender.{Contender}
use Rattle.std.specs.List.{list_any, list_all}
use Rattle.arbitration.specs.Contenders.{idle}
use Rattle.arbitration.specs.Rules.{Bus, its, in_range}
use Rattle.arbitration.specs.Sound.{levels, distinct}
use Rattle.model.specs.declared.parts.Interconnect.{Interconnect}
use Rattle.model.specs.declared.parts.Slot.{Slot}
use Rattle.model.specs.Crates.{Segment, Crate, segment_at, bus_at}

-- no two elements are alike
abbrev pub apart : {A : Type 0} → (A → A → Bool) → List A → Bool
apart alike [] = true
apart alike (x ∷ xs) = not (list_any (alike x) xs) && apart alike xs

-- ---- a segment
-- idle, and with a level in the range of its access
abbrev pub contender_rests : Contender → Bool
contender_rests d = in_range d.level d.access && idle d

-- at most 16 contenders with different levels, all at rest, and the inhibit down
abbrev pub bus_rests : Bus → Bool
bus_rests b = nat_le (length b.contenders) 16 && distinct (levels b.contenders) && list_all contender_rests b.contenders && not b.inhibit

-- numbered 1 to 8, with nothing under way
abbrev pub segment_rests : Segment → Bool
segment_rests s = nat_le 1 s.bus.number && nat_le s.bus.number 8 && bus_rests s.bus && not (is_some s.operation)

-- ---- an interconnect
-- two accesses are the same
abbrev pub same_access : Access → Access → Bool
same_access Prioritised Prioritised = true
same_access Prioritised Assured = false
same_access Assured Prioritised = false
same_access Assured Assured = true

-- it leads from a segment that is there to a higher one, on which a contender has its level and access;
-- its position is 0 to 25, its mask has the bits of the groups 1 to 8, and its flags are down
abbrev pub interconnect_rests : Crate → Interconnect → Bool
interconnect_rests c i =
    is_some (segment_at i.near c) && nat_lt i.near i.far && its i.level (λ d. same_access d.access i.access) (bus_at i.far c) &&
    nat_le i.position 25 && nat_lt i.mask 256 && not i.flags.failed && not i.flags.lost

-- on the same near segment, with a group that both pass
abbrev pub share_a_group : Interconnect → Interconnect → Bool
share_a_group i j = i.near == j.near && not (bit_and i.mask j.mask == 0)

-- ---- a module's slot
-- on a segment that is there, at a position 0 to 25, with a number up to 255 and both pointers at 0
abbrev pub slot_rests : Crate → Slot → Bool
slot_rests c x = is_some (segment_at x.segment c) && nat_le x.position 25 && nat_lt x.number 256 && x.pointers.«data» == 0 && x.pointers.csr == 0

-- on the same segment, with the same number, and not 0 for none
abbrev pub share_a_number : Slot → Slot → Bool
share_a_number x y = x.segment == y.segment && not (x.number == 0) && x.number == y.number

-- the positions in use, each with its segment: by interconnects and by modules
abbrev pub positions : Crate → List (ℕ × ℕ)
positions c = map (λ i. (i.near, i.position)) c.interconnects ++ map (λ x. (x.segment, x.position)) c.slots

-- two positions are the same: of one segment, and with one number
abbrev pub same_position : ℕ × ℕ → ℕ × ℕ → Bool
same_position p q = p.0 == q.0 && p.1 == q.1

-- ---- the crate
-- everything within the limits, and nothing begun
pub record AtRest (c : Crate) : Type 0 where
  pub segments : list_all segment_rests c.segments ≡ true
  -- so there are at most eight segments
  pub numbers_differ : distinct (map (λ s. s.bus.number) c.segments) ≡ true
  pub interconnects : list_all (interconnect_rests c) c.interconnects ≡ true
  -- at most one interconnect leads to a segment
  pub fars_differ : distinct (map (λ i. i.far) c.interconnects) ≡ true
  pub groups_differ : apart share_a_group c.interconnects ≡ true
  pub slots : list_all (slot_rests c) c.slots ≡ true
  pub at_most_16_modules : nat_le (length c.slots) 16 ≡ true
  pub module_numbers_differ : apart share_a_number c.slots ≡ true
  pub positions_differ : apart same_position (positions c) ≡ true
