-- The way of an operation through interconnects, and its end.
use Rattle.std.specs.Prelude.{ℕ, zero, suc, ◌-◌, ◌/◌, ◌%◌, ◌^◌, Bool, if◌then◌else◌, ◌&&◌, List, [], ◌∷◌, Some, None, Option, ◌==◌, nat_le, find}
use Rattle.arbitration.specs.declared.replies.Event.TheVariants.{Withdraw, Release}
use Rattle.arbitration.specs.Contenders.{owns, wishes}
use Rattle.arbitration.specs.Rules.{its}
use Rattle.model.specs.declared.parts.Interconnect.{Interconnect}
use Rattle.model.specs.declared.parts.Operation.{Operation}
use Rattle.model.specs.Crates.{Crate, bus_at, happens, set_operation}

-- ---- the path to a group
-- the interconnect passes group g: bit g - 1 of its mask is up
abbrev pub passes : ℕ → Interconnect → Bool
passes g i = nat_le 1 g && (i.mask / 2 ^ (g - 1)) % 2 == 1

-- the interconnect on segment n that passes group g
abbrev pub route : ℕ → ℕ → List Interconnect → Option Interconnect
route n g is = find (λ i. (i.near == n) && passes g i) is

-- the interconnect to take from segment n towards group g: none on the group's own segment, and none where no interconnect passes the group
abbrev pub next_hop : ℕ → ℕ → List Interconnect → Option Interconnect
next_hop n g is = if n == g then None else route n g is

-- the interconnects to take one after the other from segment n towards group g, at most k of them
unfoldable pub path : ℕ → ℕ → ℕ → List Interconnect → List Interconnect
path zero n g is = []
path (suc k) n g is = elim (next_hop n g is) [ None ↦ [] | Some i ↦ i ∷ path k i.far g is ]

-- the path from segment n to group g: among eight segments it has at most seven interconnects
abbrev pub path_to : ℕ → ℕ → Crate → List Interconnect
path_to n g c = path 7 n g c.interconnects

-- ---- the way of an operation
-- the interconnect owns its far segment
abbrev pub owns_far : Interconnect → Crate → Bool
owns_far i c = its i.level owns (bus_at i.far c)

-- the interconnect wishes for its far segment
abbrev pub wishes_far : Interconnect → Crate → Bool
wishes_far i c = its i.level wishes (bus_at i.far c)

-- of the interconnects on a path, those in use: from the first on all that own their far segment, and behind these one that wishes for it.
-- Behind one that only wishes, its far segment may belong to another, and so may the interconnects there
unfoldable pub in_use : List Interconnect → Crate → List Interconnect
in_use [] c = []
in_use (i ∷ is) c = if owns_far i c then i ∷ in_use is c else if wishes_far i c then i ∷ [] else []

-- the way of an operation of segment n to group g
abbrev pub way : ℕ → ℕ → Crate → List Interconnect
way n g c = in_use (path_to n g c) c

-- ---- the end of an operation
-- the interconnect is idle on its far segment, whether it owned or wished: the bus refuses what does not apply
abbrev pub idled : Interconnect → Crate → Crate
idled i c = happens i.far (Release i.level) (happens i.far (Withdraw i.level) c)

-- each of the interconnects is idle on its far segment
unfoldable pub all_idled : List Interconnect → Crate → Crate
all_idled [] c = c
all_idled (i ∷ is) c = all_idled is (idled i c)

-- the operation of segment n to group g is dropped, and every interconnect on its way becomes idle
abbrev pub dropped : ℕ → ℕ → Crate → Crate
dropped n g c = set_operation n None (all_idled (way n g c) c)

-- what segment n has under way, if anything, is dropped
abbrev pub dropped_if_any : ℕ → Option Operation → Crate → Crate
dropped_if_any n None c = c
dropped_if_any n (Some o) c = dropped n o.group c
