-- An address: from the owner's segment through interconnects to the module that it means.
use Rattle.std.specs.Prelude.{ℕ, ◌/◌, ◌%◌, ◌^◌, Bool, true, if◌then◌else◌, not, ◌&&◌, List, [], ◌∷◌, map, Some, None, Option, ◌==◌}
use Rattle.arbitration.specs.declared.replies.Event.TheVariants.{Wish, Arbitrate}
use Rattle.std.specs.List.{list_any}
use Rattle.arbitration.specs.Rules.{answer}
use Rattle.arbitration.specs.Waiting.{granted_by}
use Rattle.model.specs.declared.cells.Space.{Space}
use Rattle.model.specs.declared.cells.Space.TheVariants.{Data, Csr}
use Rattle.model.specs.declared.parts.Flags.{Flags}
use Rattle.model.specs.declared.parts.Interconnect.{Interconnect}
use Rattle.model.specs.declared.parts.Slot.{Slot}
use Rattle.model.specs.declared.replies.Stop.TheVariants.{Busy, Failure}
use Rattle.model.specs.declared.replies.Answer.TheVariants.{Linked, Stopped}
use Rattle.model.specs.declared.replies.Reason.TheVariants.{NoAcknowledge}
use Rattle.model.specs.declared.replies.Grant.{Grant}
use Rattle.model.specs.Crates.{Crate, bus_at, happens, set_operation, set_flags, set_pointer, index_of, same_space}
use Rattle.model.specs.Outcomes.{Outcome, answered, given, behind}
use Rattle.model.specs.Ways.{owns_far, path_to, dropped}

-- ---- the address word, of 32 bits
-- AD<31:24>, the group; 0 means the owner's own segment
abbrev pub group_of : ℕ → ℕ → ℕ
group_of n ad = if ad / 2 ^ 24 == 0 then n else ad / 2 ^ 24

-- AD<23:16>, the module number; 0 for none
abbrev pub number_in : ℕ → ℕ
number_in ad = ad / 2 ^ 16 % 256

-- what stands in the slot is meant on segment n: by its number or, where none is given and AD<15:08> is 0, by its position AD<07:00>
abbrev pub is_meant : ℕ → ℕ → Slot → Bool
is_meant n ad x =
    (x.segment == n) &&
    (if number_in ad == 0 then ad / 2 ^ 8 % 256 == 0 && x.position == ad % 256 else x.number == number_in ad)

-- what an address asks for: the owner's segment, the group, the space, and the word AD
pub record Request : Type 0 where
  pub segment : ℕ
  pub group : ℕ
  pub space : Space
  pub ad : ℕ

-- MS 0 is data space, 1 is CSR space
abbrev pub request : ℕ → ℕ → ℕ → Request
request n ms ad = record { segment = n; group = group_of n ad; space = if ms == 0 then Data else Csr; ad = ad }

-- ---- where the way ends
-- the module meant, where segment m is the group's
abbrev pub found : Request → ℕ → Crate → Option ℕ
found r m c = if m == r.group then index_of (is_meant m r.ad) c.slots else None

-- a link loads a pointer only in data space, and only by module number
abbrev pub is_loading : Request → Bool
is_loading r = same_space r.space Data && not (number_in r.ad == 0)

-- then AD<15:00> goes into the data pointer
abbrev pub loaded : Request → ℕ → Crate → Crate
loaded r k c = if is_loading r then set_pointer k Data (r.ad % 2 ^ 16) c else c

-- SS 0: module k is linked
abbrev pub linked : Request → ℕ → Crate → Outcome
linked r k c = answered Linked (set_operation r.segment (Some (record { group = r.group; link = Some (record { slot = k; space = r.space }) })) (loaded r k c))

-- SS 1, network busy at segment m: the operation is begun; who owned or wished on its way still does
abbrev pub busy : Request → ℕ → Crate → Outcome
busy r m c = answered (Stopped Busy m) (set_operation r.segment (Some (record { group = r.group; link = None })) c)

-- flag 11 goes up
abbrev pub note_failure : Flags → Flags
note_failure f = record { failed = true; lost = f.lost }

-- SS 2, network failure at segment m: flag 11 of the interconnect that leads there goes up, and the operation ends
abbrev pub failure : Request → ℕ → Crate → Outcome
failure r m c = answered (Stopped Failure m) (dropped r.segment r.group (set_flags m note_failure c))

-- the path has come to its end at segment m
abbrev pub arrived : Request → ℕ → Crate → Outcome
arrived r m c = elim (found r m c) [ None ↦ failure r m c | Some k ↦ linked r k c ]

-- ---- one interconnect
-- it wishes for its far segment, unless it wishes or owns there already: that wish the bus refuses
abbrev pub wishing : Interconnect → Crate → Crate
wishing i c = happens i.far (Wish i.level) c

-- and the far segment arbitrates once, unless it is owned: that arbitration the bus refuses
abbrev pub contested : Interconnect → Crate → Crate
contested i c = happens i.far Arbitrate (wishing i c)

-- segment n is granted to level l
abbrev pub grant : ℕ → ℕ → Grant
grant n l = record { segment = n; level = l }

-- the grant that an arbitration of segment n brings, none where it is refused
abbrev pub grants_at : ℕ → Crate → List Grant
grants_at n c = map (grant n) (granted_by (answer Arbitrate (bus_at n c)))

-- the far segment was granted to another
abbrev pub is_lost : Interconnect → List Grant → Bool
is_lost i gs = list_any (λ g. not (g.level == i.level)) gs

-- flag 12 goes up
abbrev pub note_loss : Flags → Flags
note_loss f = record { failed = f.failed; lost = true }

-- what comes of an interconnect's try for its far segment: whether it is through, that is, owns it
pub record Hop : Type 0 where
  pub crate : Crate
  pub through : Bool
  pub grants : List Grant

-- where another won, flag 12 goes up
abbrev pub hop : Interconnect → Crate → Hop
hop i c =
    let gs : List Grant = grants_at i.far (wishing i c) in
    record {
      crate = if is_lost i gs then set_flags i.far note_loss (contested i c) else contested i c;
      through = owns_far i (contested i c);
      grants = gs;
    }

-- ---- the whole way
-- from segment m on along the rest of the path
unfoldable pub travelled : Request → ℕ → List Interconnect → Crate → Outcome
travelled r m [] c = arrived r m c
travelled r m (i ∷ is) c = behind (hop i c).grants (if (hop i c).through then travelled r i.far is (hop i c).crate else busy r i.far (hop i c).crate)

-- along the whole path. Without an interconnect to take, the module has to stand on the owner's own segment, else the address is refused
abbrev pub started : Request → List Interconnect → Crate → Outcome
started r [] c = given (found r r.segment c) NoAcknowledge r.segment c (λ k. linked r k c)
started r (i ∷ is) c = travelled r r.segment (i ∷ is) c

-- what comes of an address that no check before it refused
abbrev pub addressed : Request → Crate → Outcome
addressed r c = started r (path_to r.segment r.group c) c
