-- The eight calls. Each lists its refusals by rising number, and then what it does and answers.
use Rattle.std.specs.Prelude.{ℕ, Bool, true, false, if◌then◌else◌, not, ◌&&◌, [], ◌∷◌, is_some, Some, None, Ok, Option, ◌==◌, nat_lt}
use Rattle.arbitration.specs.declared.contenders.Contender.{Contender}
use Rattle.arbitration.specs.declared.replies.Event.TheVariants as event
use Rattle.std.specs.List.{list_any}
use Rattle.arbitration.specs.Lists.{holds}
use Rattle.arbitration.specs.Contenders.{idle, asks, owns, wishes}
use Rattle.arbitration.specs.Rules.{its, winner}
use Rattle.model.specs.declared.calls.Call.{Call}
use Rattle.model.specs.declared.calls.Call.TheVariants.{Wish, Withdraw, Arbitrate, Address, Data, End, Release, Clear}
use Rattle.model.specs.declared.parts.Flags.{Flags}
use Rattle.model.specs.declared.parts.Operation.{Operation}
use Rattle.model.specs.declared.replies.Answer.TheVariants.{Asking, Waiting, Granted, Done}
use Rattle.model.specs.declared.replies.Reason.TheVariants.{NoSuchSegment, NoSuchMaster, ModeOutOfRange, NoInterconnect, WishesOrOwns, DoesNotWish, SegmentOwned, NobodyAsks, NotTheOwner, LinkStands, BegunElsewhere, NothingToEnd, NoLink}
use Rattle.model.specs.Crates.{Crate, segment_at, bus_at, operation_at, link_at, happens, interconnect_to, set_flags}
use Rattle.model.specs.Outcomes.{Outcome, answered, refused_if, given}
use Rattle.model.specs.Ways.{dropped, dropped_if_any}
use Rattle.model.specs.Addresses.{group_of, request, addressed, grant}
use Rattle.model.specs.Cycles.{as_outcome, data_cycle}

-- ---- who calls
-- the level is that of the interconnect that leads to the segment: a call that names it is refused with 8
abbrev pub is_interconnect : ℕ → ℕ → Crate → Bool
is_interconnect n l c = holds (λ i. i.level == l) (interconnect_to n c)

-- a master: a contender of the segment that is no interconnect
abbrev pub is_master : ℕ → ℕ → Crate → Bool
is_master n l c = its l (λ _. true) (bus_at n c) && not (is_interconnect n l c)

-- the level owns the segment
abbrev pub is_owner : ℕ → ℕ → Crate → Bool
is_owner n l c = its l owns (bus_at n c)

-- somebody owns the segment
abbrev pub is_owned : ℕ → Crate → Bool
is_owned n c = list_any owns (bus_at n c).contenders

-- its owner has a link
abbrev pub is_linked : ℕ → Crate → Bool
is_linked n c = is_some (link_at n c)

-- a call that names a segment: refused with 7 where there is no such segment
abbrev pub on_segment : ℕ → Crate → Outcome → Outcome
on_segment n c o = refused_if (not (is_some (segment_at n c))) NoSuchSegment n c o

-- a call that names a master: refused with 7, and with 8 where there is no such master on the segment
abbrev pub by_master : ℕ → ℕ → Crate → Outcome → Outcome
by_master n l c o = on_segment n c (refused_if (not (is_master n l c)) NoSuchMaster n c o)

-- one that only the owner may make: refused with 24 for another
abbrev pub by_owner : ℕ → ℕ → Crate → Outcome → Outcome
by_owner n l c o = refused_if (not (is_owner n l c)) NotTheOwner n c o

-- ---- arbitration
-- wish: refused with 7, 8, 20 (wishes or owns already). The master asks, or waits
abbrev pub wish : ℕ → ℕ → Crate → Outcome
wish n l c =
    let c' : Crate = happens n (event.Wish l) c in
    by_master n l c
    (refused_if (not (its l idle (bus_at n c))) WishesOrOwns n c
    (answered (if its l asks (bus_at n c') then Asking else Waiting) c'))

-- withdraw: refused with 7, 8, 21 (does not wish). The master is idle
abbrev pub withdraw : ℕ → ℕ → Crate → Outcome
withdraw n l c =
    by_master n l c
    (refused_if (not (its l wishes (bus_at n c))) DoesNotWish n c
    (answered Done (happens n (event.Withdraw l) c)))

-- the segment is granted to the winner w
abbrev pub granting : ℕ → Crate → Contender → Outcome
granting n c w = record { crate = happens n event.Arbitrate c; reply = Ok (Granted w.level); grants = grant n w.level ∷ [] }

-- arbitrate: refused with 7, 22 (the segment is owned), 23 (nobody asks). The winner owns the segment
abbrev pub arbitrate : ℕ → Crate → Outcome
arbitrate n c =
    on_segment n c
    (refused_if (is_owned n c) SegmentOwned n c
    (given (winner (bus_at n c).contenders) NobodyAsks n c (granting n c)))

-- ---- cycles
-- the operation was begun with another group than g
abbrev pub is_begun_elsewhere : ℕ → Option Operation → Bool
is_begun_elsewhere g None = false
is_begun_elsewhere g (Some o) = not (g == o.group)

-- address: refused with 7, 8, 9 (MS above 1), 24, 25 (a link stands), 26 (begun with another group), and by `started` with 28 (no acknowledge).
-- Answered: linked (SS 0), busy (SS 1, the operation is begun) or failure (SS 2, the operation is dropped)
abbrev pub address : ℕ → ℕ → ℕ → ℕ → Crate → Outcome
address n l ms ad c =
    by_master n l c
    (refused_if (nat_lt 1 ms) ModeOutOfRange n c
    (by_owner n l c
    (refused_if (is_linked n c) LinkStands n c
    (refused_if (is_begun_elsewhere (group_of n ad) (operation_at n c)) BegunElsewhere n c
    (addressed (request n ms ad) c)))))

-- data: refused with 7, 8, 9 (MS above 7), 24, 27 (no link). A cycle over the owner's link
abbrev pub data_call : ℕ → ℕ → ℕ → Bool → ℕ → Crate → Outcome
data_call n l ms read w c =
    by_master n l c
    (refused_if (nat_lt 7 ms) ModeOutOfRange n c
    (by_owner n l c
    (given (link_at n c) NoLink n c (λ k. as_outcome (data_cycle ms read w c k)))))

-- end: refused with 7, 8, 24, 27 (neither link nor begun operation). What the owner has under way is dropped
abbrev pub end : ℕ → ℕ → Crate → Outcome
end n l c =
    by_master n l c
    (by_owner n l c
    (given (operation_at n c) NothingToEnd n c (λ o. answered Done (dropped n o.group c))))

-- release: refused with 7, 8, 24. What the owner has under way is dropped first, and then it is idle
abbrev pub release : ℕ → ℕ → Crate → Outcome
release n l c =
    by_master n l c
    (by_owner n l c
    (answered Done (happens n (event.Release l) (dropped_if_any n (operation_at n c) c))))

-- both flags are down
abbrev pub no_flags : Flags → Flags
no_flags f = record { failed = false; lost = false }

-- clear: refused with 7, 10 (no interconnect leads there). Both flags of the interconnect that leads to the segment go down
abbrev pub clear : ℕ → Crate → Outcome
clear n c =
    on_segment n c
    (refused_if (not (is_some (interconnect_to n c))) NoInterconnect n c
    (answered Done (set_flags n no_flags c)))

-- what comes of a call to the crate c
abbrev pub step : Call → Crate → Outcome
step (Wish n l) c = wish n l c
step (Withdraw n l) c = withdraw n l c
step (Arbitrate n) c = arbitrate n c
step (Address n l ms ad) c = address n l ms ad c
step (Data n l ms read w) c = data_call n l ms read w c
step (End n l) c = end n l c
step (Release n l) c = release n l c
step (Clear n) c = clear n c
