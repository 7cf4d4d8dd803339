-- A relation of crates that each single change keeps is kept by every call.
use Rattle.std.proofs.Common.{ℕ, ◌+◌, ◌%◌, ◌^◌, Bool, true, false, cond, eqb, ltb, List, [], ◌∷◌, Some, None, Option}
use Rattle.std.proofs.lemmas.Bool.{cond_both}
use Rattle.arbitration.specs.declared.replies.Event.{Event}
use Rattle.arbitration.specs.declared.replies.Event.TheVariants as event
use Rattle.model.specs.declared.calls.Call.{Call}
use Rattle.model.specs.declared.cells.Space.{Space}
use Rattle.model.specs.declared.cells.Space.TheVariants.{Data}
use Rattle.model.specs.declared.cells.Cell.{Cell}
use Rattle.model.specs.declared.cells.Cell.TheVariants.{Absent, Fixed, Open}
use Rattle.model.specs.declared.parts.Flags.{Flags}
use Rattle.model.specs.declared.parts.Interconnect.{Interconnect}
use Rattle.model.specs.declared.parts.Link.{Link}
use Rattle.model.specs.declared.parts.Operation.{Operation}
use Rattle.model.specs.Crates.{Crate, operation_at, happens, set_operation, set_flags, set_pointer, store}
use Rattle.model.specs.Outcomes.{Outcome}
use Rattle.model.specs.Ways.{way, idled, all_idled, dropped, dropped_if_any}
use Rattle.model.specs.Addresses.{Request, request, is_loading, loaded, linked, busy, failure, note_failure, arrived, wishing, contested, grants_at, is_lost, note_loss, hop, travelled, addressed}
use Rattle.model.specs.Cycles.{pointer, Cycled, advanced, transferred, pointer_cycle, data_cycle}
use Rattle.model.specs.Calls.{no_flags, step}
use Rattle.model.proofs.Cases.{Branches, step_cases, arrived_cases, started_cases}

-- ---- the single changes: of an interconnect's try for its far segment
pub record Tries (R : Crate → Crate → Type 0) : Type 0 where
  pub same : (c : Crate) → R c c
  pub then : (c d e : Crate) → R c d → R d e → R c e
  pub wish : (n l : ℕ) (c : Crate) → R c (happens n (event.Wish l) c)
  pub arbitrate : (n : ℕ) (c : Crate) → R c (happens n event.Arbitrate c)
  pub flags : (n : ℕ) (f : Flags → Flags) (c : Crate) → R c (set_flags n f c)

-- of the end of a way: a link, a begun operation, or a dropped one
pub record Closes (R : Crate → Crate → Type 0) : Type 0 where
  pub same : (c : Crate) → R c c
  pub then : (c d e : Crate) → R c d → R d e → R c e
  pub withdraw : (n l : ℕ) (c : Crate) → R c (happens n (event.Withdraw l) c)
  pub release : (n l : ℕ) (c : Crate) → R c (happens n (event.Release l) c)
  pub flags : (n : ℕ) (f : Flags → Flags) (c : Crate) → R c (set_flags n f c)
  pub operation : (n : ℕ) (o : Option Operation) (c : Crate) → R c (set_operation n o c)
  pub pointer : (k : ℕ) (s : Space) (v : ℕ) (c : Crate) → R c (set_pointer k s v c)

-- of every call but a data cycle
pub record Steps (R : Crate → Crate → Type 0) : Type 0 where
  pub same : (c : Crate) → R c c
  pub then : (c d e : Crate) → R c d → R d e → R c e
  pub event : (n : ℕ) (e : Event) (c : Crate) → R c (happens n e c)
  pub flags : (n : ℕ) (f : Flags → Flags) (c : Crate) → R c (set_flags n f c)
  pub operation : (n : ℕ) (o : Option Operation) (c : Crate) → R c (set_operation n o c)
  pub pointer : (k : ℕ) (s : Space) (v : ℕ) (c : Crate) → R c (set_pointer k s v c)

-- of a data cycle with module k
pub record Transfers (k : ℕ) (R : Crate → Crate → Type 0) : Type 0 where
  pub same : (c : Crate) → R c c
  pub then : (c d e : Crate) → R c d → R d e → R c e
  pub pointer : (s : Space) (v : ℕ) (c : Crate) → R c (set_pointer k s v c)
  pub stores : (s : Space) (a w : ℕ) (c : Crate) → R c (store k s a w c)

-- ---- a try
module _ (R : Crate → Crate → Type 0) (t : Tries R) where
  pub wishing_kept : (i : Interconnect) (c : Crate) → R c (wishing i c)
  wishing_kept i c = t.wish i.far i.level c

  contested_kept : (i : Interconnect) (c : Crate) → R c (contested i c)
  contested_kept i c = t.then c (wishing i c) (contested i c) (wishing_kept i c) (t.arbitrate i.far (wishing i c))

  pub hop_kept : (i : Interconnect) (c : Crate) → R c (hop i c).crate
  hop_kept i c =
      let d : Crate = contested i c in
      cond_both (is_lost i (grants_at i.far (wishing i c))) (set_flags i.far note_loss d) d (R c)
      (λ _. t.then c d (set_flags i.far note_loss d) (contested_kept i c) (t.flags i.far note_loss d)) (λ _. contested_kept i c)

-- ---- the end of a way
module _ (R : Crate → Crate → Type 0) (t : Closes R) where
  pub idled_kept : (i : Interconnect) (c : Crate) → R c (idled i c)
  idled_kept i c =
      let d : Crate = happens i.far (event.Withdraw i.level) c in
      t.then c d (idled i c) (t.withdraw i.far i.level c) (t.release i.far i.level d)

  pub all_idled_kept : (is : List Interconnect) (c : Crate) → R c (all_idled is c)
  unfolding all_idled
  all_idled_kept [] c = t.same c
  all_idled_kept (i ∷ is) c = t.then c (idled i c) (all_idled is (idled i c)) (idled_kept i c) (all_idled_kept is (idled i c))

  pub dropped_kept : (n g : ℕ) (c : Crate) → R c (dropped n g c)
  dropped_kept n g c =
      let d : Crate = all_idled (way n g c) c in
      t.then c d (set_operation n None d) (all_idled_kept (way n g c) c) (t.operation n None d)

  pub dropped_if_any_kept : (n : ℕ) (o : Option Operation) (c : Crate) → R c (dropped_if_any n o c)
  dropped_if_any_kept n None c = t.same c
  dropped_if_any_kept n (Some o) c = dropped_kept n o.group c

  pub failure_kept : (r : Request) (m : ℕ) (c : Crate) → R c (failure r m c).crate
  failure_kept r m c =
      let d : Crate = set_flags m note_failure c in
      t.then c d (failure r m c).crate (t.flags m note_failure c) (dropped_kept r.segment r.group d)

  pub linked_kept : (r : Request) (k : ℕ) (c : Crate) → R c (linked r k c).crate
  linked_kept r k c =
      t.then c (loaded r k c) (linked r k c).crate
      (cond_both (is_loading r) (set_pointer k Data (r.ad % 2 ^ 16) c) c (R c) (λ _. t.pointer k Data (r.ad % 2 ^ 16) c) (λ _. t.same c))
      (t.operation r.segment _ (loaded r k c))

  pub arrived_kept : (r : Request) (m : ℕ) (c : Crate) → R c (arrived r m c).crate
  arrived_kept r m c = arrived_cases (λ o. R c o.crate) r m c (failure_kept r m c) (λ k _. linked_kept r k c)

-- ---- a data cycle
module _ (k : Link) (R : Crate → Crate → Type 0) (t : Transfers k.slot R) where
  advanced_kept : (block : Bool) (p : ℕ) (c : Crate) → R c (advanced block k p c)
  advanced_kept true p c = t.pointer k.space ((p + 1) % 2 ^ 32) c
  advanced_kept false p c = t.same c

  transferred_kept : (block read : Bool) (p w : ℕ) (c : Crate) (x : Cell) → R c (transferred block read k p w c x).crate
  transferred_kept block read p w c Absent = t.same c
  transferred_kept block true p w c (Fixed x) = advanced_kept block p c
  transferred_kept block false p w c (Fixed x) = t.same c
  transferred_kept block true p w c (Open x) = advanced_kept block p c
  transferred_kept block false p w c (Open x) =
      let d : Crate = store k.slot k.space p w c in
      t.then c d (advanced block k p d) (t.stores k.space p w c) (advanced_kept block p d)

  pointer_kept : (read : Bool) (w : ℕ) (c : Crate) → R c (pointer_cycle read w c k).crate
  pointer_kept true w c = t.same c
  pointer_kept false w c = t.pointer k.space w c

  pub cycle_kept : (ms : ℕ) (read : Bool) (w : ℕ) (c : Crate) → R c (data_cycle ms read w c k).crate
  cycle_kept ms read w c =
      let P : Cycled → Type 0 = λ y. R c y.crate in
      cond_both (ltb ms 2) _ _ P (λ _. transferred_kept (eqb ms 1) read (pointer k c) w c (c.cells k.slot k.space (pointer k c)))
      (λ _. cond_both (eqb ms 2) _ _ P (λ _. pointer_kept read w c) (λ _. t.same c))

-- ---- every call but a data cycle
module _ (R : Crate → Crate → Type 0) (t : Steps R) where
  pub tries : Tries R
  tries = record { same = t.same; then = t.then; wish = λ n l. t.event n (event.Wish l); arbitrate = λ n. t.event n event.Arbitrate; flags = t.flags }

  pub closes : Closes R
  closes =
      record {
        same = t.same;
        then = t.then;
        withdraw = λ n l. t.event n (event.Withdraw l);
        release = λ n l. t.event n (event.Release l);
        flags = t.flags;
        operation = t.operation;
        pointer = t.pointer;
      }

  pub travelled_kept : (r : Request) (m : ℕ) (is : List Interconnect) (c : Crate) → R c (travelled r m is c).crate
  unfolding travelled
  travelled_kept r m [] c = arrived_kept R closes r m c
  travelled_kept r m (i ∷ is) c =
      let d : Crate = (hop i c).crate in
      let o : Outcome = cond (hop i c).through (travelled r i.far is d) (busy r i.far d) in
      t.then c d o.crate (hop_kept R tries i c)
      (cond_both (hop i c).through (travelled r i.far is d) (busy r i.far d) (λ o. R d o.crate) (λ _. travelled_kept r i.far is d) (λ _. t.operation r.segment _ d))

  pub addressed_kept : (r : Request) (c : Crate) → R c (addressed r c).crate
  addressed_kept r c = started_cases (λ o. R c o.crate) r _ c (λ _. t.same c) (λ k _. linked_kept R closes r k c) (travelled_kept r r.segment _ c)

  pub released_kept : (n l : ℕ) (o : Option Operation) (c : Crate) → R c (happens n (event.Release l) (dropped_if_any n o c))
  released_kept n l o c =
      let d : Crate = dropped_if_any n o c in
      t.then c d (happens n (event.Release l) d) (dropped_if_any_kept R closes n o c) (t.event n (event.Release l) d)

  -- and a data cycle
  pub step_kept : ((k : Link) → Transfers k.slot R) → (x : Call) (c : Crate) → R c (step x c).crate
  step_kept moves x c = step_cases c (λ _ o. R c o.crate) branches x
    where
      branches : Branches c (λ _ o. R c o.crate)
      branches =
          record {
            refuses = λ _ _. t.same c;
            wishes = λ n l _. t.event n (event.Wish l) c;
            withdraws = λ n l. t.event n (event.Withdraw l) c;
            arbitrates = λ n _ _ _. t.event n event.Arbitrate c;
            addresses = λ n l ms ad _ _. addressed_kept (request n ms ad) c;
            cycles = λ n l ms read w k _ _. cycle_kept k R (moves k) ms read w c;
            ends = λ n l o _ _. dropped_kept R closes n o.group c;
            releases = λ n l _. released_kept n l (operation_at n c) c;
            clears = λ n. t.flags n no_flags c;
          }
