-- What a look-up in a crate gives after each single change.
use Rattle.std.proofs.Common.{◌≡◌, ℕ, zero, suc, ◌+◌, Bool, true, false, cond, eqb, List, [], ◌∷◌, map, Some, None, Option, sym, refl, ap, ◌∙◌, subst, add-one, find}
use Rattle.std.proofs.lemmas.Option.{none-some}
use Rattle.std.proofs.lemmas.Bool.{eqb-true, ne_eqb}
use Rattle.std.specs.Option.{option_map}
use Rattle.std.specs.List.{slice_get}
use Rattle.arbitration.specs.declared.replies.Event.{Event}
use Rattle.arbitration.specs.Lists.{amended}
use Rattle.arbitration.specs.Rules.{Bus, after}
use Rattle.model.specs.declared.cells.Space.{Space}
use Rattle.model.specs.declared.parts.Flags.{Flags}
use Rattle.model.specs.declared.parts.Interconnect.{Interconnect}
use Rattle.model.specs.declared.parts.Slot.{Slot}
use Rattle.model.specs.declared.parts.Operation.{Operation}
use Rattle.model.specs.Crates.{Segment, Crate, numbered, bus_of, bus_at, operation_of, operation_at, with_event, happens, with_operation, set_operation, leads_to, with_flags, set_flags, index_of, pointer_of, pointer_at, pointed, set_pointer}
use Rattle.model.specs.Calls.{no_flags}
use Rattle.model.proofs.Basics.{by_eq, amended_same, amended_other, amended_map}
use Rattle.model.proofs.Buses.{number_after, empty_after}

-- ---- segments. Segment n is changed by f, which keeps its number
module _ (n : ℕ) (f : Segment → Segment) (keeps : (s : Segment) → (f s).bus.number ≡ s.bus.number) where
  found_other : (m : ℕ) (ss : List Segment) → (m ≡ n → ⊥) → find (numbered m) (amended (numbered n) f ss) ≡ find (numbered m) ss
  found_other m ss ne =
      amended_other (numbered n) f (numbered m) (λ s h. ne_eqb s.bus.number m (λ q. ne (sym q ∙ eqb-true s.bus.number n h))) (λ s. ap (λ (k : ℕ). eqb k m) (keeps s)) ss

  found_same : (ss : List Segment) → find (numbered n) (amended (numbered n) f ss) ≡ option_map f (find (numbered n) ss)
  found_same ss = amended_same (numbered n) f (λ s. ap (λ (k : ℕ). eqb k n) (keeps s)) ss

  -- an answer in which the change does not show
  found_alike : {X : Type 0} (F : Option Segment → X) → ((o : Option Segment) → F (option_map f o) ≡ F o) → (m : ℕ) (ss : List Segment) → F (find (numbered m) (amended (numbered n) f ss)) ≡ F (find (numbered m) ss)
  found_alike F blind m ss =
      by_eq m n (F (find (numbered m) (amended (numbered n) f ss)) ≡ F (find (numbered m) ss))
      (λ q. subst (λ k. F (find (numbered k) (amended (numbered n) f ss)) ≡ F (find (numbered k) ss)) (sym q) (ap F (found_same ss) ∙ blind (find (numbered n) ss)))
      (λ ne. ap F (found_other m ss ne))

-- ---- an event
event_number : (e : Event) (s : Segment) → (with_event e s).bus.number ≡ s.bus.number
event_number e s = number_after e s.bus

pub bus_other : (m n : ℕ) (e : Event) (c : Crate) → (m ≡ n → ⊥) → bus_at m (happens n e c) ≡ bus_at m c
bus_other m n e c ne = ap (bus_of m) (found_other n (with_event e) (event_number e) m c.segments ne)

pub bus_same : (n : ℕ) (e : Event) (c : Crate) → bus_at n (happens n e c) ≡ after e (bus_at n c)
bus_same n e c = ap (bus_of n) (found_same n (with_event e) (event_number e) c.segments) ∙ go (find (numbered n) c.segments)
  where
    go : (o : Option Segment) → bus_of n (option_map (with_event e) o) ≡ after e (bus_of n o)
    go None = sym (empty_after e n)
    go (Some s) = refl

-- a relation of the bus of segment m before and after
pub on_bus : (P : Bus → Bus → Type 0) (m n : ℕ) (e : Event) (c : Crate) → (m ≡ n → P (bus_at n c) (after e (bus_at n c))) → P (bus_at m c) (bus_at m c) → P (bus_at m c) (bus_at m (happens n e c))
on_bus P m n e c a b =
    by_eq m n (P (bus_at m c) (bus_at m (happens n e c)))
    (λ q. subst (λ z. P (bus_at z c) (bus_at z (happens n e c))) (sym q) (subst (P (bus_at n c)) (sym (bus_same n e c)) (a q)))
    (λ ne. subst (P (bus_at m c)) (sym (bus_other m n e c ne)) b)

pub operation_happens : (m n : ℕ) (e : Event) (c : Crate) → operation_at m (happens n e c) ≡ operation_at m c
operation_happens m n e c = found_alike n (with_event e) (event_number e) operation_of go m c.segments
  where
    go : (o : Option Segment) → operation_of (option_map (with_event e) o) ≡ operation_of o
    go None = refl
    go (Some s) = refl

-- ---- an operation
pub bus_operation : (m n : ℕ) (o : Option Operation) (c : Crate) → bus_at m (set_operation n o c) ≡ bus_at m c
bus_operation m n o c = found_alike n (with_operation o) (λ s. refl) (bus_of m) go m c.segments
  where
    go : (x : Option Segment) → bus_of m (option_map (with_operation o) x) ≡ bus_of m x
    go None = refl
    go (Some s) = refl

pub operation_other : (m n : ℕ) (o : Option Operation) (c : Crate) → (m ≡ n → ⊥) → operation_at m (set_operation n o c) ≡ operation_at m c
operation_other m n o c ne = ap operation_of (found_other n (with_operation o) (λ s. refl) m c.segments ne)

pub operation_same : (n : ℕ) (o : Option Operation) (c : Crate) (P : Option Operation → Type 0) → P None → P o → P (operation_at n (set_operation n o c))
operation_same n o c P a b = subst (λ x. P (operation_of x)) (sym (found_same n (with_operation o) (λ s. refl) c.segments)) (go (find (numbered n) c.segments))
  where
    go : (x : Option Segment) → P (operation_of (option_map (with_operation o) x))
    go None = a
    go (Some s) = b

-- ---- what never changes: the interconnects but for their flags, and on which segment each module stands
abbrev pub wire : Interconnect → Interconnect
wire i = with_flags no_flags i

abbrev pub wires : Crate → List Interconnect
wires c = map wire c.interconnects

pub wires_flags : (n : ℕ) (f : Flags → Flags) (c : Crate) → wires (set_flags n f c) ≡ wires c
wires_flags n f c = amended_map (leads_to n) (with_flags f) wire (λ i. refl) c.interconnects

abbrev pub stations : Crate → List ℕ
stations c = map (λ x. x.segment) c.slots

stations_pointed : (k : ℕ) (s : Space) (v : ℕ) (xs : List Slot) → map (λ x. x.segment) (pointed k s v xs) ≡ map (λ x. x.segment) xs
stations_pointed k s v [] = refl
stations_pointed zero s v (x ∷ xs) = refl
stations_pointed (suc k) s v (x ∷ xs) = ap (λ r. x.segment ∷ r) (stations_pointed k s v xs)

pub stations_pointer : (k : ℕ) (s : Space) (v : ℕ) (c : Crate) → stations (set_pointer k s v c) ≡ stations c
stations_pointer k s v c = stations_pointed k s v c.slots

-- a module that is found by a test stands where the test says
pub index_station : (p : Slot → Bool) (g : ℕ) → ((x : Slot) → p x ≡ true → x.segment ≡ g) → (xs : List Slot) (k : ℕ) → index_of p xs ≡ Some k → slice_get (map (λ x. x.segment) xs) k ≡ Some g
index_station p g h [] k e = absurd (none-some k e)
index_station p g h (x ∷ xs) k e = go (p x) refl (index_of p xs) refl e (index_station p g h xs)
  where
    go : (b : Bool) → p x ≡ b → (o : Option ℕ) → index_of p xs ≡ o → cond b (Some 0) (elim o [ None ↦ None | Some j ↦ Some (j + 1) ]) ≡ Some k →
        ((j : ℕ) → index_of p xs ≡ Some j → slice_get (map (λ x. x.segment) xs) j ≡ Some g) →
        slice_get (x.segment ∷ map (λ x. x.segment) xs) k ≡ Some g
    go true q o r e more = let z : 0 ≡ k = cc in subst (λ k. slice_get (x.segment ∷ map (λ x. x.segment) xs) k ≡ Some g) z (ap Some (h x q))
    go false q None r e more = absurd (none-some k e)
    go false q (Some j) r e more =
        let z : j + 1 ≡ k = cc in
        subst (λ k. slice_get (x.segment ∷ map (λ x. x.segment) xs) k ≡ Some g) (sym (add-one j) ∙ z) (more j r)

-- ---- the pointers of another module
pointed_other : (j k : ℕ) (s : Space) (v : ℕ) (xs : List Slot) → (j ≡ k → ⊥) → slice_get (pointed k s v xs) j ≡ slice_get xs j
pointed_other j k s v [] ne = refl
pointed_other zero zero s v (x ∷ xs) ne = absurd (ne refl)
pointed_other (suc j) zero s v (x ∷ xs) ne = refl
pointed_other zero (suc k) s v (x ∷ xs) ne = refl
pointed_other (suc j) (suc k) s v (x ∷ xs) ne = pointed_other j k s v xs (λ e. ne (ap suc e))

pub pointer_other : (j k : ℕ) (s r : Space) (v : ℕ) (c : Crate) → (j ≡ k → ⊥) → pointer_at j r (set_pointer k s v c) ≡ pointer_at j r c
pointer_other j k s r v c ne = ap (pointer_of r) (pointed_other j k s v c.slots ne)

pub pointer_slots : (c d : Crate) → d.slots ≡ c.slots → (k : ℕ) (s : Space) → pointer_at k s d ≡ pointer_at k s c
pointer_slots c d e k s = ap (λ (xs : List Slot). pointer_of s (slice_get xs k)) e
