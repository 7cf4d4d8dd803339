-- A crate at rest has what every call keeps, and so every run from it keeps the laws.
use Rattle.std.proofs.Common.{◌≡◌, ℕ, ◌<◌, ◌≤◌, Bool, true, false, not, ◌&&◌, eqb, ltb, leb, List, [], ◌∷◌, map, length, is_some, Some, None, Option, sym, refl, ap, ◌∙◌, subst, inl, inr, arith}
use Rattle.std.proofs.lemmas.Bool.{both_ways, and_parts, and_from, not-true, or_from, or_left, or_right, eq-eqb, leb-true, ltb-true, true≢false}
use Rattle.arbitration.specs.declared.contenders.State.{State}
use Rattle.arbitration.specs.declared.contenders.State.TheVariants.{Idle, Waits, Asks, Owns}
use Rattle.arbitration.specs.declared.contenders.Contender.{Contender}
use Rattle.std.specs.List.{list_any, list_all}
use Rattle.arbitration.specs.Lists.{count}
use Rattle.arbitration.specs.Contenders.{same_state, idle, waits, owns}
use Rattle.arbitration.specs.Rules.{in_range}
use Rattle.arbitration.specs.Sound.{levels, distinct, calm}
use Rattle.arbitration.proofs.Keeping.{SoundBus}
use Rattle.model.specs.declared.parts.Interconnect.{Interconnect}
use Rattle.model.specs.declared.parts.Operation.{Operation}
use Rattle.model.specs.Crates.{Segment, Crate, numbered, segment_at, bus_of, bus_at, operation_of, operation_at}
use Rattle.model.specs.Rest.{contender_rests, bus_rests, segment_rests, interconnect_rests, AtRest}
use Rattle.model.specs.Laws.{EveryRunBoundsWaitingKeepsLinksAndReadsTheLastWord}
use Rattle.model.proofs.Basics.{In, first_in, map_in}
use Rattle.model.proofs.Lookups.{wire, wires, stations}
use Rattle.model.proofs.Sound.{Plan, Sound}
use Rattle.model.proofs.Holds.{Good}
use Rattle.model.proofs.Links.{links_stand}
use Rattle.model.proofs.Waits.{waiting_is_bounded}
use Rattle.model.proofs.Words.{reads_answer_the_last_word}

and_l : (x y : Bool) → (x && y) ≡ true → x ≡ true
and_l x y h = (and_parts x y h).0

and_r : (x y : Bool) → (x && y) ≡ true → y ≡ true
and_r x y h = (and_parts x y h).1

all_in : {A : Type 0} (p : A → Bool) (x : A) (xs : List A) → list_all p xs ≡ true → In x xs → p x ≡ true
all_in p x [] e h = absurd h
all_in p x (y ∷ ys) e (inl q) = ap p q ∙ (and_parts (p y) (list_all p ys) e).0
all_in p x (y ∷ ys) e (inr h) = all_in p x ys (and_parts (p y) (list_all p ys) e).1 h

-- a number that is met once tells the element
any_key : {A : Type 0} (key : A → ℕ) (n : ℕ) (x : A) (xs : List A) → In x xs → n ≡ key x → list_any (eqb n) (map key xs) ≡ true
any_key key n x [] h e = absurd h
any_key key n x (y ∷ ys) (inl q) e = or_left _ _ (eq-eqb n (key y) (e ∙ ap key q))
any_key key n x (y ∷ ys) (inr h) e = or_right _ _ (any_key key n x ys h e)

distinct_in : {A : Type 0} (key : A → ℕ) (xs : List A) → distinct (map key xs) ≡ true → (x y : A) → In x xs → In y xs → key x ≡ key y → x ≡ y
distinct_in key [] d x y hx hy e = absurd hx
distinct_in {A} key (z ∷ zs) d x y hx hy e = go (distinct_in key zs parts.1 x y) hx hy
  where
    parts : (not (list_any (eqb (key z)) (map key zs)) ≡ true) × (distinct (map key zs) ≡ true)
    parts = and_parts (not (list_any (eqb (key z)) (map key zs))) (distinct (map key zs)) d

    clash : (w : A) → In w zs → key z ≡ key w → ⊥
    clash w h q = both_ways (list_any (eqb (key z)) (map key zs)) (not-true _ parts.0) (any_key key (key z) w zs h q)

    go : (In x zs → In y zs → key x ≡ key y → x ≡ y) → In x (z ∷ zs) → In y (z ∷ zs) → x ≡ y
    go more (inl p) (inl q) = p ∙ sym q
    go more (inl p) (inr h) = absurd (clash y h (ap key (sym p) ∙ e))
    go more (inr h) (inl q) = absurd (clash x h (ap key (sym q) ∙ sym e))
    go more (inr h) (inr k) = more h k e

-- ---- one segment
idle_others : (s : State) → same_state Idle s ≡ true → (same_state Owns s ≡ false) × (same_state Waits s ≡ false)
idle_others Idle e = (refl, refl)
idle_others Waits e = absurd (true≢false (sym e))
idle_others Asks e = absurd (true≢false (sym e))
idle_others Owns e = absurd (true≢false (sym e))

resting : (ds : List Contender) → list_all contender_rests ds ≡ true → (list_all (λ d. in_range d.level d.access) ds ≡ true) × (count owns ds ≤ 0) × (list_any waits ds ≡ false)
resting [] h = (refl, omega arith, refl)
resting (d ∷ ds) h =
    let parts = and_parts (contender_rests d) (list_all contender_rests ds) h in
    let one = and_parts (in_range d.level d.access) (idle d) parts.0 in
    let more = resting ds parts.1 in
    let others = idle_others d.state one.1 in (
      and_from _ _ one.0 more.0,
      rw others.0 (omega (arith, more.1)),
      or_from _ _ others.1 more.2,
    )

bus_at_rest : (s : Segment) → segment_rests s ≡ true → SoundBus s.bus
bus_at_rest s h =
    let rests : bus_rests s.bus ≡ true = search (and_l, and_r) in
    let few : leb (length s.bus.contenders) 16 ≡ true = search (and_l, and_r) in
    let once : distinct (levels s.bus.contenders) ≡ true = search (and_l, and_r) in
    let all : list_all contender_rests s.bus.contenders ≡ true = search (and_l, and_r) in
    let down : not s.bus.inhibit ≡ true = search (and_l, and_r) in
    let r = resting s.bus.contenders all in (
      leb-true (length s.bus.contenders) 16 few,
      once,
      r.0,
      omega (arith, r.1),
      subst (λ up. calm s.bus.contenders up ≡ true) (sym (not-true s.bus.inhibit down)) (ap not r.2),
    )

nothing_good : (W : List Interconnect) (S : List ℕ) (n : ℕ) (c : Crate) (o : Option Operation) → is_some o ≡ false → Good W S n c o
nothing_good W S n c None e = tt
nothing_good W S n c (Some o) e = absurd (true≢false e)

-- ---- the crate
module _ (c : Crate) (r : AtRest c) where
  at_rest : (n : ℕ) (s : Segment) → segment_at n c ≡ Some s → segment_rests s ≡ true
  at_rest n s e = all_in segment_rests s c.segments r.segments (first_in (numbered n) s c.segments e).0

  buses_at_rest : (n : ℕ) → SoundBus (bus_at n c)
  buses_at_rest n = go (segment_at n c) refl
    where
      go : (o : Option Segment) → segment_at n c ≡ o → SoundBus (bus_of n o)
      go None e = (omega arith, refl, refl, omega arith, refl)
      go (Some s) e = bus_at_rest s (at_rest n s e)

  good_at_rest : (n : ℕ) → Good (wires c) (stations c) n c (operation_at n c)
  good_at_rest n = go (segment_at n c) refl
    where
      go : (o : Option Segment) → segment_at n c ≡ o → Good (wires c) (stations c) n c (operation_of o)
      go None e = tt
      go (Some s) e =
          let h : segment_rests s ≡ true = at_rest n s e in
          let free : not (is_some s.operation) ≡ true = search (and_l, and_r) in
          nothing_good (wires c) (stations c) n c s.operation (not-true (is_some s.operation) free)

  plan_at_rest : Plan (wires c)
  plan_at_rest =
      record {
        once = λ v w iv iw e.
            let x = map_in wire v c.interconnects iv in
            let y = map_in wire w c.interconnects iw in
            let far : x.0.far ≡ y.0.far = ap (λ (z : Interconnect). z.far) (sym x.2) ∙ e ∙ ap (λ (z : Interconnect). z.far) y.2 in
            x.2 ∙ ap wire (distinct_in (λ i. i.far) c.interconnects r.fars_differ x.0 y.0 x.1 y.1 far) ∙ sym y.2;
        rising = λ w iw.
            let x = map_in wire w c.interconnects iw in
            let i : Interconnect = x.0 in
            let h : interconnect_rests c i ≡ true = all_in (interconnect_rests c) i c.interconnects r.interconnects x.1 in
            let up : ltb i.near i.far ≡ true = search (and_l, and_r) in
            subst (λ (z : Interconnect). z.near < z.far) (sym x.2) (ltb-true i.near i.far up);
      }

  sound_at_rest : Sound (wires c) (stations c) c
  sound_at_rest = record { wiring = refl; stationing = refl; buses = buses_at_rest }

pub every_run : EveryRunBoundsWaitingKeepsLinksAndReadsTheLastWord
every_run c r =
    let W : List Interconnect = wires c in
    let S : List ℕ = stations c in
    let plan : Plan W = plan_at_rest c r in
    let sound : Sound W S c = sound_at_rest c r in
    (waiting_is_bounded W S plan c sound, links_stand W S plan c (record { sound = sound; good = good_at_rest c r }), reads_answer_the_last_word c)
