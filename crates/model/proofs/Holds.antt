-- For which segment's master a segment is held: for one at most. And what a change takes from nobody.
use Rattle.std.proofs.Common.{◌≡◌, ℕ, true, List, Some, None, Option, sym, refl, ◌∙◌, subst}
use Rattle.std.specs.List.{slice_get}
use Rattle.arbitration.specs.declared.replies.Event.{Event}
use Rattle.arbitration.specs.declared.replies.Event.TheVariants.{Wish, Withdraw, Arbitrate}
use Rattle.arbitration.specs.Contenders.{owns}
use Rattle.arbitration.specs.Rules.{Bus, its, after}
use Rattle.model.specs.declared.parts.Interconnect.{Interconnect}
use Rattle.model.specs.declared.parts.Link.{Link}
use Rattle.model.specs.declared.parts.Operation.{Operation}
use Rattle.model.specs.Crates.{Crate, bus_at, operation_at, happens}
use Rattle.model.specs.Calls.{is_owner}
use Rattle.model.proofs.Basics.{In}
use Rattle.model.proofs.Buses.{one_owner, wish_keeps, withdraw_keeps, arbitrate_keeps}
use Rattle.model.proofs.Frame.{Tries, Transfers}
use Rattle.model.proofs.Lookups.{on_bus, operation_happens}
use Rattle.model.proofs.Sound.{Plan, Sound, Master}

abbrev pub Own : ℕ → ℕ → Crate → Type 0
Own n l c = is_owner n l c ≡ true

-- a master owns segment n
pub record Mastered (W : List Interconnect) (n : ℕ) (c : Crate) : Type 0 where
  pub level : ℕ
  pub owner : Own n level c
  pub master : Master W n level

-- g is held for n: g is n and a master owns n, or an interconnect owns g whose near segment is held for n
pub data Holds (W : List Interconnect) (c : Crate) (n : ℕ) : ℕ → Type 0 where
  here : {g : ℕ} → g ≡ n → Mastered W n c → Holds W c n g
  on : {g : ℕ} (w : Interconnect) → In w W → w.far ≡ g → Holds W c n w.near → Own w.far w.level c → Holds W c n g

pub holds_mastered : (W : List Interconnect) (c : Crate) (n : ℕ) {g : ℕ} → Holds W c n g → Mastered W n c
holds_mastered W c n (here e m) = m
holds_mastered W c n (on w i e h o) = holds_mastered W c n h

-- a segment that a master owns is owned by no interconnect
own_far : (W : List Interconnect) (S : List ℕ) (c : Crate) → Sound W S c → (n : ℕ) → Mastered W n c → (w : Interconnect) → In w W → w.far ≡ n → Own w.far w.level c → ⊥
own_far W S c s n m w i e o = m.master w i e (one_owner w.level m.level (bus_at n c) (s.buses n) (subst (λ (k : ℕ). Own k w.level c) e o) m.owner)

pub holds_one : (W : List Interconnect) (S : List ℕ) (c : Crate) → Plan W → Sound W S c → (n m : ℕ) {g : ℕ} → Holds W c n g → Holds W c m g → n ≡ m
holds_one W S c p s n m (here e x) (here e' x') = sym e ∙ e'
holds_one W S c p s n m (here e x) (on w i e' h o) = absurd (own_far W S c s n x w i (e' ∙ e) o)
holds_one W S c p s n m (on w i e h o) (here e' x') = absurd (own_far W S c s m x' w i (e ∙ e') o)
holds_one W S c p s n m (on w i e h o) (on w' i' e' h' o') =
    let q : w' ≡ w = p.once w' w i' i (e' ∙ sym e) in
    holds_one W S c p s n m h (subst (λ (v : Interconnect). Holds W c m v.near) q h')

-- ---- a change that takes no segment from anybody, and leaves what is under way
pub record Grows (c d : Crate) : Type 0 where
  pub own : (n l : ℕ) → Own n l c → Own n l d
  pub operations : (n : ℕ) → operation_at n d ≡ operation_at n c

grows_event : (n : ℕ) (e : Event) (c : Crate) → ((l : ℕ) (b : Bus) → its l owns b ≡ true → its l owns (after e b) ≡ true) → Grows c (happens n e c)
grows_event n e c keeps =
    record {
      own = λ m l. on_bus (λ a b. its l owns a ≡ true → its l owns b ≡ true) m n e c (λ _. keeps l (bus_at n c)) (λ o. o);
      operations = λ m. operation_happens m n e c;
    }

pub grows_tries : Tries Grows
grows_tries =
    record {
      same = λ c. record { own = λ n l o. o; operations = λ n. refl };
      then = λ c d e p q. record { own = λ n l o. q.own n l (p.own n l o); operations = λ n. q.operations n ∙ p.operations n };
      wish = λ n l c. grows_event n (Wish l) c (wish_keeps l);
      arbitrate = λ n c. grows_event n Arbitrate c arbitrate_keeps;
      flags = λ n f c. record { own = λ m l o. o; operations = λ m. refl };
    }

pub grows_withdraw : (n l : ℕ) (c : Crate) → Grows c (happens n (Withdraw l) c)
grows_withdraw n l c = grows_event n (Withdraw l) c (withdraw_keeps l)

pub grows_transfers : (k : ℕ) → Transfers k Grows
grows_transfers k =
    record {
      same = grows_tries.same;
      then = grows_tries.then;
      pointer = λ s v c. record { own = λ n l o. o; operations = λ n. refl };
      stores = λ s a w c. record { own = λ n l o. o; operations = λ n. refl };
    }

-- ---- a change that leaves what is held for n, and what n has under way
pub record Spares (W : List Interconnect) (n : ℕ) (c d : Crate) : Type 0 where
  pub operation : operation_at n d ≡ operation_at n c
  pub masters : (l : ℕ) → Master W n l → Own n l c → Own n l d
  pub ways : (w : Interconnect) → In w W → Holds W c n w.near → Own w.far w.level c → Own w.far w.level d

-- a linked module stands on a segment that is held for the link's own
abbrev pub GoodLink : List Interconnect → List ℕ → ℕ → ℕ → Crate → Option Link → Type 0
GoodLink W S n g c None = Unit {0}
GoodLink W S n g c (Some k) = (slice_get S k.slot ≡ Some g) × Holds W c n g

-- where an operation is under way, a master owns the segment
abbrev pub Good : List Interconnect → List ℕ → ℕ → Crate → Option Operation → Type 0
Good W S n c None = Unit {0}
Good W S n c (Some o) = Mastered W n c × GoodLink W S n o.group c o.link

module _ (W : List Interconnect) (n : ℕ) (c d : Crate) where
  pub grows_spares : Grows c d → Spares W n c d
  grows_spares h = record { operation = h.operations n; masters = λ l _ o. h.own n l o; ways = λ w _ _ o. h.own w.far w.level o }

  -- what has to stay so that what is held for n is held on
  module _ (masters : (l : ℕ) → Master W n l → Own n l c → Own n l d) (ways : (w : Interconnect) → In w W → Holds W c n w.near → Own w.far w.level c → Own w.far w.level d) where
    kept_mastered : Mastered W n c → Mastered W n d
    kept_mastered m = record { level = m.level; owner = masters m.level m.master m.owner; master = m.master }

    kept_holds : {g : ℕ} → Holds W c n g → Holds W d n g
    kept_holds (here e m) = here e (kept_mastered m)
    kept_holds (on w i e h o) = on w i e (kept_holds h) (ways w i h o)

    kept_link : (S : List ℕ) (g : ℕ) (k : Option Link) → GoodLink W S n g c k → GoodLink W S n g d k
    kept_link S g None h = tt
    kept_link S g (Some k) h = (h.0, kept_holds h.1)

    kept_good : (S : List ℕ) (o : Option Operation) → Good W S n c o → Good W S n d o
    kept_good S None h = tt
    kept_good S (Some o) h = (kept_mastered h.0, kept_link S o.group o.link h.1)

  pub spares_holds : Spares W n c d → {g : ℕ} → Holds W c n g → Holds W d n g
  spares_holds s = kept_holds s.masters s.ways

  pub spares_good : (S : List ℕ) → Spares W n c d → (o : Option Operation) → Good W S n c o → Good W S n d o
  spares_good S s = kept_good s.masters s.ways S

  -- where every owner stays
  pub holds_own : ((m l : ℕ) → Own m l c → Own m l d) → {g : ℕ} → Holds W c n g → Holds W d n g
  holds_own own = kept_holds (λ l _ o. own n l o) (λ w _ _ o. own w.far w.level o)

  pub good_own : (S : List ℕ) → ((m l : ℕ) → Own m l c → Own m l d) → (o : Option Operation) → Good W S n c o → Good W S n d o
  good_own S own = kept_good (λ l _ o. own n l o) (λ w _ _ o. own w.far w.level o) S

pub spares_then : (W : List Interconnect) (n : ℕ) (c d e : Crate) → Spares W n c d → Spares W n d e → Spares W n c e
spares_then W n c d e p q =
    record {
      operation = q.operation ∙ p.operation;
      masters = λ l m o. q.masters l m (p.masters l m o);
      ways = λ w i h o. q.ways w i (spares_holds W n c d p h) (p.ways w i h o);
    }
