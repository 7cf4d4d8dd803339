-- A call of a master that owns its segment: what it leaves to the masters of other segments.
use Rattle.std.proofs.Common.{◌≡◌, ℕ, ◌%◌, ◌^◌, true, cond, ◌⊎◌, List, [], ◌∷◌, Some, None, Option, sym, refl, ◌∙◌, subst, inl, inr}
use Rattle.std.proofs.lemmas.Bool.{cond_both}
use Rattle.std.specs.List.{slice_get}
use Rattle.arbitration.specs.declared.replies.Event.TheVariants.{Withdraw, Release}
use Rattle.arbitration.specs.Contenders.{owns}
use Rattle.arbitration.specs.Rules.{its}
use Rattle.model.specs.declared.cells.Space.{Space}
use Rattle.model.specs.declared.cells.Space.TheVariants.{Data}
use Rattle.model.specs.declared.parts.Interconnect.{Interconnect}
use Rattle.model.specs.declared.parts.Operation.{Operation}
use Rattle.model.specs.Crates.{Crate, bus_at, operation_at, happens, set_operation, set_flags, pointer_at, set_pointer}
use Rattle.model.specs.Outcomes.{Outcome}
use Rattle.model.specs.Ways.{owns_far, wishes_far, in_use, way, idled, all_idled, dropped, dropped_if_any}
use Rattle.model.specs.Addresses.{Request, is_loading, found, linked, busy, note_failure, failure, arrived, wishing, contested, grants_at, is_lost, note_loss, hop, travelled, addressed}
use Rattle.model.proofs.Basics.{In}
use Rattle.model.proofs.Cases.{found_parts, arrived_cases, started_cases}
use Rattle.model.proofs.Frame.{Tries, tries, hop_kept}
use Rattle.model.proofs.Buses.{release_keeps}
use Rattle.model.proofs.Lookups.{on_bus, operation_happens, bus_operation, operation_other, operation_same, pointer_other, pointer_slots, wire}
use Rattle.model.proofs.Sound.{Plan, Sound, Chain, sound_steps, path_chain, meant_station}
use Rattle.model.proofs.Holds.{Own, Mastered, Holds, holds_mastered, holds_one, Grows, grows_tries, grows_withdraw, Spares, Good, grows_spares, holds_own, good_own, spares_then}
use Rattle.model.proofs.Holds.Holds.{here, on}

abbrev pub SameSlots : Crate → Crate → Type 0
SameSlots c d = d.slots ≡ c.slots

slots_tries : Tries SameSlots
slots_tries = record { same = λ c. refl; then = λ c d e p q. q ∙ p; wish = λ n l c. refl; arbitrate = λ n c. refl; flags = λ n f c. refl }

-- ---- interconnects that become idle
idled_operation : (i : Interconnect) (c : Crate) (m : ℕ) → operation_at m (idled i c) ≡ operation_at m c
idled_operation i c m = operation_happens m i.far (Release i.level) (happens i.far (Withdraw i.level) c) ∙ operation_happens m i.far (Withdraw i.level) c

all_idled_operation : (is : List Interconnect) (c : Crate) (m : ℕ) → operation_at m (all_idled is c) ≡ operation_at m c
unfolding all_idled
all_idled_operation [] c m = refl
all_idled_operation (i ∷ is) c m = all_idled_operation is (idled i c) m ∙ idled_operation i c m

all_idled_slots : (is : List Interconnect) (c : Crate) → (all_idled is c).slots ≡ c.slots
unfolding all_idled
all_idled_slots [] c = refl
all_idled_slots (i ∷ is) c = all_idled_slots is (idled i c)

-- only the level that gives it up can lose a segment
pub release_own : (n l : ℕ) (c : Crate) (m k : ℕ) → (m ≡ n → k ≡ l → ⊥) → Own m k c → Own m k (happens n (Release l) c)
release_own n l c m k ne = on_bus (λ a b. its k owns a ≡ true → its k owns b ≡ true) m n (Release l) c (λ q. release_keeps l k (bus_at n c) (ne q)) (λ o. o)

idled_own : (i : Interconnect) (c : Crate) (m k : ℕ) → (m ≡ i.far → k ≡ i.level → ⊥) → Own m k c → Own m k (idled i c)
idled_own i c m k ne o = release_own i.far i.level (happens i.far (Withdraw i.level) c) m k ne ((grows_withdraw i.far i.level c).own m k o)

all_idled_own : (is : List Interconnect) (c : Crate) (m k : ℕ) → ((i : Interconnect) → In i is → m ≡ i.far → k ≡ i.level → ⊥) → Own m k c → Own m k (all_idled is c)
unfolding all_idled
all_idled_own [] c m k ne o = o
all_idled_own (i ∷ is) c m k ne o = all_idled_own is (idled i c) m k (λ j z. ne j (inr z)) (idled_own i c m k (ne i (inl refl)) o)

-- through is who owns
hop_owns : (i : Interconnect) (c : Crate) → (hop i c).through ≡ true → Own i.far i.level (hop i c).crate
hop_owns i c th =
    cond_both (is_lost i (grants_at i.far (wishing i c))) (set_flags i.far note_loss (contested i c)) (contested i c) (Own i.far i.level) (λ _. th) (λ _. th)

module _ (W : List Interconnect) (S : List ℕ) (plan : Plan W) where
  -- what a call of the master of segment n leaves: its own operation good, and of the other segments m all that is held for m,
  -- with the pointers of the modules there
  pub record Post (n : ℕ) (c d : Crate) : Type 0 where
    pub good : Good W S n d (operation_at n d)
    pub spares : (m : ℕ) → (m ≡ n → ⊥) → Spares W m c d
    pub still : (m : ℕ) → (m ≡ n → ⊥) → (g k : ℕ) → slice_get S k ≡ Some g → Holds W c m g → (s : Space) → pointer_at k s d ≡ pointer_at k s c

  grows_post : (n : ℕ) (c d e : Crate) → Grows c d → SameSlots c d → Post n d e → Post n c e
  grows_post n c d e grows slots p =
      record {
        good = p.good;
        spares = λ m ne. spares_then W m c d e (grows_spares W m c d grows) (p.spares m ne);
        still = λ m ne g k q h s. p.still m ne g k q (holds_own W m c d grows.own h) s ∙ pointer_slots c d slots k s;
      }

  pub same_post : (n : ℕ) (c : Crate) → Good W S n c (operation_at n c) → Post n c c
  same_post n c g = record { good = g; spares = λ m ne. grows_spares W m c c (grows_tries.same c); still = λ m ne g k q h s. refl }

  operation_post : (n : ℕ) (o : Option Operation) (c : Crate) → Good W S n c o → Post n c (set_operation n o c)
  operation_post n o c h =
      let d : Crate = set_operation n o c in
      let own : (m l : ℕ) → Own m l c → Own m l d = λ m l a. subst (λ b. its l owns b ≡ true) (sym (bus_operation m n o c)) a in
      record {
        good = operation_same n o c (Good W S n d) tt (good_own W n c d S own o h);
        spares = λ m ne. record { operation = operation_other m n o c ne; masters = λ l _ a. own m l a; ways = λ w _ _ a. own w.far w.level a };
        still = λ m ne g k q h s. refl;
      }

  -- ---- a link. Module k stands on segment g, which is held for the request's: what another holds is another module
  linked_post : (r : Request) (k : ℕ) (c : Crate) → Sound W S c → slice_get S k ≡ Some r.group → Holds W c r.segment r.group → Post r.segment c (linked r k c).crate
  linked_post r k c s at h =
      let n : ℕ = r.segment in
      let d : Crate = set_pointer k Data (r.ad % 2 ^ 16) c in
      let o : Option Operation = Some (record { group = r.group; link = Some (record { slot = k; space = r.space }) }) in
      let grows : Grows c d = record { own = λ m l o. o; operations = λ m. refl } in
      cond_both (is_loading r) d c (λ u. Post n c (set_operation n o u))
      (λ _.
      let hd : Holds W d n r.group = holds_own W n c d grows.own h in
      let p : Post n d (set_operation n o d) = operation_post n o d (holds_mastered W d n hd, (at, hd)) in
      record {
        good = p.good;
        spares = λ m ne. spares_then W m c d (set_operation n o d) (grows_spares W m c d grows) (p.spares m ne);
        still = λ m ne g' k' at' h' s'. pointer_other k' k Data s' (r.ad % 2 ^ 16) c (λ e. ne (same_segment m g' k' at' h' e));
      })
      (λ _. operation_post n o c (holds_mastered W c n h, (at, h)))
    where
      same_segment : (m g' k' : ℕ) → slice_get S k' ≡ Some g' → Holds W c m g' → k' ≡ k → m ≡ r.segment
      same_segment m g' k' at' h' e =
          let at'' : slice_get S k' ≡ Some r.group = subst (λ z. slice_get S z ≡ Some r.group) (sym e) at in
          let same : g' ≡ r.group = cc in
          holds_one W S c plan s m r.segment (subst (Holds W c m) same h') h

  -- ---- the end of an operation. Each interconnect in use leads from a segment that is held for the operation's
  abbrev Held : ℕ → Crate → Interconnect → Type 0
  Held n c i = In (wire i) W × Holds W c n i.near

  in_use_held : (n m : ℕ) (is : List Interconnect) (c : Crate) → Chain W m is → Holds W c n m → (i : Interconnect) → In i (in_use is c) → Held n c i
  unfolding in_use
  in_use_held n m [] c ch h = λ i z. absurd z
  in_use_held n m (i ∷ is) c ch h =
      let P : List Interconnect → Type 0 = λ js. (j : Interconnect) → In j js → Held n c j in
      let near : Holds W c n i.near = subst (Holds W c n) (sym ch.1) h in
      cond_both (owns_far i c) (i ∷ in_use is c) (cond (wishes_far i c) (i ∷ []) []) P
      (λ o. one (in_use is c) near (in_use_held n i.far is c ch.2 (on (wire i) ch.0 refl near o)))
      (λ _. cond_both (wishes_far i c) (i ∷ []) [] P (λ _. one [] near (λ j z. absurd z)) (λ _ j z. absurd z))
    where
      one : (js : List Interconnect) → Holds W c n i.near → ((j : Interconnect) → In j js → Held n c j) → (j : Interconnect) → (j ≡ i) ⊎ In j js → Held n c j
      one js near rest j (inl e) = (subst (λ (z : Interconnect). In (wire z) W) (sym e) ch.0, subst (λ (z : Interconnect). Holds W c n z.near) (sym e) near)
      one js near rest j (inr z) = rest j z

  pub dropped_post : (n g : ℕ) (c : Crate) → Sound W S c → Mastered W n c → Post n c (dropped n g c)
  dropped_post n g c s own =
      let is : List Interconnect = way n g c in
      let d : Crate = all_idled is c in
      let held : (i : Interconnect) → In i is → Held n c i = in_use_held n n _ c (path_chain W S _ n g c s) (here refl own) in
      let p : Post n d (set_operation n None d) = operation_post n None d tt in
      let sp : (m : ℕ) → (m ≡ n → ⊥) → Spares W m c d = λ m ne.
      record {
        operation = all_idled_operation is c m;
        masters = λ l ma. all_idled_own is c m l (λ i z e q. ma (wire i) (held i z).0 (sym e) (sym q));
        ways = λ w iw h. all_idled_own is c w.far w.level
            (λ i z e q.
            let same : wire i ≡ w = plan.once (wire i) w (held i z).0 iw (sym e) in
            ne (holds_one W S c plan s m n h (subst (λ (v : Interconnect). Holds W c n v.near) same (held i z).1)));
      } in
      record {
        good = p.good;
        spares = λ m ne. spares_then W m c d (set_operation n None d) (sp m ne) (p.spares m ne);
        still = λ m ne g k q h s. pointer_slots c (set_operation n None d) (all_idled_slots is c) k s;
      }

  pub dropped_if_any_post : (n : ℕ) (c : Crate) → Sound W S c → Mastered W n c → (o : Option Operation) → operation_at n c ≡ o → Post n c (dropped_if_any n o c)
  dropped_if_any_post n c s own None e = same_post n c (subst (Good W S n c) (sym e) tt)
  dropped_if_any_post n c s own (Some o) e = dropped_post n o.group c s own

  -- ---- an address
  failure_post : (r : Request) (m : ℕ) (c : Crate) → Sound W S c → Mastered W r.segment c → Post r.segment c (failure r m c).crate
  failure_post r m c s own =
      let d : Crate = set_flags m note_failure c in
      grows_post r.segment c d (failure r m c).crate (grows_tries.flags m note_failure c) refl
      (dropped_post r.segment r.group d ((sound_steps W S).flags m note_failure c s) (record { level = own.level; owner = own.owner; master = own.master }))

  found_post : (r : Request) (m k : ℕ) (c : Crate) → Sound W S c → Holds W c r.segment m → found r m c ≡ Some k → Post r.segment c (linked r k c).crate
  found_post r m k c s h e =
      let f = found_parts r m k c e in
      linked_post r k c s (subst (λ g. slice_get S k ≡ Some g) f.0 (meant_station W S m r.ad k c s f.1)) (subst (Holds W c r.segment) f.0 h)

  arrived_post : (r : Request) (m : ℕ) (c : Crate) → Sound W S c → Holds W c r.segment m → Post r.segment c (arrived r m c).crate
  arrived_post r m c s h =
      arrived_cases (λ o. Post r.segment c o.crate) r m c (failure_post r m c s (holds_mastered W c r.segment h)) (λ k e. found_post r m k c s h e)

  travelled_post : (r : Request) (m : ℕ) (is : List Interconnect) (c : Crate) → Sound W S c → Chain W m is → Holds W c r.segment m → Post r.segment c (travelled r m is c).crate
  unfolding travelled
  travelled_post r m [] c s ch h = arrived_post r m c s h
  travelled_post r m (i ∷ is) c s ch h =
      let n : ℕ = r.segment in
      let d : Crate = (hop i c).crate in
      let grows : Grows c d = hop_kept Grows grows_tries i c in
      let sd : Sound W S d = hop_kept (λ c d. Sound W S c → Sound W S d) (tries (λ c d. Sound W S c → Sound W S d) (sound_steps W S)) i c s in
      let hd : Holds W d n m = holds_own W n c d grows.own h in
      let next : Outcome = travelled r i.far is d in
      let stop : Outcome = busy r i.far d in
      grows_post n c d (cond (hop i c).through next stop).crate grows (hop_kept SameSlots slots_tries i c)
      (cond_both (hop i c).through next stop (λ o. Post n d o.crate)
      (λ th. travelled_post r i.far is d sd ch.2 (on (wire i) ch.0 refl (subst (Holds W d n) (sym ch.1) hd) (hop_owns i c th)))
      (λ _. operation_post n _ d (holds_mastered W d n hd, tt)))

  pub addressed_post : (r : Request) (c : Crate) → Sound W S c → Good W S r.segment c (operation_at r.segment c) → Mastered W r.segment c → Post r.segment c (addressed r c).crate
  addressed_post r c s g own =
      let n : ℕ = r.segment in
      started_cases (λ o. Post n c o.crate) r _ c (λ _. same_post n c g) (λ k e. found_post r n k c s (here refl own) e)
      (travelled_post r n _ c s (path_chain W S _ n r.group c s) (here refl own))
