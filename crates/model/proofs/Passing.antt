-- What a call does to one segment: perhaps a wish, then perhaps an arbitration, then withdrawals and releases, with the grants that the call tells of.
use Rattle.std.proofs.Common.{◌≡◌, ℕ, ◌<◌, ◌≤◌, Bool, true, false, cond, eqb, List, [], ◌∷◌, ◌++◌, map, Some, sym, refl, ap, ◌∙◌, subst, append-nil, arith}
use Rattle.std.proofs.lemmas.Bool.{cond_both, cond-true, cond-false, eq-eqb, ne_eqb}
use Rattle.arbitration.specs.declared.contenders.Move.TheVariants as move
use Rattle.arbitration.specs.declared.contenders.Contender.{Contender}
use Rattle.arbitration.specs.declared.replies.Event.{Event}
use Rattle.arbitration.specs.declared.replies.Event.TheVariants.{Wish, Withdraw, Arbitrate, Release}
use Rattle.std.specs.List.{list_any}
use Rattle.arbitration.specs.Contenders.{owns}
use Rattle.arbitration.specs.Rules.{Bus, winner, by_winner, answer}
use Rattle.arbitration.specs.Waiting.{after_all, granted_by, grants}
use Rattle.arbitration.proofs.Patience.{move_grants}
use Rattle.model.specs.declared.calls.Call.{Call}
use Rattle.model.specs.declared.parts.Interconnect.{Interconnect}
use Rattle.model.specs.declared.replies.Grant.{Grant}
use Rattle.model.specs.Crates.{Crate, bus_at, operation_at, happens, set_operation, set_flags, set_pointer, store}
use Rattle.model.specs.Outcomes.{Outcome}
use Rattle.model.specs.Ways.{dropped, dropped_if_any}
use Rattle.model.specs.Addresses.{Request, request, linked, busy, arrived, grant, grants_at, is_lost, note_loss, wishing, contested, hop, travelled, addressed}
use Rattle.model.specs.Cycles.{data_cycle}
use Rattle.model.specs.Calls.{granting, no_flags, step}
use Rattle.model.specs.Runs.{levels_on}
use Rattle.model.proofs.Basics.{by_eq}
use Rattle.model.proofs.Cases.{Branches, step_cases, arrived_cases, started_cases}
use Rattle.model.proofs.Frame.{Closes, Transfers, dropped_kept, dropped_if_any_kept, arrived_kept, linked_kept, cycle_kept}
use Rattle.model.proofs.Turns.{Leaving, Trying, Turning, Wishing, leaving_append, trying_turning, leaving_turning, turning_append, wishing_append, wishing_turning, after_append, grants_append}
use Rattle.model.proofs.Lookups.{bus_same, bus_other, bus_operation, wire}
use Rattle.model.proofs.Sound.{Plan, Sound, Chain, path_chain}

-- ---- the grants on one segment
levels_append : (n : ℕ) (gs hs : List Grant) → levels_on n (gs ++ hs) ≡ levels_on n gs ++ levels_on n hs
levels_append n [] hs = refl
levels_append n (g ∷ gs) hs =
    elim (eqb g.segment n) as (λ t. cond t (g.level ∷ levels_on n (gs ++ hs)) (levels_on n (gs ++ hs)) ≡ cond t (g.level ∷ levels_on n gs) (levels_on n gs) ++ levels_on n hs) [
      | true ↦ ap (λ ls. g.level ∷ ls) (levels_append n gs hs)
      | false ↦ levels_append n gs hs
    ]

-- the grants of the events es on the bus b, and of fs on the bus d to which they lead
pub brings_append : (n : ℕ) (gs hs : List Grant) (es fs : List Event) (b d : Bus) → levels_on n gs ≡ grants es b → d ≡ after_all es b → levels_on n hs ≡ grants fs d → levels_on n (gs ++ hs) ≡ grants (es ++ fs) b
brings_append n gs hs es fs b d p leads q =
    levels_append n gs hs ∙ (λ j. p j ++ levels_on n hs) ∙ ap (λ ls. grants es b ++ ls) (q ∙ ap (grants fs) leads) ∙ sym (grants_append es fs b)

levels_here : (n : ℕ) (ls : List ℕ) → levels_on n (map (grant n) ls) ≡ ls
levels_here n [] = refl
levels_here n (l ∷ ls) = cond-true (eqb n n) _ _ (eq-eqb n n refl) ∙ ap (λ ks. l ∷ ks) (levels_here n ls)

levels_elsewhere : (n m : ℕ) (ls : List ℕ) → (n ≡ m → ⊥) → levels_on n (map (grant m) ls) ≡ []
levels_elsewhere n m [] ne = refl
levels_elsewhere n m (l ∷ ls) ne = cond-false (eqb m n) _ _ (ne_eqb m n (λ e. ne (sym e))) ∙ levels_elsewhere n m ls ne

-- from c to d, with the grants gs: events of the shape A on segment n that bring just these grants there
pub record Turn (A : List Event → Type 0) (n : ℕ) (c d : Crate) (gs : List Grant) : Type 0 where
  pub events : List Event
  pub shape : A events
  pub leads : bus_at n d ≡ after_all events (bus_at n c)
  pub brings : levels_on n gs ≡ grants events (bus_at n c)

module _ (n : ℕ) where
  turn_then : (A B C : List Event → Type 0) → ((es fs : List Event) → A es → B fs → C (es ++ fs)) → (c d e : Crate) (gs hs : List Grant) →
      Turn A n c d gs → Turn B n d e hs → Turn C n c e (gs ++ hs)
  turn_then A B C join c d e gs hs p q =
      record {
        events = p.events ++ q.events;
        shape = join p.events q.events p.shape q.shape;
        leads = q.leads ∙ ap (after_all q.events) p.leads ∙ sym (after_append p.events q.events (bus_at n c));
        brings = brings_append n gs hs p.events q.events (bus_at n c) (bus_at n d) p.brings p.leads q.brings;
      }

  -- after what happened elsewhere
  turn_from : (A : List Event → Type 0) (c d e : Crate) (gs hs : List Grant) → bus_at n d ≡ bus_at n c → levels_on n gs ≡ [] → Turn A n d e hs → Turn A n c e (gs ++ hs)
  turn_from A c d e gs hs same none p =
      record {
        events = p.events;
        shape = p.shape;
        leads = p.leads ∙ ap (after_all p.events) same;
        brings = levels_append n gs hs ∙ (λ j. none j ++ levels_on n hs) ∙ p.brings ∙ ap (grants p.events) same;
      }

  still_turn : (c d : Crate) → bus_at n d ≡ bus_at n c → Turn Leaving n c d []
  still_turn c d e = record { events = []; shape = tt; leads = e; brings = refl }

  -- the same events, of a shape that takes in more
  turn_as : (A B : List Event → Type 0) → ((es : List Event) → A es → B es) → (c d : Crate) (gs : List Grant) → Turn A n c d gs → Turn B n c d gs
  turn_as A B wider c d gs p = record { events = p.events; shape = wider p.events p.shape; leads = p.leads; brings = p.brings }

  calm_turn : (c d : Crate) (gs : List Grant) → Turn Leaving n c d gs → Turn Turning n c d gs
  calm_turn = turn_as Leaving Turning leaving_turning

  -- ---- one event on segment m: there, what its answer grants; elsewhere nothing
  event_turn : (A : List Event → Type 0) (m : ℕ) (e : Event) (c : Crate) → A (e ∷ []) → A [] → Turn A n c (happens m e c) (map (grant m) (granted_by (answer e (bus_at m c))))
  event_turn A m e c one none =
      by_eq n m (Turn A n c (happens m e c) (map (grant m) (granted_by (answer e (bus_at m c)))))
      (λ q. subst (λ k. Turn A n c (happens k e c) (map (grant k) (granted_by (answer e (bus_at k c))))) q here)
      (λ ne. record { events = []; shape = none; leads = bus_other n m e c ne; brings = levels_elsewhere n m (granted_by (answer e (bus_at m c))) ne })
    where
      here : Turn A n c (happens n e c) (map (grant n) (granted_by (answer e (bus_at n c))))
      here =
          record {
            events = e ∷ [];
            shape = one;
            leads = bus_same n e c;
            brings = levels_here n (granted_by (answer e (bus_at n c))) ∙ sym (append-nil (granted_by (answer e (bus_at n c))));
          }

  wish_turn : (m l : ℕ) (c : Crate) → Turn Wishing n c (happens m (Wish l) c) []
  wish_turn m l c = subst (λ ls. Turn Wishing n c (happens m (Wish l) c) (map (grant m) ls)) (move_grants move.Wish l (bus_at m c)) (event_turn Wishing m (Wish l) c refl tt)

  withdraw_turn : (m l : ℕ) (c : Crate) → Turn Leaving n c (happens m (Withdraw l) c) []
  withdraw_turn m l c = subst (λ ls. Turn Leaving n c (happens m (Withdraw l) c) (map (grant m) ls)) (move_grants move.Withdraw l (bus_at m c)) (event_turn Leaving m (Withdraw l) c tt tt)

  release_turn : (m l : ℕ) (c : Crate) → Turn Leaving n c (happens m (Release l) c) []
  release_turn m l c = subst (λ ls. Turn Leaving n c (happens m (Release l) c) (map (grant m) ls)) (move_grants move.Release l (bus_at m c)) (event_turn Leaving m (Release l) c tt tt)

  arbitrate_turn : (m : ℕ) (c : Crate) → Turn Trying n c (happens m Arbitrate c) (grants_at m c)
  arbitrate_turn m c = event_turn Trying m Arbitrate c tt tt

  -- ---- the single changes that are no wish and bring no grant
  abbrev Calm : Crate → Crate → Type 0
  Calm c d = Turn Leaving n c d []

  calm_then : (c d e : Crate) → Calm c d → Calm d e → Calm c e
  calm_then c d e p q = turn_then Leaving Leaving Leaving leaving_append c d e [] [] p q

  calm_closes : Closes Calm
  calm_closes =
      record {
        same = λ c. still_turn c c refl;
        then = calm_then;
        withdraw = withdraw_turn;
        release = release_turn;
        flags = λ m f c. still_turn c (set_flags m f c) refl;
        operation = λ m o c. still_turn c (set_operation m o c) (bus_operation n m o c);
        pointer = λ k s v c. still_turn c (set_pointer k s v c) refl;
      }

  calm_transfers : (k : ℕ) → Transfers k Calm
  calm_transfers k =
      record { same = calm_closes.same; then = calm_then; pointer = λ s v c. still_turn c (set_pointer k s v c) refl; stores = λ s a w c. still_turn c (store k s a w c) refl }

  -- ---- an interconnect's try
  hop_turn : (i : Interconnect) (c : Crate) → Turn Turning n c (hop i c).crate (hop i c).grants
  hop_turn i c =
      let d : Crate = wishing i c in
      let e : Crate = contested i c in
      let gs : List Grant = grants_at i.far d in
      let p : Turn Turning n c e gs = turn_then Wishing Trying Turning wishing_append c d e [] gs (wish_turn i.far i.level c) (arbitrate_turn i.far d) in
      cond_both (is_lost i gs) (set_flags i.far note_loss e) e (λ u. Turn Turning n c u gs)
      (λ _. record { events = p.events; shape = p.shape; leads = p.leads; brings = p.brings }) (λ _. p)

  -- a try for another segment leaves this one
  hop_elsewhere : (i : Interconnect) (c : Crate) → (n ≡ i.far → ⊥) → (bus_at n (hop i c).crate ≡ bus_at n c) × (levels_on n (hop i c).grants ≡ [])
  hop_elsewhere i c ne =
      let e : Crate = contested i c in
      let by : bus_at n e ≡ bus_at n c = bus_other n i.far Arbitrate (wishing i c) ne ∙ bus_other n i.far (Wish i.level) c ne in
      let gs : List Grant = grants_at i.far (wishing i c) in
      (cond_both (is_lost i gs) (set_flags i.far note_loss e) e (λ u. bus_at n u ≡ bus_at n c) (λ _. by) (λ _. by), levels_elsewhere n i.far (granted_by (answer Arbitrate (bus_at i.far (wishing i c)))) ne)

  -- ---- an address
  arrived_ungranted : (r : Request) (m : ℕ) (c : Crate) → (arrived r m c).grants ≡ []
  arrived_ungranted r m c = arrived_cases (λ o. o.grants ≡ []) r m c refl (λ k _. refl)

  arrived_turn : (r : Request) (m : ℕ) (c : Crate) → Turn Leaving n c (arrived r m c).crate (arrived r m c).grants
  arrived_turn r m c = subst (Turn Leaving n c (arrived r m c).crate) (sym (arrived_ungranted r m c)) (arrived_kept Calm calm_closes r m c)

  module _ (W : List Interconnect) (plan : Plan W) where
    -- behind the try: on along the path, or busy
    onward : (A : List Event → Type 0) → ((c d : Crate) (gs : List Grant) → Turn Leaving n c d gs → Turn A n c d gs) →
        (r : Request) (i : Interconnect) (is : List Interconnect) (t : Bool) (d : Crate) → Turn A n d (travelled r i.far is d).crate (travelled r i.far is d).grants →
        let o : Outcome = cond t (travelled r i.far is d) (busy r i.far d) in Turn A n d o.crate o.grants
    onward A calm r i is true d p = p
    onward A calm r i is false d p = calm d (busy r i.far d).crate [] (calm_closes.operation r.segment _ d)

    -- beyond segment n nothing touches it, but for what becomes idle at the end
    beyond : (r : Request) (m : ℕ) (is : List Interconnect) (c : Crate) → Chain W m is → n ≤ m → Turn Leaving n c (travelled r m is c).crate (travelled r m is c).grants
    unfolding travelled
    beyond r m [] c ch le = arrived_turn r m c
    beyond r m (i ∷ is) c ch le =
        let d : Crate = (hop i c).crate in
        let o : Outcome = cond (hop i c).through (travelled r i.far is d) (busy r i.far d) in
        let up : m < i.far = subst (λ k. k < i.far) ch.1 (plan.rising (wire i) ch.0) in
        let by = hop_elsewhere i c (λ e. omega arith) in
        turn_from Leaving c d o.crate (hop i c).grants o.grants by.0 by.1
        (onward Leaving (λ c d gs p. p) r i is (hop i c).through d (beyond r i.far is d ch.2 (omega arith)))

    travelled_turn : (r : Request) (m : ℕ) (is : List Interconnect) (c : Crate) → Chain W m is → Turn Turning n c (travelled r m is c).crate (travelled r m is c).grants
    unfolding travelled
    travelled_turn r m [] c ch = calm_turn c (arrived r m c).crate (arrived r m c).grants (arrived_turn r m c)
    travelled_turn r m (i ∷ is) c ch =
        let d : Crate = (hop i c).crate in
        let o : Outcome = cond (hop i c).through (travelled r i.far is d) (busy r i.far d) in
        by_eq n i.far (Turn Turning n c o.crate ((hop i c).grants ++ o.grants))
        (λ e. turn_then Turning Leaving Turning turning_append c d o.crate (hop i c).grants o.grants (hop_turn i c)
        (onward Leaving (λ c d gs p. p) r i is (hop i c).through d (beyond r i.far is d ch.2 (omega arith))))
        (λ ne.
        let by = hop_elsewhere i c ne in
        turn_from Turning c d o.crate (hop i c).grants o.grants by.0 by.1
        (onward Turning calm_turn r i is (hop i c).through d (travelled_turn r i.far is d ch.2)))

    -- ---- every call
    abbrev CallTurn : Crate → Outcome → Type 0
    CallTurn c o = Turn Turning n c o.crate o.grants

    calm_call : (c d : Crate) → Calm c d → Turn Turning n c d []
    calm_call c d p = calm_turn c d [] p

    addressed_turn : (S : List ℕ) (r : Request) (c : Crate) → Sound W S c → CallTurn c (addressed r c)
    addressed_turn S r c s =
        started_cases (CallTurn c) r _ c (λ _. calm_call c c (still_turn c c refl)) (λ k _. calm_call c (linked r k c).crate (linked_kept Calm calm_closes r k c))
        (travelled_turn r r.segment _ c (path_chain W S _ r.segment r.group c s))

    granted_turn : (m : ℕ) (w : Contender) (c : Crate) → list_any owns (bus_at m c).contenders ≡ false → winner (bus_at m c).contenders ≡ Some w → CallTurn c (granting m c w)
    granted_turn m w c free e =
        let told : granted_by (answer Arbitrate (bus_at m c)) ≡ w.level ∷ [] = ap granted_by (cond-false _ _ _ free ∙ ap by_winner e) in
        turn_as Trying Turning trying_turning c (happens m Arbitrate c) (grant m w.level ∷ []) (subst (λ ls. Turn Trying n c (happens m Arbitrate c) (map (grant m) ls)) told (arbitrate_turn m c))

    pub call_turn : (S : List ℕ) (x : Call) (c : Crate) → Sound W S c → CallTurn c (step x c)
    call_turn S x c s = step_cases c (λ x o. CallTurn c o) branches x
      where
        branches : Branches c (λ x o. CallTurn c o)
        branches =
            record {
              refuses = λ x r. calm_call c c (still_turn c c refl);
              wishes = λ m l a. turn_as Wishing Turning wishing_turning c (happens m (Wish l) c) [] (wish_turn m l c);
              withdraws = λ m l. calm_call c (happens m (Withdraw l) c) (withdraw_turn m l c);
              arbitrates = λ m w free e. granted_turn m w c free e;
              addresses = λ m l ms ad _ _. addressed_turn S (request m ms ad) c s;
              cycles = λ m l ms read w k _ _. calm_call c (data_cycle ms read w c k).crate (cycle_kept k Calm (calm_transfers k.slot) ms read w c);
              ends = λ m l o _ _. calm_call c (dropped m o.group c) (dropped_kept Calm calm_closes m o.group c);
              releases = λ m l _.
                  let d : Crate = dropped_if_any m (operation_at m c) c in
                  calm_call c (happens m (Release l) d) (calm_then c d (happens m (Release l) d) (dropped_if_any_kept Calm calm_closes m (operation_at m c) c) (release_turn m l d));
              clears = λ m. calm_call c (set_flags m no_flags c) (calm_closes.flags m no_flags c);
            }
