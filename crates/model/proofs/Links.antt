-- Every call leaves a standing link and its module alone, but for its own master's.
use Rattle.std.proofs.Common.{◌≡◌, ℕ, Bool, true, false, ◌&&◌, ◌||◌, eqb, List, [], ◌∷◌, is_some, Some, None, Option, sym, refl, ap, ◌∙◌, subst}
use Rattle.std.proofs.lemmas.Bool.{cond-false, both_ways, eq-eqb, ne_eqb, and_from, or_parts, or_right}
use Rattle.std.specs.List.{slice_get, list_any}
use Rattle.arbitration.specs.declared.replies.Event.TheVariants as event
use Rattle.arbitration.specs.Lists.{holds}
use Rattle.model.specs.declared.calls.Call.{Call}
use Rattle.model.specs.declared.cells.Space.{Space}
use Rattle.model.specs.declared.parts.Interconnect.{Interconnect}
use Rattle.model.specs.declared.parts.Link.{Link}
use Rattle.model.specs.declared.parts.Operation.{Operation}
use Rattle.model.specs.Crates.{Table, Crate, bus_at, operation_at, link_of, link_at, happens, pointer_at}
use Rattle.model.specs.Ways.{way, all_idled, dropped_if_any}
use Rattle.model.specs.Addresses.{request}
use Rattle.model.specs.Cycles.{data_cycle}
use Rattle.model.specs.Calls.{no_flags, step}
use Rattle.model.specs.Runs.{after_calls, caller, is_by, kind, is_end, is_transfer}
use Rattle.model.specs.Laws.{HasLink, NoneOf, LinksStand}
use Rattle.model.proofs.Basics.{by_eq}
use Rattle.model.proofs.Cases.{Owner, Branches, step_cases}
use Rattle.model.proofs.Frame.{Transfers, closes, dropped_kept, addressed_kept, released_kept, cycle_kept}
use Rattle.model.proofs.Words.{SameCells, cells_steps}
use Rattle.model.proofs.Buses.{one_owner}
use Rattle.model.proofs.Lookups.{operation_happens, operation_same, pointer_other, pointer_slots}
use Rattle.model.proofs.Sound.{Plan, Sound, Master, sound_step, master_from}
use Rattle.model.proofs.Holds.{Own, Mastered, Holds, holds_mastered, holds_one, Grows, grows_tries, grows_withdraw, grows_transfers, Spares, GoodLink, Good, grows_spares, spares_good, spares_then}
use Rattle.model.proofs.Posts.{SameSlots, release_own, Post, dropped_post, dropped_if_any_post, addressed_post}

-- ---- the cells and pointers of module k are as they were
abbrev Still : ℕ → Crate → Crate → Type 0
Still k c d = ((s : Space) (a : ℕ) → d.cells k s a ≡ c.cells k s a) × ((s : Space) → pointer_at k s d ≡ pointer_at k s c)

still_same : (k : ℕ) (c : Crate) → Still k c c
still_same k c = (λ s a. refl, λ s. refl)

still_then : (k : ℕ) (c d e : Crate) → Still k c d → Still k d e → Still k c e
still_then k c d e p q = (λ s a. q.0 s a ∙ p.0 s a, λ s. q.1 s ∙ p.1 s)

still_from : (k : ℕ) (c d : Crate) → SameCells c d → ((s : Space) → pointer_at k s d ≡ pointer_at k s c) → Still k c d
still_from k c d e p = (λ s a. ap (λ (f : ℕ → Table). f k s a) e, p)

-- a data cycle with module j leaves module k alone
still_transfers : (k j : ℕ) → (k ≡ j → ⊥) → Transfers j (Still k)
still_transfers k j ne =
    record {
      same = still_same k;
      then = still_then k;
      pointer = λ s v c. (λ s a. refl, λ s'. pointer_other k j s s' v c ne);
      stores = λ s a w c. (λ s' a'. cond-false (eqb j k) _ _ (ne_eqb j k (λ e. ne (sym e))), λ s'. refl);
    }

weaker : (a b c : Bool) → (a && (b || c)) ≡ false → (a && b) ≡ false
weaker true true c h = h
weaker true false c h = refl
weaker false b c h = refl

dropped_none : (n : ℕ) (o : Option Operation) (c : Crate) → operation_at n c ≡ o → operation_at n (dropped_if_any n o c) ≡ None
dropped_none n None c e = e
dropped_none n (Some o) c e = operation_same n None (all_idled (way n o.group c) c) (λ x. x ≡ None) refl refl

module _ (W : List Interconnect) (S : List ℕ) (plan : Plan W) where
  -- what holds of a crate after every call: it is sound, and what is under way on each segment is good
  pub record Inv (c : Crate) : Type 0 where
    pub sound : Sound W S c
    pub good : (n : ℕ) → Good W S n c (operation_at n c)

  -- what a call does: it takes nothing from anybody and moves no word, it is a data cycle over its master's link,
  -- or it is the call of a master that owns its segment, and ends an operation or, where there is no link, may make one
  pub data Deed (c : Crate) (x : Call) (d : Crate) : Type 0 where
    quiet : Grows c d → SameSlots c d → SameCells c d → Deed c x d
    cycled : (m j : ℕ) (k : Link) (ms : ℕ) (read : Bool) (w : ℕ) → caller x ≡ Some (m, j) → is_transfer (kind x) ≡ true → Own m j c → link_at m c ≡ Some k → d ≡ (data_cycle ms read w c k).crate → Deed c x d
    mastered : (m j : ℕ) → caller x ≡ Some (m, j) → Own m j c → (is_end (kind x) ≡ false → is_some (link_at m c) ≡ false) → SameCells c d → Post W S plan m c d → Deed c x d

  mastered_by : (n l : ℕ) (c : Crate) → Sound W S c → Owner n l c → Mastered W n c
  mastered_by n l c s o = record { level = l; owner = o.owner; master = master_from W S n l c plan s o.master }

  release_post : (n l : ℕ) (c : Crate) → Sound W S c → Owner n l c → Post W S plan n c (happens n (event.Release l) (dropped_if_any n (operation_at n c) c))
  release_post n l c s o =
      let d : Crate = dropped_if_any n (operation_at n c) c in
      let e : Crate = happens n (event.Release l) d in
      let p : Post W S plan n c d = dropped_if_any_post W S plan n c s (mastered_by n l c s o) (operation_at n c) refl in
      record {
        good = subst (Good W S n e) (sym (operation_happens n n (event.Release l) d ∙ dropped_none n (operation_at n c) c refl)) tt;
        spares = λ m ne. spares_then W m c d e (p.spares m ne)
            (record {
              operation = operation_happens m n (event.Release l) d;
              masters = λ k _. release_own n l d m k (λ q _. ne q);
              ways = λ w i _. release_own n l d w.far w.level (master_from W S n l c plan s o.master w i);
            });
        still = p.still;
      }

  deeds : (c : Crate) → Inv c → Branches c (λ x o. Deed c x o.crate)
  deeds c v =
      record {
        refuses = λ x r. quiet (grows_tries.same c) refl refl;
        wishes = λ n l a. quiet (grows_tries.wish n l c) refl refl;
        withdraws = λ n l. quiet (grows_withdraw n l c) refl refl;
        arbitrates = λ n w _ _. quiet (grows_tries.arbitrate n c) refl refl;
        addresses = λ n l ms ad o free.
            mastered n l refl o.owner (λ _. free) (addressed_kept SameCells cells_steps (request n ms ad) c)
            (addressed_post W S plan (request n ms ad) c v.sound (v.good n) (mastered_by n l c v.sound o));
        cycles = λ n l ms read w k o e. cycled n l k ms read w refl refl o.owner e refl;
        ends = λ n l u o _.
            mastered n l refl o.owner (λ e. absurd (both_ways true e refl)) (dropped_kept SameCells (closes SameCells cells_steps) n u.group c)
            (dropped_post W S plan n u.group c v.sound (mastered_by n l c v.sound o));
        releases = λ n l o.
            mastered n l refl o.owner (λ e. absurd (both_ways true e refl)) (released_kept SameCells cells_steps n l (operation_at n c) c)
            (release_post n l c v.sound o);
        clears = λ n. quiet (grows_tries.flags n no_flags c) refl refl;
      }

  deed : (x : Call) (c : Crate) → Inv c → Deed c x (step x c).crate
  deed x c v = step_cases c (λ x o. Deed c x o.crate) (deeds c v) x

  cycle_grows : (c d : Crate) (k : Link) (ms : ℕ) (read : Bool) (w : ℕ) → d ≡ (data_cycle ms read w c k).crate → Grows c d
  cycle_grows c d k ms read w e = subst (Grows c) (sym e) (cycle_kept k Grows (grows_transfers k.slot) ms read w c)

  -- ---- every call keeps the invariant
  grows_good : (c d : Crate) → Inv c → Grows c d → (n : ℕ) → Good W S n d (operation_at n d)
  grows_good c d v g n = subst (Good W S n d) (sym (g.operations n)) (spares_good W n c d S (grows_spares W n c d g) (operation_at n c) (v.good n))

  deed_good : (x : Call) (c d : Crate) → Inv c → Deed c x d → (n : ℕ) → Good W S n d (operation_at n d)
  deed_good x c d v (quiet g e f) n = grows_good c d v g n
  deed_good x c d v (cycled m j k ms read w a t o y e) n = grows_good c d v (cycle_grows c d k ms read w e) n
  deed_good x c d v (mastered m j a o f e p) n =
      by_eq n m (Good W S n d (operation_at n d))
      (λ q. subst (λ z. Good W S z d (operation_at z d)) (sym q) p.good)
      (λ ne. subst (Good W S n d) (sym (p.spares n ne).operation) (spares_good W n c d S (p.spares n ne) (operation_at n c) (v.good n)))

  inv_step : (x : Call) (c : Crate) → Inv c → Inv (step x c).crate
  inv_step x c v = record { sound = sound_step W S x c v.sound; good = deed_good x c (step x c).crate v (deed x c v) }

  inv_calls : (xs : List Call) (c : Crate) → Inv c → Inv (after_calls xs c)
  inv_calls [] c v = v
  inv_calls (x ∷ xs) c v = inv_calls xs (step x c).crate (inv_step x c v)

  -- ---- a link that stands
  -- its module stands on a segment that is held for the link's own
  pub record Anchored (n : ℕ) (k : Link) (c : Crate) : Type 0 where
    pub group : ℕ
    pub station : slice_get S k.slot ≡ Some group
    pub held : Holds W c n group

  anchored : (n : ℕ) (k : Link) (c : Crate) → Inv c → link_at n c ≡ Some k → Anchored n k c
  anchored n k c v = go (operation_at n c) (v.good n)
    where
      from : (g : ℕ) (y : Option Link) → GoodLink W S n g c y → y ≡ Some k → Anchored n k c
      from g None good e = absurd (both_ways false refl (ap is_some e))
      from g (Some y) good e = let same : y ≡ k = cc in record { group = g; station = subst (λ (z : Link). slice_get S z.slot ≡ Some g) same good.0; held = good.1 }

      go : (o : Option Operation) → Good W S n c o → link_of o ≡ Some k → Anchored n k c
      go None good e = absurd (both_ways false refl (ap is_some e))
      go (Some o) good e = from o.group o.link good.1 e

  module _ (n l : ℕ) (k : Link) (c : Crate) (v : Inv c) (link : HasLink n l k c) where
    anchor : Anchored n k c
    anchor = anchored n k c v link.link

    master : Master W n l
    master =
        let m : Mastered W n c = holds_mastered W c n anchor.held in
        subst (Master W n) (one_owner m.level l (bus_at n c) (v.sound.buses n) m.owner link.owner) m.master

    spared : (d : Crate) → Spares W n c d → HasLink n l k d
    spared d s = record { owner = s.masters l master link.owner; link = ap link_of s.operation ∙ link.link }

    -- a call of the owner of the link's own segment is the link's master's
    mine : (x : Call) (m j : ℕ) → caller x ≡ Some (m, j) → Own m j c → n ≡ m → is_by n l x ≡ true
    mine x m j a o e =
        let same : j ≡ l = one_owner j l (bus_at n c) (v.sound.buses n) (subst (λ (z : ℕ). Own z j c) (sym e) o) link.owner in
        ap (holds (λ p. eqb p.0 n && eqb p.1 l)) a ∙ and_from (eqb m n) (eqb j l) (eq-eqb m n (sym e)) (eq-eqb j l same)

    -- so a call of a master that is not the link's end is another's
    another : (x : Call) (m j : ℕ) → caller x ≡ Some (m, j) → Own m j c → (is_end (kind x) ≡ false → is_some (link_at m c) ≡ false) → (is_by n l x && is_end (kind x)) ≡ false → n ≡ m → ⊥
    another x m j a o f q e = go (is_end (kind x)) refl
      where
        go : (t : Bool) → is_end (kind x) ≡ t → ⊥
        go true z = both_ways (is_by n l x && is_end (kind x)) q (and_from (is_by n l x) (is_end (kind x)) (mine x m j a o e) z)
        go false z = both_ways (is_some (link_at m c)) (f z) (ap (λ (y : ℕ). is_some (link_at y c)) (sym e) ∙ ap is_some link.link)

    deed_spares : (x : Call) (d : Crate) → Deed c x d → (is_by n l x && is_end (kind x)) ≡ false → Spares W n c d
    deed_spares x d (quiet g e f) q = grows_spares W n c d g
    deed_spares x d (cycled m j y ms read w a t o z e) q = grows_spares W n c d (cycle_grows c d y ms read w e)
    deed_spares x d (mastered m j a o f e p) q = p.spares n (another x m j a o f q)

    step_linked : (x : Call) → (is_by n l x && is_end (kind x)) ≡ false → HasLink n l k (step x c).crate
    step_linked x q = spared (step x c).crate (deed_spares x (step x c).crate (deed x c v) q)

    -- the module of another link is another
    other_module : (m : ℕ) (y : Link) → link_at m c ≡ Some y → (n ≡ m → ⊥) → k.slot ≡ y.slot → ⊥
    other_module m y e ne same_slot =
        let a : Anchored m y c = anchored m y c v e in
        let x : slice_get S y.slot ≡ Some anchor.group = subst (λ z. slice_get S z ≡ Some anchor.group) same_slot anchor.station in
        let z : slice_get S y.slot ≡ Some a.group = a.station in
        let same : a.group ≡ anchor.group = cc in
        ne (holds_one W S c plan v.sound n m anchor.held (subst (Holds W c m) same a.held))

    deed_still : (x : Call) (d : Crate) → Deed c x d → (is_by n l x && (is_end (kind x) || is_transfer (kind x))) ≡ false → Still k.slot c d
    deed_still x d (quiet g e f) q = still_from k.slot c d f (pointer_slots c d e k.slot)
    deed_still x d (cycled m j y ms read w a t o z e) q =
        let ne : n ≡ m → ⊥ = λ same. both_ways (is_by n l x && (is_end (kind x) || is_transfer (kind x))) q
        (and_from (is_by n l x) (is_end (kind x) || is_transfer (kind x)) (mine x m j a o same) (or_right (is_end (kind x)) (is_transfer (kind x)) t)) in
        subst (Still k.slot c) (sym e) (cycle_kept y (Still k.slot) (still_transfers k.slot y.slot (other_module m y z ne)) ms read w c)
    deed_still x d (mastered m j a o f e p) q =
        still_from k.slot c d e (p.still n (another x m j a o f (weaker (is_by n l x) (is_end (kind x)) (is_transfer (kind x)) q)) anchor.group k.slot anchor.station anchor.held)

    step_still : (x : Call) → (is_by n l x && (is_end (kind x) || is_transfer (kind x))) ≡ false → Still k.slot c (step x c).crate
    step_still x q = deed_still x (step x c).crate (deed x c v) q

  -- ---- every list of calls
  calls_linked : (n l : ℕ) (k : Link) (xs : List Call) (c : Crate) → Inv c → HasLink n l k c → NoneOf (λ x. is_by n l x && is_end (kind x)) xs → HasLink n l k (after_calls xs c)
  calls_linked n l k [] c v link h = link
  calls_linked n l k (x ∷ xs) c v link h =
      let parts = or_parts (is_by n l x && is_end (kind x)) (list_any (λ x. is_by n l x && is_end (kind x)) xs) h in
      calls_linked n l k xs (step x c).crate (inv_step x c v) (step_linked n l k c v link x parts.0) parts.1

  calls_still : (n l : ℕ) (k : Link) (xs : List Call) (c : Crate) → Inv c → HasLink n l k c → NoneOf (λ x. is_by n l x && (is_end (kind x) || is_transfer (kind x))) xs → Still k.slot c (after_calls xs c)
  calls_still n l k [] c v link h = still_same k.slot c
  calls_still n l k (x ∷ xs) c v link h =
      let d : Crate = (step x c).crate in
      let parts = or_parts (is_by n l x && (is_end (kind x) || is_transfer (kind x))) (list_any (λ x. is_by n l x && (is_end (kind x) || is_transfer (kind x))) xs) h in
      let next : HasLink n l k d = step_linked n l k c v link x (weaker (is_by n l x) (is_end (kind x)) (is_transfer (kind x)) parts.0) in
      still_then k.slot c d (after_calls xs d) (step_still n l k c v link x parts.0) (calls_still n l k xs d (inv_step x c v) next parts.1)

  pub links_stand : (setup : Crate) → Inv setup → LinksStand setup
  links_stand setup v =
      record {
        stands = λ before during n l k link h. calls_linked n l k during (after_calls before setup) (inv_calls before setup v) link h;
        untouched = λ before during n l k link h. calls_still n l k during (after_calls before setup) (inv_calls before setup v) link h;
      }
