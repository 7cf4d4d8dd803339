-- Waiting, over every run: the calls are events on the segment, and the law on waiting there bounds their grants.
use Rattle.std.proofs.Common.{◌≡◌, ℕ, ◌+◌, ◌*◌, ◌≤◌, Bool, true, false, not, List, [], ◌∷◌, ◌++◌, is_some, is_ok, Some, None, Option, sym, refl, ap, ◌∙◌, subst, append_assoc, append-nil, arith}
use Rattle.std.proofs.lemmas.Bool.{both_ways, cond-false, not_from_true}
use Rattle.arbitration.specs.declared.contenders.Contender.{Contender}
use Rattle.arbitration.specs.declared.replies.Event.{Event}
use Rattle.arbitration.specs.declared.replies.Event.TheVariants as event
use Rattle.std.specs.List.{list_any}
use Rattle.arbitration.specs.Contenders.{idle, owns, wishes, assured, prioritised}
use Rattle.arbitration.specs.Rules.{Bus, its, winner, by_winner, answer, after}
use Rattle.arbitration.specs.Waiting.{after_all, grants, WishesThrough, other, rivals, to_others, to_prioritised}
use Rattle.arbitration.specs.Waiting.{Bounded as BoundedEvents}
use Rattle.arbitration.proofs.Keeping.{SoundBus}
use Rattle.arbitration.proofs.Patience.{count_append, arbitrate_answered}
use Rattle.arbitration.proofs.Patience.{bounded as bounded_events}
use Rattle.model.specs.declared.calls.Call.{Call}
use Rattle.model.specs.declared.calls.Call.TheVariants.{Arbitrate}
use Rattle.model.specs.declared.parts.Interconnect.{Interconnect}
use Rattle.model.specs.declared.replies.Grant.{Grant}
use Rattle.model.specs.declared.replies.Reason.TheVariants.{SegmentOwned, NobodyAsks}
use Rattle.model.specs.Crates.{Segment, Crate, segment_at, bus_of, bus_at}
use Rattle.model.specs.Outcomes.{Outcome, refused_if, given}
use Rattle.model.specs.Calls.{granting, step}
use Rattle.model.specs.Runs.{after_calls, grants_of, levels_on, Throughout}
use Rattle.model.specs.Laws.{Bounded, WaitingIsBounded}
use Rattle.model.proofs.Turns.{Turning, after_append, grants_append, through_append, turning_through}
use Rattle.model.proofs.Endings.{Cut, cut_turning, alone}
use Rattle.model.proofs.Passing.{brings_append, Turn, call_turn}
use Rattle.model.proofs.Sound.{Plan, Sound, sound_step, sound_calls}

module _ (W : List Interconnect) (S : List ℕ) (plan : Plan W) (n x : ℕ) where
  -- the contender of level x wishes for segment n
  abbrev Wishing : Crate → Type 0
  Wishing c = its x wishes (bus_at n c) ≡ true

  -- the events on segment n of calls after each of which x wishes
  record Course (c d : Crate) (gs : List Grant) : Type 0 where
    events : List Event
    through : WishesThrough x events (bus_at n c)
    leads : bus_at n d ≡ after_all events (bus_at n c)
    brings : levels_on n gs ≡ grants events (bus_at n c)

  turn : (y : Call) (c : Crate) → Sound W S c → Turn Turning n c (step y c).crate (step y c).grants
  turn y c s = call_turn n W plan S y c s

  -- call by call
  course : (calls : List Call) (c : Crate) → Sound W S c → Throughout Wishing calls c → Course c (after_calls calls c) (grants_of calls c)
  course [] c s h = record { events = []; through = tt; leads = refl; brings = refl }
  course (y ∷ calls) c s h =
      let b : Bus = bus_at n c in
      let d : Crate = (step y c).crate in
      let t : Turn Turning n c d (step y c).grants = turn y c s in
      let r : Course d (after_calls calls d) (grants_of calls d) = course calls d (sound_step W S y c s) h.1 in
      let now : WishesThrough x t.events b = turning_through x t.events b t.shape (subst (λ z. its x wishes z ≡ true) t.leads h.0) in
      let later : WishesThrough x r.events (after_all t.events b) = subst (WishesThrough x r.events) t.leads r.through in
      record {
        events = t.events ++ r.events;
        through = through_append x t.events r.events b now later;
        leads = r.leads ∙ ap (after_all r.events) t.leads ∙ sym (after_append t.events r.events b);
        brings = brings_append n (step y c).grants (grants_of calls d) t.events r.events b (bus_at n d) t.brings t.leads r.brings;
      }

  -- the grants of the last call come last
  grants_last : (calls : List Call) (last : Call) (c : Crate) → grants_of (calls ++ last ∷ []) c ≡ grants_of calls c ++ (step last (after_calls calls c)).grants
  grants_last [] last c = append-nil (step last c).grants
  grants_last (y ∷ calls) last c =
      ap (λ gs. (step y c).grants ++ gs) (grants_last calls last (step y c).crate) ∙ sym (append_assoc (step y c).grants (grants_of calls (step y c).crate) (step last (after_calls (y ∷ calls) c)).grants)

  -- the bound, for the levels that were granted
  record Within (b : Bus) (ls : List ℕ) : Type 0 where
    at_most : to_others x ls ≤ 2 * rivals x b + to_prioritised b ls
    at_most_if_down : b.inhibit ≡ false → to_others x ls ≤ rivals x b + to_prioritised b ls

  -- the events es of a wish, and then those of one more call, which meets x wishing
  wish_and_last : (e : Event) (es fs : List Event) (b : Bus) → SoundBus b → its x idle b ≡ true → WishesThrough x (e ∷ es) b → Turning fs → its x wishes (after_all (e ∷ es) b) ≡ true → Within b (grants ((e ∷ es) ++ fs) b)
  wish_and_last e es fs b h i t a w =
      let d : Bus = after_all (e ∷ es) b in
      let r : Cut x fs d = cut_turning x fs d a w in
      let all : BoundedEvents x (e ∷ es ++ r.events) b = bounded_events x e (es ++ r.events) b h i (through_append x (e ∷ es) r.events b t r.through) in
      let gs : List ℕ = grants (e ∷ es) b in
      let kept = grants_append (e ∷ es) r.events b in
      let told = grants_append (e ∷ es) fs b in
      let facts : (to_others x (grants ((e ∷ es) ++ fs) b) ≡ to_others x (grants (e ∷ es ++ r.events) b)) × (to_prioritised b (grants (e ∷ es ++ r.events) b) ≤ to_prioritised b (grants ((e ∷ es) ++ fs) b)) = (
        ap (to_others x) told ∙ count_append (other x) gs (grants fs d) ∙ ap (λ k. to_others x gs + k) r.others ∙ sym (ap (to_others x) kept ∙ count_append (other x) gs (grants r.events d)),
        omega (
          arith,
          ap (to_prioritised b) kept,
          ap (to_prioritised b) told,
          count_append (λ l. its l prioritised b) gs (grants fs d),
          count_append (λ l. its l prioritised b) gs (grants r.events d),
          r.prioritised b,
        ),
      ) in
      record {
        at_most = omega (arith, facts.0, facts.1, all.at_most);
        at_most_if_down = λ down. omega (arith, facts.0, facts.1, all.at_most_if_down down);
      }

  through_end : (e : Event) (es : List Event) (b : Bus) → WishesThrough x (e ∷ es) b → its x wishes (after_all (e ∷ es) b) ≡ true
  through_end e [] b t = t.0
  through_end e (f ∷ es) b t = through_end f es (after e b) t.1

  -- es may be empty: then the wish can only begin at the last call
  within : (es fs : List Event) (b : Bus) → SoundBus b → its x idle b ≡ true → WishesThrough x es b → Turning fs → Within b (grants (es ++ fs) b)
  within [] fs b h i t a = let one = alone x fs b h a in record { at_most = omega (arith, one); at_most_if_down = λ _. one }
  within (e ∷ es) fs b h i t a = wish_and_last e es fs b h i t a (through_end e es b t)

  -- so for the calls whose events these are
  bounded_calls : (calls : List Call) (last : Call) (c : Crate) → Sound W S c → its x idle (bus_at n c) ≡ true → Throughout Wishing calls c → Bounded n x (calls ++ last ∷ []) c
  bounded_calls calls last c s i h =
      let b : Bus = bus_at n c in
      let d : Crate = after_calls calls c in
      let r : Course c d (grants_of calls c) = course calls c s h in
      let t : Turn Turning n d (step last d).crate (step last d).grants = turn last d (sound_calls W S calls c s) in
      let levels : levels_on n (grants_of (calls ++ last ∷ []) c) ≡ grants (r.events ++ t.events) b =
      ap (levels_on n) (grants_last calls last c) ∙ brings_append n (grants_of calls c) (step last d).grants r.events t.events b (bus_at n d) r.brings r.leads t.brings in
      let all : Within b (grants (r.events ++ t.events) b) = within r.events t.events b (s.buses n) i r.through t.shape in
      record {
        at_most = subst (λ ls. to_others x ls ≤ 2 * rivals x b + to_prioritised b ls) (sym levels) all.at_most;
        at_most_if_down = λ down. subst (λ ls. to_others x ls ≤ rivals x b + to_prioritised b ls) (sym levels) (all.at_most_if_down down);
      }

-- ---- an arbitration is answered
is_there : (n x : ℕ) (q : Contender → Bool) (o : Option Segment) → its x q (bus_of n o) ≡ true → is_some o ≡ true
is_there n x q None h = absurd (both_ways false refl h)
is_there n x q (Some s) h = refl

granted_answered : (n : ℕ) (c : Crate) (o : Option Contender) → is_ok (by_winner o) ≡ true → is_ok (given o NobodyAsks n c (granting n c)).reply ≡ true
granted_answered n c None e = absurd (both_ways false refl e)
granted_answered n c (Some w) e = refl

arbitrated : (n x : ℕ) (c : Crate) → is_some (segment_at n c) ≡ true → list_any owns (bus_at n c).contenders ≡ false → is_ok (answer event.Arbitrate (bus_at n c)) ≡ true → is_ok (step (Arbitrate n) c).reply ≡ true
arbitrated n x c there free ok =
    let cs : List Contender = (bus_at n c).contenders in
    let inner : Outcome = given (winner cs) NobodyAsks n c (granting n c) in
    let outer : Outcome = refused_if (list_any owns cs) SegmentOwned n c inner in
    ap (λ (o : Outcome). is_ok o.reply) (cond-false (not (is_some (segment_at n c))) _ outer (not_from_true (is_some (segment_at n c)) there) ∙ cond-false (list_any owns cs) _ inner free)
    ∙ granted_answered n c (winner cs) (ap is_ok (sym (cond-false (list_any owns cs) _ (by_winner (winner cs)) free)) ∙ ok)

pub waiting_is_bounded : (W : List Interconnect) (S : List ℕ) → Plan W → (setup : Crate) → Sound W S setup → WaitingIsBounded setup
waiting_is_bounded W S plan setup s =
    record {
      not_refused = λ before n x a w free.
          let c : Crate = after_calls before setup in
          arbitrated n x c (is_there n x assured (segment_at n c) a) free (arbitrate_answered x (bus_at n c) ((sound_calls W S before setup s).buses n) w free);
      bounded = λ before calls last n x a i h. bounded_calls W S plan n x calls last (after_calls before setup) (sound_calls W S before setup s) i h;
    }
