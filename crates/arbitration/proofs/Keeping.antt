-- Every call keeps a segment sound.
use Rattle.std.proofs.Common.{◌≡◌, ℕ, ◌<◌, ◌≤◌, Bool, true, false, cond, not, ◌&&◌, eqb, List, [], ◌∷◌, ◌++◌, map, length, is_ok, Some, None, Err, refl, ap, ◌∙◌, subst, arith}
use lib.ListN.{length-map}
use Rattle.std.proofs.lemmas.List.{length_push, map_push}
use Rattle.std.proofs.lemmas.Bool.{or_parts, and_parts, and_from, not-true, true≢false}
use Rattle.arbitration.specs.declared.contenders.Access.{Access}
use Rattle.arbitration.specs.declared.contenders.State.TheVariants.{Idle, Waits, Owns}
use Rattle.arbitration.specs.declared.contenders.Move.{Move}
use Rattle.arbitration.specs.declared.contenders.Move.TheVariants as move
use Rattle.arbitration.specs.declared.contenders.Contender.{Contender}
use Rattle.arbitration.specs.declared.replies.Event.{Event}
use Rattle.arbitration.specs.declared.replies.Event.TheVariants.{Wish, Withdraw, Arbitrate, Release}
use Rattle.std.specs.List.{list_any, list_all}
use Rattle.arbitration.specs.Lists.{count}
use Rattle.arbitration.specs.Contenders.{same_state, at_level, asks, waits, owns, put, moved, wake}
use Rattle.arbitration.specs.Rules.{Bus, in_range, newcomer, lifts, settled, made, winner, asks_as, granted, arbitrated, by_winner, move_answer, after_move, after}
use Rattle.arbitration.specs.Sound.{levels, distinct, calm, Sound}
use Rattle.arbitration.proofs.Changing.{all_map, count_map, any_amended_none, count_amended_le, count_amended_more, count_none, any_map_none, any_push, all_push, count_push}
use Rattle.arbitration.proofs.States.{never_owns, never_waits, passes_less, still_fails, woken_owns, woken_waits}
use Rattle.arbitration.proofs.Rosters.{roster, roster_settled, roster_made, roster_granted, by_roster}

abbrev pub SoundBus : Bus → Type 0
SoundBus b = Sound b.contenders b.inhibit

abbrev ranged : Contender → Bool
ranged c = in_range c.level c.access

-- ---- what depends on the roster alone
levels_blind : (cs : List Contender) → levels (roster cs) ≡ levels cs
levels_blind [] = refl
levels_blind (c ∷ cs) = ap (λ ls. c.level ∷ ls) (levels_blind cs)

pub same_levels : (cs ds : List Contender) → roster cs ≡ roster ds → levels cs ≡ levels ds
same_levels = by_roster levels levels_blind

sound_by_roster : (cs ds : List Contender) (before after : Bool) → roster ds ≡ roster cs → Sound cs before → count owns ds ≤ 1 → calm ds after ≡ true → Sound ds after
sound_by_roster cs ds before after e h one quiet = (
  omega (arith, by_roster length (λ xs. length-map xs (put Idle)) ds cs e, h.0),
  ap distinct (same_levels ds cs e) ∙ h.1,
  by_roster (list_all ranged) (all_map ranged (put Idle) (λ c. refl)) ds cs e ∙ h.2,
  one,
  quiet,
)

-- ---- settling
settles_calm : (cs : List Contender) (up some : Bool) → list_any asks cs ≡ some → (up ≡ false → list_any waits cs ≡ false) → calm (cond (up && not some) (map wake cs) cs) (up && some) ≡ true
settles_calm cs false some e h = ap not (h refl)
settles_calm cs true true e h = e
settles_calm cs true false e h = ap not (any_map_none waits wake (λ c. woken_waits c.state) cs)

owns_settled : (b : Bus) → count owns (settled b).contenders ≡ count owns b.contenders
owns_settled b = elim (lifts b) as (λ t. count owns (cond t (map wake b.contenders) b.contenders) ≡ count owns b.contenders) [ true ↦ count_map owns wake (λ c. woken_owns c.state) b.contenders | false ↦ refl ]

sound_settled : (cs : List Contender) (before : Bool) (b : Bus) → roster b.contenders ≡ roster cs → Sound cs before → count owns b.contenders ≤ 1 → (b.inhibit ≡ false → list_any waits b.contenders ≡ false) → SoundBus (settled b)
sound_settled cs before b e h one w =
    sound_by_roster cs (settled b).contenders before (settled b).inhibit (roster_settled b ∙ e) h
    (omega (arith, owns_settled b, one))
    (settles_calm b.contenders b.inhibit (list_any asks b.contenders) refl w)

-- ---- the calls
none_waits : (b : Bus) → SoundBus b → b.inhibit ≡ false → list_any waits b.contenders ≡ false
none_waits b h down = not-true _ (subst (λ t. calm b.contenders t ≡ true) down h.4)

pub sound_move : (m : Move) (l : ℕ) (b : Bus) → SoundBus b → SoundBus (after_move m l b)
sound_move m l b h =
    elim (is_ok (move_answer m l b)) as (λ t. SoundBus (cond t (settled (made m l b)) b)) [
      | true ↦ sound_settled b.contenders b.inhibit (made m l b) (roster_made m l b) h
          (omega (arith, count_amended_le (at_level l) (moved m b.inhibit) owns (λ c. passes_less (same_state Owns) m c.access b.inhibit (never_owns m c.access b.inhibit) c.state) b.contenders, h.3))
          (λ down. rw down (any_amended_none (at_level l) (moved m false) waits (λ c. still_fails (same_state Waits) m c.access false (never_waits m c.access) c.state) b.contenders (none_waits b h down)))
      | false ↦ h
    ]

sound_granted : (w : Contender) (b : Bus) → SoundBus b → list_any owns b.contenders ≡ false → SoundBus (settled (granted w b))
sound_granted w b h free =
    sound_settled b.contenders b.inhibit (granted w b) (roster_granted w b) h
    (omega (arith, count_amended_more (asks_as w) (put Owns) owns b.contenders, count_none owns b.contenders free))
    (λ down. absurd (true≢false down))

pub sound_arbitration : (b : Bus) → SoundBus b → SoundBus (after Arbitrate b)
sound_arbitration b h =
    (elim (list_any owns b.contenders) as (λ t. list_any owns b.contenders ≡ t → SoundBus (cond (is_ok (cond t (Err 22) (by_winner (winner b.contenders)))) (arbitrated (winner b.contenders) b) b)) [
      | true ↦ λ _. h
      | false ↦ λ free. elim (winner b.contenders) as (λ o. SoundBus (cond (is_ok (by_winner o)) (arbitrated o b) b)) [ None ↦ h | Some w ↦ sound_granted w b h free ]
    ]) refl

pub sound_after : (e : Event) (b : Bus) → SoundBus b → SoundBus (after e b)
sound_after (Wish l) b h = sound_move move.Wish l b h
sound_after (Withdraw l) b h = sound_move move.Withdraw l b h
sound_after Arbitrate b h = sound_arbitration b h
sound_after (Release l) b h = sound_move move.Release l b h

-- ---- a contender more
distinct_push : (l : ℕ) (cs : List Contender) → list_any (at_level l) cs ≡ false → distinct (levels cs) ≡ true → distinct (levels cs ++ l ∷ []) ≡ true
distinct_push l [] free h = refl
distinct_push l (c ∷ cs) free h =
    let others = or_parts (at_level l c) (list_any (at_level l) cs) free in
    let parts = and_parts _ _ h in
    and_from _ _ (ap not (any_push (eqb c.level) l others.0 (levels cs)) ∙ parts.0) (distinct_push l cs others.1 parts.1)

pub sound_added : (cs : List Contender) (inhibit : Bool) (l : ℕ) (a : Access) → Sound cs inhibit → length cs < 16 → in_range l a ≡ true → list_any (at_level l) cs ≡ false → Sound (cs ++ newcomer l a ∷ []) inhibit
sound_added cs inhibit l a h few fits free =
    let n = newcomer l a in (
      omega (arith, length_push cs n),
      ap distinct (map_push (λ (c : Contender). c.level) cs n) ∙ distinct_push l cs free h.1,
      all_push ranged n fits cs h.2,
      omega (arith, count_push owns n refl cs, h.3),
      (λ j. cond inhibit (any_push asks n refl cs j) (not (any_push waits n refl cs j))) ∙ h.4,
    )
