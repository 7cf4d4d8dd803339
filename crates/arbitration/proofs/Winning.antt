-- The winner: the loop that looks for it, that no asker has a higher level, and when there is one.
use Rattle.std.proofs.Common.{◌≡◌, ℕ, zero, suc, ◌+◌, ◌<◌, ◌≤◌, Bool, true, false, cond, not, ◌&&◌, ◌||◌, ltb, List, [], ◌∷◌, length, get_or, is_ok, Some, None, Ok, Err, Option, sym, refl, ap, ◌∙◌, subst, ⊎_elim, arith}
use Rattle.std.specs.List.{list_any}
use Rattle.std.proofs.lemmas.List.{get_or_default}
use Rattle.std.proofs.lemmas.List.Sums.{position_or_len_is}
use Rattle.std.proofs.lemmas.Bool.{cond-true, cond-false, cond_both, true≢false, and_from, and_left, and_right, and_cases, or_left, or_right, or_from, or_parts, eq-eqb, ne_eqb, lt-ltb, le-ltb, ltb-true, ltb-false, cases_Bool, cases_eq, both_ways}
use Rattle.arbitration.specs.declared.contenders.Contender.{Contender}
use Rattle.arbitration.specs.declared.replies.Answer.TheVariants.{Granted}
use Rattle.arbitration.specs.Contenders.{asks, owns, outranks}
use Rattle.arbitration.specs.Rules.{Bus, foremost, winner, asks_as, by_winner}
use Rattle.arbitration.specs.Scans.{place_of}
use Rattle.arbitration.specs.Winning.{Highest, AnsweredIfFreeAndAsked, HighestAskerWins}
use Rattle.arbitration.proofs.Finding.{NoneBelow, none_on, position_is}

-- of the first n contenders, the one at b is the first of the highest level that asks
pub record BestAt (cs : List Contender) (n b : ℕ) : Type 0 where
  pub within : b < n
  pub asker : (d : Contender) → asks (get_or cs b d) ≡ true
  pub upto : (k : ℕ) (d : Contender) → k < n → asks (get_or cs k d) ≡ true → (get_or cs k d).level ≤ (get_or cs b d).level
  pub before : (k : ℕ) (d : Contender) → k < b → asks (get_or cs k d) ≡ true → (get_or cs k d).level < (get_or cs b d).level

abbrev pub Best : List Contender → ℕ → Option ℕ → Type 0
Best cs n None = NoneBelow asks cs n
Best cs n (Some b) = BestAt cs n b

-- ---- one step on
module _ (cs : List Contender) (i : ℕ) (d : Contender) (lt : i < length cs) where
  pub best_passes : (o : Option ℕ) → Best cs i o → false ≡ asks (get_or cs i d) → Best cs (i + 1) o
  best_passes None h n = none_on asks cs i d lt h (sym n)
  best_passes (Some b) h n = record {
    within = omega (arith, h.within);
    asker = h.asker;
    upto = λ k e l a. ⊎_elim (λ is. absurd (both_ways _ (rw is (rw (get_or_default cs i e d lt) (sym n))) a)) (λ ne. h.upto k e (omega arith) a) (cases_eq k i);
    before = h.before;
  }

  pub best_keeps : (o : Option ℕ) (b : ℕ) → o ≡ Some b → Best cs i o → (get_or cs i d).level ≤ (get_or cs b d).level → BestAt cs (i + 1) b
  best_keeps o b is was le =
      let h : BestAt cs i b = subst (Best cs i) is was in
      record {
        within = omega (arith, h.within);
        asker = h.asker;
        upto = λ k e l a. ⊎_elim (λ is. rw (is, get_or_default cs i e d lt, get_or_default cs b e d (omega (arith, h.within))) le) (λ ne. h.upto k e (omega arith) a) (cases_eq k i);
        before = h.before;
      }

  pub best_takes : (o : Option ℕ) (b : ℕ) → o ≡ Some b → Best cs i o → (get_or cs b d).level < (get_or cs i d).level → true ≡ asks (get_or cs i d) → BestAt cs (i + 1) i
  best_takes o b is was le a =
      let h : BestAt cs i b = subst (Best cs i) is was in
      let below : (k : ℕ) (e : Contender) → k < i → asks (get_or cs k e) ≡ true → (get_or cs k e).level < (get_or cs i e).level
      = λ k e l y. rw (get_or_default cs i e d lt) (omega (arith, h.upto k e l y, ap (λ (c : Contender). c.level) (get_or_default cs b e d (omega (arith, h.within))))) in
      record {
        within = omega arith;
        asker = λ e. rw (get_or_default cs i e d lt) (sym a);
        upto = λ k e l y. ⊎_elim (λ is. rw is (omega arith)) (λ ne. omega (arith, below k e (omega arith) y)) (cases_eq k i);
        before = below;
      }

  pub best_starts : (o : Option ℕ) → o ≡ None → Best cs i o → true ≡ asks (get_or cs i d) → BestAt cs (i + 1) i
  best_starts o is was a =
      let h : NoneBelow asks cs i = subst (Best cs i) is was in
      record {
        within = omega arith;
        asker = λ e. rw (get_or_default cs i e d lt) (sym a);
        upto = λ k e l y. ⊎_elim (λ is. rw is (omega arith)) (λ ne. absurd (both_ways _ (h k e (omega arith)) y)) (cases_eq k i);
        before = λ k e l y. absurd (both_ways _ (h k e l) y);
      }

-- ---- the end of the loop
no_winner : (cs : List Contender) → NoneBelow asks cs (length cs) → winner cs ≡ None
no_winner [] h = refl
no_winner (c ∷ cs) h = cond-false _ _ _ (h 0 c (omega arith)) ∙ no_winner cs (λ k d lt. h (suc k) d (omega arith))

-- the winner, if any, is of level m at most
abbrev Upto : ℕ → Option Contender → Type 0
Upto m None = Unit {0}
Upto m (Some w) = w.level ≤ m

winner_upto : (m : ℕ) (cs : List Contender) → ((k : ℕ) (d : Contender) → k < length cs → asks (get_or cs k d) ≡ true → (get_or cs k d).level ≤ m) → Upto m (winner cs)
winner_upto m [] h = tt
winner_upto m (c ∷ cs) h =
    let rest = winner_upto m cs (λ k d lt a. h (suc k) d (omega arith) a) in
    (elim (asks c) as (λ t. asks c ≡ t → Upto m (cond t (Some (foremost c (winner cs))) (winner cs))) [
      | true ↦ λ a. (elim (winner cs) as (λ o. Upto m o → (foremost c o).level ≤ m) [
        | None ↦ λ _. h 0 c (omega arith) a
        | Some w ↦ λ le. cond_both (outranks w c) w c (λ (x : Contender). x.level ≤ m) (λ _. le) (λ _. h 0 c (omega arith) a)
      ]) rest
      | false ↦ λ _. rest
    ]) refl

foremost_top : (c : Contender) (o : Option Contender) → Upto c.level o → foremost c o ≡ c
foremost_top c None h = refl
foremost_top c (Some w) h = cond-false _ _ _ (le-ltb c.level w.level h)

best_wins : (cs : List Contender) (b : ℕ) → BestAt cs (length cs) b → (d : Contender) → winner cs ≡ Some (get_or cs b d)
best_wins [] b h d = absurd (omega (arith, h.within))
best_wins (c ∷ cs) zero h d = cond-true _ _ _ (h.asker d) ∙ ap Some (foremost_top c (winner cs) (winner_upto c.level cs (λ k e lt a. h.upto (suc k) e (omega arith) a)))
best_wins (c ∷ cs) (suc b) h d =
    let rest : winner cs ≡ Some (get_or cs b d) = best_wins cs b (record { within = omega (arith, h.within); asker = λ e. h.asker e; upto = λ k e lt a. h.upto (suc k) e (omega arith) a; before = λ k e lt a. h.before (suc k) e (omega arith) a }) d in
    (elim (asks c) as (λ t. asks c ≡ t → cond t (Some (foremost c (winner cs))) (winner cs) ≡ Some (get_or cs b d)) [
      | true ↦ λ a. ap (λ o. Some (foremost c o)) rest ∙ ap Some (cond-true _ _ _ (lt-ltb c.level (get_or cs b d).level (h.before 0 d (omega arith) a)))
      | false ↦ λ _. rest
    ]) refl

pub best_done : (cs : List Contender) (o : Option ℕ) → Best cs (length cs) o → o ≡ place_of (winner cs) cs
best_done cs None h = ap (λ w. place_of w cs) (sym (no_winner cs h))
best_done [] (Some b) h = absurd (omega (arith, h.within))
best_done (c ∷ cs) (Some b) h =
    let w : Contender = get_or (c ∷ cs) b c in
    let first = position_or_len_is (asks_as w) (c ∷ cs) b c (omega (arith, h.within))
    (λ k lt. ⊎_elim
    (λ a. and_right _ _ (ne_eqb (get_or (c ∷ cs) k c).level w.level (λ l. omega (arith, h.before k c lt a))))
    (λ n. and_left _ _ n)
    (cases_Bool (asks (get_or (c ∷ cs) k c))))
    (λ _. and_from _ _ (h.asker c) (eq-eqb _ _ refl)) in
    sym (position_is (asks_as w) (c ∷ cs) b first h.within) ∙ ap (λ o. place_of o (c ∷ cs)) (sym (best_wins (c ∷ cs) b h c))

-- ---- the winner has the highest level that asks
abbrev above : ℕ → Contender → Bool
above l c = asks c && ltb l c.level

-- a winner that is there is the highest
abbrev pub Tops : List Contender → Option Contender → Type 0
Tops cs None = list_any asks cs ≡ false
Tops cs (Some w) = Highest cs w.level

module _ (c : Contender) (cs : List Contender) where
  higher_still : (w : Contender) → Highest cs w.level → above w.level c ≡ false → Highest (c ∷ cs) w.level
  higher_still w h low = record { asks_itself = or_right _ _ h.asks_itself; none_above = or_from _ _ low h.none_above }

  -- c asks, and nobody who asks in the rest goes before it
  on_top : asks c ≡ true → list_any (above c.level) cs ≡ false → Highest (c ∷ cs) c.level
  on_top a none = record { asks_itself = or_left _ _ (and_from _ _ a (eq-eqb _ _ refl)); none_above = or_from _ _ (and_right _ _ (le-ltb c.level c.level (omega arith))) none }

-- whoever asks above l asks above a lower m too
above_less : (l m : ℕ) → m ≤ l → (cs : List Contender) → list_any (above m) cs ≡ false → list_any (above l) cs ≡ false
above_less l m le [] h = refl
above_less l m le (c ∷ cs) h =
    let parts = or_parts (above m c) (list_any (above m) cs) h in
    or_from _ _ (⊎_elim (λ no. and_left _ _ no) (λ low. and_right _ _ (le-ltb l c.level (omega (arith, ltb-false m c.level low)))) (and_cases (asks c) (ltb m c.level) parts.0)) (above_less l m le cs parts.1)

none_above_none : (l : ℕ) (cs : List Contender) → list_any asks cs ≡ false → list_any (above l) cs ≡ false
none_above_none l [] h = refl
none_above_none l (c ∷ cs) h = let parts = or_parts (asks c) (list_any asks cs) h in or_from _ _ (and_left _ _ parts.0) (none_above_none l cs parts.1)

foremost_tops : (c : Contender) (cs : List Contender) (o : Option Contender) → Tops cs o → asks c ≡ true → Highest (c ∷ cs) (foremost c o).level
foremost_tops c cs None h a = on_top c cs a (none_above_none c.level cs h)
foremost_tops c cs (Some w) h a =
    cond_both (outranks w c) w c (λ (x : Contender). Highest (c ∷ cs) x.level)
    (λ e. higher_still c cs w h (and_right _ _ (le-ltb w.level c.level (omega (arith, ltb-true c.level w.level e)))))
    (λ e. on_top c cs a (above_less c.level w.level (ltb-false c.level w.level e) cs h.none_above))

tops_behind : (c : Contender) (cs : List Contender) (o : Option Contender) → Tops cs o → asks c ≡ false → Tops (c ∷ cs) o
tops_behind c cs None h a = or_from _ _ a h
tops_behind c cs (Some w) h a = higher_still c cs w h (and_left _ _ a)

pub winner_tops : (cs : List Contender) → Tops cs (winner cs)
winner_tops [] = refl
winner_tops (c ∷ cs) =
    (elim (asks c) as (λ t. asks c ≡ t → Tops (c ∷ cs) (cond t (Some (foremost c (winner cs))) (winner cs))) [
      | true ↦ λ a. foremost_tops c cs (winner cs) (winner_tops cs) a
      | false ↦ λ a. tops_behind c cs (winner cs) (winner_tops cs) a
    ]) refl

granted_top : (cs : List Contender) (o : Option Contender) (l : ℕ) → Tops cs o → by_winner o ≡ Ok (Granted l) → Highest cs l
granted_top cs None l h e = absurd (true≢false (sym (ap is_ok e)))
granted_top cs (Some w) l h e = let same : w.level ≡ l = cc in subst (Highest cs) same h

pub highest_asker_wins : (b : Bus) → HighestAskerWins b
highest_asker_wins b l =
    elim (list_any owns b.contenders) as (λ t. cond t (Err 22) (by_winner (winner b.contenders)) ≡ Ok (Granted l) → Highest b.contenders l) [
      | true ↦ λ e. absurd (true≢false (sym (ap is_ok e)))
      | false ↦ λ e. granted_top b.contenders (winner b.contenders) l (winner_tops b.contenders) e
    ]

-- ---- when an arbitration is answered
-- there is a winner exactly if somebody asks
pub some_winner : (cs : List Contender) → is_ok (by_winner (winner cs)) ≡ list_any asks cs
some_winner [] = refl
some_winner (c ∷ cs) = elim (asks c) as (λ t. is_ok (by_winner (cond t (Some (foremost c (winner cs))) (winner cs))) ≡ (t || list_any asks cs)) [ true ↦ refl | false ↦ some_winner cs ]

pub answered_if_free_and_asked : (b : Bus) → AnsweredIfFreeAndAsked b
answered_if_free_and_asked b =
    elim (list_any owns b.contenders) as (λ t. is_ok (cond t (Err 22) (by_winner (winner b.contenders))) ≡ (not t && list_any asks b.contenders)) [ true ↦ refl | false ↦ some_winner b.contenders ]
