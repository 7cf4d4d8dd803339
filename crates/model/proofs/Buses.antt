-- One bus: who owns it after an event, who wished before one, and how a wish ends.
use Rattle.std.proofs.Common.{◌≡◌, ℕ, ◌+◌, ◌≤◌, Bool, true, false, cond, ◌||◌, List, [], ◌∷◌, is_ok, Some, None, Err, sym, refl, ap, ◌∙◌, subst, arith, find}
use Rattle.std.proofs.lemmas.Bool.{both_ways, and_parts, cond_both, eqb-true, true≢false}
use Rattle.arbitration.specs.declared.contenders.Access.{Access}
use Rattle.arbitration.specs.declared.contenders.State.{State}
use Rattle.arbitration.specs.declared.contenders.State.TheVariants.{Idle, Waits, Asks, Owns}
use Rattle.arbitration.specs.declared.contenders.Move.{Move}
use Rattle.arbitration.specs.declared.contenders.Move.TheVariants as move
use Rattle.arbitration.specs.declared.contenders.Contender.{Contender}
use Rattle.arbitration.specs.declared.replies.Event.{Event}
use Rattle.arbitration.specs.declared.replies.Event.TheVariants.{Wish, Withdraw, Arbitrate, Release}
use Rattle.arbitration.specs.Waiting.{granted_by}
use Rattle.std.specs.List.{list_any}
use Rattle.arbitration.specs.Lists.{count, holds}
use Rattle.arbitration.specs.Contenders.{same_state, allows, at_level, asks, owns, wishes, put, next, moved}
use Rattle.arbitration.specs.Rules.{Bus, its, empty, settled, made, winner, asks_as, granted, arbitrated, by_winner, move_answer, answer, after_move, after}
use Rattle.arbitration.proofs.Changing.{one_if}
use Rattle.arbitration.proofs.Keeping.{SoundBus}
use Rattle.arbitration.proofs.Potential.{its_settled}
use Rattle.arbitration.proofs.States.{woken_owns, woken_wishes}
use Rattle.model.proofs.Basics.{by_eq, first_stays, first_was}

-- ---- P of the bus after a move or an arbitration, from P of the bus before, and after the change and settling
moved_cases : (P : Bus → Type 0) (m : Move) (k : ℕ) (b : Bus) → P b → P (settled (made m k b)) → P (after_move m k b)
moved_cases P m k b was is = cond_both (is_ok (move_answer m k b)) (settled (made m k b)) b P (λ _. is) (λ _. was)

arbitrated_cases : (P : Bus → Type 0) (b : Bus) → P b → ((w : Contender) → P (settled (granted w b))) → P (after Arbitrate b)
arbitrated_cases P b was is =
    cond_both (is_ok (answer Arbitrate b)) (arbitrated (winner b.contenders) b) b P
    (λ _. elim (winner b.contenders) as (λ o. P (arbitrated o b)) [ None ↦ was | Some w ↦ is w ]) (λ _. was)

-- ---- no event changes the number, and none happens where nobody is
number_move : (m : Move) (k : ℕ) (b : Bus) → (after_move m k b).number ≡ b.number
number_move m k b = moved_cases (λ x. x.number ≡ b.number) m k b refl refl

pub number_after : (e : Event) (b : Bus) → (after e b).number ≡ b.number
number_after (Wish l) b = number_move move.Wish l b
number_after (Withdraw l) b = number_move move.Withdraw l b
number_after Arbitrate b = arbitrated_cases (λ x. x.number ≡ b.number) b refl (λ w. refl)
number_after (Release l) b = number_move move.Release l b

pub empty_after : (e : Event) (n : ℕ) → after e (empty n) ≡ empty n
empty_after (Wish l) n = refl
empty_after (Withdraw l) n = refl
empty_after Arbitrate n = refl
empty_after (Release l) n = refl

-- ---- an owner stays one
move_keeps : (m : Move) (k l : ℕ) (b : Bus) → ((d : Contender) → at_level k d ≡ true → at_level l d ≡ true → owns d ≡ true → owns (moved m b.inhibit d) ≡ true) →
    its l owns b ≡ true → its l owns (after_move m k b) ≡ true
move_keeps m k l b h o =
    moved_cases (λ x. its l owns x ≡ true) m k b o
    (its_settled l owns (λ d. woken_owns d.state) (made m k b) ∙ first_stays (at_level l) (at_level k) (moved m b.inhibit) (λ d. refl) owns h b.contenders o)

-- a move that an owner may not make leaves it
owner_stays : (m : Move) → allows m Owns ≡ false → (a : Access) (up : Bool) (s : State) → same_state Owns s ≡ true → same_state Owns (next m a up s) ≡ true
owner_stays m h a up Idle e = absurd (true≢false (sym e))
owner_stays m h a up Waits e = absurd (true≢false (sym e))
owner_stays m h a up Asks e = absurd (true≢false (sym e))
owner_stays m h a up Owns e = rw h

pub wish_keeps : (k l : ℕ) (b : Bus) → its l owns b ≡ true → its l owns (after (Wish k) b) ≡ true
wish_keeps k l b = move_keeps move.Wish k l b (λ d _ _ o. owner_stays move.Wish refl d.access b.inhibit d.state o)

pub withdraw_keeps : (k l : ℕ) (b : Bus) → its l owns b ≡ true → its l owns (after (Withdraw k) b) ≡ true
withdraw_keeps k l b = move_keeps move.Withdraw k l b (λ d _ _ o. owner_stays move.Withdraw refl d.access b.inhibit d.state o)

pub arbitrate_keeps : (l : ℕ) (b : Bus) → its l owns b ≡ true → its l owns (after Arbitrate b) ≡ true
arbitrate_keeps l b o =
    arbitrated_cases (λ x. its l owns x ≡ true) b o
    (λ w. its_settled l owns (λ d. woken_owns d.state) (granted w b) ∙ first_stays (at_level l) (asks_as w) (put Owns) (λ d. refl) owns (λ d _ _ _. refl) b.contenders o)

-- but for a release of its own
pub release_keeps : (k l : ℕ) (b : Bus) → (l ≡ k → ⊥) → its l owns b ≡ true → its l owns (after (Release k) b) ≡ true
release_keeps k l b ne = move_keeps move.Release k l b (λ d p q _. absurd (ne (sym (eqb-true d.level l q) ∙ eqb-true d.level k p)))

-- ---- at most one owns
pub first_counts : {A : Type 0} (p q : A → Bool) (xs : List A) → holds q (find p xs) ≡ true → 1 ≤ count q xs
first_counts p q [] e = absurd (true≢false (sym e))
first_counts p q (x ∷ xs) e =
    (elim (p x) as (λ t. holds q (cond t (Some x) (find p xs)) ≡ true → 1 ≤ one_if (q x) + count q xs) [
      | true ↦ λ a. rw a (omega arith)
      | false ↦ λ a. omega (arith, first_counts p q xs a)
    ]) e

pub one_owner : (l m : ℕ) (b : Bus) → SoundBus b → its l owns b ≡ true → its m owns b ≡ true → l ≡ m
one_owner l m b h = go b.contenders h.3
  where
    go : (ds : List Contender) → count owns ds ≤ 1 → holds owns (find (at_level l) ds) ≡ true → holds owns (find (at_level m) ds) ≡ true → l ≡ m
    go [] few = λ p q. absurd (true≢false (sym p))
    go (d ∷ ds) few =
        let alone : owns d ≡ true → (x : ℕ) → holds owns (find (at_level x) ds) ≡ true → ⊥ = λ o x a.
        let z : 1 + count owns ds ≤ 1 = subst (λ t. one_if t + count owns ds ≤ 1) o few in omega (arith, first_counts (at_level x) owns ds a) in
        (elim (at_level l d) as (λ t. at_level l d ≡ t → holds owns (cond t (Some d) (find (at_level l) ds)) ≡ true → holds owns (find (at_level m) (d ∷ ds)) ≡ true → l ≡ m) [
          | true ↦ λ e p. (elim (at_level m d) as (λ t. at_level m d ≡ t → holds owns (cond t (Some d) (find (at_level m) ds)) ≡ true → l ≡ m) [
            | true ↦ λ q _. sym (eqb-true d.level l e) ∙ eqb-true d.level m q
            | false ↦ λ _ q. absurd (alone p m q)
          ]) refl
          | false ↦ λ _ p. (elim (at_level m d) as (λ t. at_level m d ≡ t → holds owns (cond t (Some d) (find (at_level m) ds)) ≡ true → l ≡ m) [
            | true ↦ λ _ q. absurd (alone q l p)
            | false ↦ λ _ q. go ds (omega arith) p q
          ]) refl
        ]) refl

-- ---- who wishes after a withdrawal, a release or an arbitration wished before
abbrev is_wishing : State → Bool
is_wishing s = same_state Asks s || same_state Waits s

-- where a move leads to idle or nowhere
idle_or_same : (t : Bool) (s : State) → is_wishing (cond t Idle s) ≡ true → is_wishing s ≡ true
idle_or_same true s e = absurd (true≢false (sym e))
idle_or_same false s e = e

wished_before_move : (m : Move) (k x : ℕ) (b : Bus) → ((d : Contender) → wishes (moved m b.inhibit d) ≡ true → wishes d ≡ true) → its x wishes (after_move m k b) ≡ true → its x wishes b ≡ true
wished_before_move m k x b h =
    moved_cases (λ y. its x wishes y ≡ true → its x wishes b ≡ true) m k b (λ w. w)
    (λ w. first_was (at_level x) (at_level k) (moved m b.inhibit) (λ d. refl) wishes h b.contenders (sym (its_settled x wishes (λ d. woken_wishes d.state) (made m k b)) ∙ w))

pub wished_before_withdraw : (k x : ℕ) (b : Bus) → its x wishes (after (Withdraw k) b) ≡ true → its x wishes b ≡ true
wished_before_withdraw k x b = wished_before_move move.Withdraw k x b (λ d. idle_or_same (allows move.Withdraw d.state) d.state)

pub wished_before_release : (k x : ℕ) (b : Bus) → its x wishes (after (Release k) b) ≡ true → its x wishes b ≡ true
wished_before_release k x b = wished_before_move move.Release k x b (λ d. idle_or_same (allows move.Release d.state) d.state)

pub wished_before_arbitrate : (x : ℕ) (b : Bus) → its x wishes (after Arbitrate b) ≡ true → its x wishes b ≡ true
wished_before_arbitrate x b =
    arbitrated_cases (λ y. its x wishes y ≡ true → its x wishes b ≡ true) b (λ w. w)
    (λ v w. first_was (at_level x) (asks_as v) (put Owns) (λ d. refl) wishes (λ d q. absurd (true≢false (sym q))) b.contenders (sym (its_settled x wishes (λ d. woken_wishes d.state) (granted v b)) ∙ w))

-- ---- how a wish goes on, and how an arbitration ends it
wisher_stays : (a : Access) (up : Bool) (s : State) → is_wishing s ≡ true → is_wishing (next move.Wish a up s) ≡ true
wisher_stays a up Idle e = absurd (true≢false (sym e))
wisher_stays a up Waits e = refl
wisher_stays a up Asks e = refl
wisher_stays a up Owns e = absurd (true≢false (sym e))

pub wish_keeps_wishing : (k x : ℕ) (b : Bus) → its x wishes b ≡ true → its x wishes (after (Wish k) b) ≡ true
wish_keeps_wishing k x b w =
    moved_cases (λ y. its x wishes y ≡ true) move.Wish k b w
    (its_settled x wishes (λ d. woken_wishes d.state) (made move.Wish k b)
    ∙ first_stays (at_level x) (at_level k) (moved move.Wish b.inhibit) (λ d. refl) wishes (λ d _ _ v. wisher_stays d.access b.inhibit d.state v) b.contenders w)

-- a grant to another leaves the wish
granted_other : (x : ℕ) (v : Contender) (b : Bus) → (v.level ≡ x → ⊥) → its x wishes b ≡ true → its x wishes (settled (granted v b)) ≡ true
granted_other x v b ne w =
    its_settled x wishes (λ d. woken_wishes d.state) (granted v b)
    ∙ first_stays (at_level x) (asks_as v) (put Owns) (λ d. refl) wishes
    (λ d p q _. absurd (ne (sym (eqb-true d.level v.level (and_parts (asks d) (at_level v.level d) p).1) ∙ eqb-true d.level x q))) b.contenders w

-- so an arbitration that ends the wish of x is won by x
pub wins_itself : (x : ℕ) (b : Bus) → its x wishes b ≡ true → its x wishes (after Arbitrate b) ≡ false → granted_by (answer Arbitrate b) ≡ x ∷ []
wins_itself x b w =
    elim (list_any owns b.contenders) as (λ t. its x wishes (cond (is_ok (cond t (Err 22) (by_winner (winner b.contenders)))) (arbitrated (winner b.contenders) b) b) ≡ false →
    granted_by (cond t (Err 22) (by_winner (winner b.contenders))) ≡ x ∷ []) [
      | true ↦ λ e. absurd (both_ways (its x wishes b) e w)
      | false ↦ elim (winner b.contenders) as (λ o. its x wishes (cond (is_ok (by_winner o)) (arbitrated o b) b) ≡ false → granted_by (by_winner o) ≡ x ∷ []) [
        | None ↦ λ e. absurd (both_ways (its x wishes b) e w)
        | Some v ↦ λ e. by_eq v.level x (v.level ∷ [] ≡ x ∷ []) (λ q. ap (λ l. l ∷ []) q) (λ ne. absurd (both_ways (its x wishes (settled (granted v b))) e (granted_other x v b ne w)))
      ]
    ]
