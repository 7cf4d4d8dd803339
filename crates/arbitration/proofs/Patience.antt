-- Waiting is bounded: the potential over lists of events.
use Rattle.std.proofs.Common.{◌≡◌, ℕ, ◌+◌, ◌≤◌, Bool, true, false, cond, ◌||◌, List, [], ◌∷◌, ◌++◌, is_ok, Some, None, Ok, Err, Option, sym, refl, ap, ◌∙◌, subst, arith, find}
use Rattle.std.proofs.lemmas.Bool.{cond_both, cond-false, both_ways, or_parts, or_right, not-true}
use Rattle.arbitration.specs.declared.contenders.State.{State}
use Rattle.arbitration.specs.declared.contenders.State.TheVariants.{Idle, Waits, Asks, Owns}
use Rattle.arbitration.specs.declared.contenders.Move.{Move}
use Rattle.arbitration.specs.declared.contenders.Move.TheVariants as move
use Rattle.arbitration.specs.declared.contenders.Contender.{Contender}
use Rattle.arbitration.specs.declared.replies.Answer.TheVariants.{Asking, Waiting}
use Rattle.arbitration.specs.declared.replies.Event.{Event}
use Rattle.arbitration.specs.declared.replies.Event.TheVariants.{Wish, Withdraw, Arbitrate, Release}
use Rattle.std.specs.List.{list_any}
use Rattle.arbitration.specs.Lists.{count, holds}
use Rattle.arbitration.specs.Contenders.{same_state, idle, waits, asks, owns, wishes, prioritised, at_level, put, allows, told, reached, refusal_of, moved}
use Rattle.arbitration.specs.Rules.{Bus, its, settled, made, winner, asks_as, granted, arbitrated, by_contender, by_winner, move_answer, answer, after_move, after}
use Rattle.arbitration.specs.Sound.{calm}
use Rattle.arbitration.specs.Waiting.{after_all, granted_by, grants, WishesThrough, other, rival, rivals, to_others, to_prioritised, Bounded, WaitingIsBounded}
use Rattle.arbitration.proofs.Changing.{one_if, first_map}
use Rattle.arbitration.proofs.Firsts.{first_excludes, first_not}
use Rattle.arbitration.proofs.Grants.{Askers, winner_asks, first_asker, one_or_other}
use Rattle.arbitration.proofs.Keeping.{SoundBus, sound_after}
use Rattle.arbitration.proofs.Potential.{pot_le, phi, asking, asking_le, rivals_by_roster, wishes_settled, phi_settled, phi_made, phi_granted}
use Rattle.arbitration.proofs.Rosters.{roster_made, roster_after, by_roster}
use Rattle.arbitration.proofs.Winning.{some_winner}
use Rattle.arbitration.proofs.States.{never_waits, still_fails, idle_wishes, idle_waits}

-- ---- counting
pub count_append : {A : Type 0} (p : A → Bool) (xs ys : List A) → count p (xs ++ ys) ≡ count p xs + count p ys
count_append p [] ys = omega arith
count_append p (x ∷ xs) ys = omega (arith, count_append p xs ys)

count_same : {A : Type 0} (p q : A → Bool) → ((x : A) → p x ≡ q x) → (xs : List A) → count p xs ≡ count q xs
count_same p q h [] = refl
count_same p q h (x ∷ xs) = λ j. one_if (h x j) + count_same p q h xs j

-- a move grants nothing
told_none : (m : Move) (s : State) → granted_by (Ok (told m s)) ≡ []
told_none move.Wish s = elim (same_state Asks s) as (λ t. granted_by (Ok (cond t Asking Waiting)) ≡ []) [ true ↦ refl | false ↦ refl ]
told_none move.Withdraw s = refl
told_none move.Release s = refl

pub move_grants : (m : Move) (l : ℕ) (b : Bus) → granted_by (move_answer m l b) ≡ []
move_grants m l b = elim (find (at_level l) b.contenders) as (λ o. granted_by (by_contender m b.inhibit o) ≡ []) [
  | None ↦ refl
  | Some c ↦ cond_both (allows m c.state) (Ok (told m (reached m c.access b.inhibit))) (Err (refusal_of m)) (λ r. granted_by r ≡ []) (λ _. told_none m (reached m c.access b.inhibit)) (λ _. refl)
]

module _ (x : ℕ) where
  -- the grants that went to other assured contenders
  abbrev pub to_rivals : Bus → List ℕ → ℕ
  to_rivals b ls = count (λ l. its l (rival x) b) ls

  -- ---- one event: the potential falls by the grants to other assured contenders
  step_move : (m : Move) (l : ℕ) (b : Bus) → its x wishes b ≡ true → its x wishes (after_move m l b) ≡ true → phi x (after_move m l b) + to_rivals b (granted_by (move_answer m l b)) ≤ phi x b
  step_move m l b w =
      rw (move_grants m l b)
      (elim (is_ok (move_answer m l b)) as (λ t. its x wishes (cond t (settled (made m l b)) b) ≡ true → phi x (cond t (settled (made m l b)) b) + 0 ≤ phi x b) [
        | true ↦ λ v.
            let still : its x wishes (made m l b) ≡ true = sym (wishes_settled x (made m l b)) ∙ v in
            omega (arith, phi_settled x (made m l b) still, phi_made x m l b w still)
        | false ↦ λ v. omega arith
      ])

  step_grant : (b : Bus) (o : Option Contender) → Askers b.contenders o → its x wishes b ≡ true → its x wishes (cond (is_ok (by_winner o)) (arbitrated o b) b) ≡ true → phi x (cond (is_ok (by_winner o)) (arbitrated o b) b) + to_rivals b (granted_by (by_winner o)) ≤ phi x b
  step_grant b None h w v = omega arith
  step_grant b (Some c) h w v =
      let still : its x wishes (granted c b) ≡ true = sym (wishes_settled x (granted c b)) ∙ v in
      let same = ap {B = ℕ} one_if (first_asker c (rival x) b.contenders h) in
      omega (arith, phi_settled x (granted c b) still, phi_granted x c b w still, same)

  step_arbitrate : (b : Bus) → SoundBus b → its x wishes b ≡ true → its x wishes (after Arbitrate b) ≡ true → phi x (after Arbitrate b) + to_rivals b (granted_by (answer Arbitrate b)) ≤ phi x b
  step_arbitrate b h w =
      elim (list_any owns b.contenders) as (λ t. its x wishes (cond (is_ok (cond t (Err 22) (by_winner (winner b.contenders)))) (arbitrated (winner b.contenders) b) b) ≡ true → phi x (cond (is_ok (cond t (Err 22) (by_winner (winner b.contenders)))) (arbitrated (winner b.contenders) b) b) + to_rivals b (granted_by (cond t (Err 22) (by_winner (winner b.contenders)))) ≤ phi x b) [
        | true ↦ λ v. omega arith
        | false ↦ λ v. step_grant b (winner b.contenders) (winner_asks b.contenders h.1) w v
      ]

  pub step : (e : Event) (b : Bus) → SoundBus b → its x wishes b ≡ true → its x wishes (after e b) ≡ true → phi x (after e b) + to_rivals b (granted_by (answer e b)) ≤ phi x b
  step (Wish l) b h w v = step_move move.Wish l b w v
  step (Withdraw l) b h w v = step_move move.Withdraw l b w v
  step Arbitrate b h w v = step_arbitrate b h w v
  step (Release l) b h w v = step_move move.Release l b w v

  -- ---- no event changes a level or an access
  its_after : (q : Contender → Bool) → ((c : Contender) → q (put Idle c) ≡ q c) → (e : Event) (b : Bus) (l : ℕ) → its l q (after e b) ≡ its l q b
  its_after q blind e b l = by_roster (λ cs. holds q (find (at_level l) cs)) (first_map q (put Idle) blind (at_level l) (λ c. refl)) (after e b).contenders b.contenders (roster_after e b)

  to_rivals_after : (e : Event) (b : Bus) (ls : List ℕ) → to_rivals (after e b) ls ≡ to_rivals b ls
  to_rivals_after e b = count_same (λ l. its l (rival x) (after e b)) (λ l. its l (rival x) b) (its_after (rival x) (λ c. refl) e b)

  to_prioritised_after : (e : Event) (b : Bus) (ls : List ℕ) → to_prioritised (after e b) ls ≡ to_prioritised b ls
  to_prioritised_after e b = count_same (λ l. its l prioritised (after e b)) (λ l. its l prioritised b) (its_after prioritised (λ c. refl) e b)

  pub rivals_after : (e : Event) (b : Bus) → rivals x (after e b) ≡ rivals x b
  rivals_after e b = rivals_by_roster x (after e b).contenders b.contenders (roster_after e b)

  -- ---- a list of events: the grants to other assured contenders are at most the potential
  pub held : (es : List Event) (b : Bus) → SoundBus b → its x wishes b ≡ true → WishesThrough x es b → to_rivals b (grants es b) ≤ phi x b
  held [] b h w t = omega arith
  held (e ∷ es) b h w t =
      let rest = held es (after e b) (sound_after e b h) t.0 t.1 in
      omega (arith, step e b h w t.0, rest, to_rivals_after e b (grants es (after e b)), count_append (λ l. its l (rival x) b) (granted_by (answer e b)) (grants es (after e b)))

  -- ---- each grant to another went to an assured or to a prioritised contender
  abbrev Split : Bus → List ℕ → Type 0
  Split b ls = to_others x ls ≤ to_rivals b ls + to_prioritised b ls

  split_move : (m : Move) (l : ℕ) (b : Bus) → Split b (granted_by (move_answer m l b))
  split_move m l b = rw (move_grants m l b) (omega arith)

  split_grant : (b : Bus) (o : Option Contender) → Askers b.contenders o → Split b (granted_by (by_winner o))
  split_grant b None h = omega arith
  split_grant b (Some w) h = omega (arith, one_or_other x w.level b.contenders h)

  split_event : (e : Event) (b : Bus) → SoundBus b → Split b (granted_by (answer e b))
  split_event (Wish l) b h = split_move move.Wish l b
  split_event (Withdraw l) b h = split_move move.Withdraw l b
  split_event Arbitrate b h =
      elim (list_any owns b.contenders) as (λ t. Split b (granted_by (cond t (Err 22) (by_winner (winner b.contenders))))) [
        | true ↦ omega arith
        | false ↦ split_grant b (winner b.contenders) (winner_asks b.contenders h.1)
      ]
  split_event (Release l) b h = split_move move.Release l b

  pub split : (es : List Event) (b : Bus) → SoundBus b → Split b (grants es b)
  split [] b h = omega arith
  split (e ∷ es) b h =
      let now = granted_by (answer e b) in
      let later = grants es (after e b) in
      omega (
        arith,
        split_event e b h,
        split es (after e b) (sound_after e b h),
        to_rivals_after e b later,
        to_prioritised_after e b later,
        count_append (other x) now later,
        count_append (λ l. its l (rival x) b) now later,
        count_append (λ l. its l prioritised b) now later,
      )

  -- ---- the first event, at which x comes to wish
  idle_not_wishing : (b : Bus) → its x idle b ≡ true → its x wishes b ≡ false
  idle_not_wishing b i = first_excludes (at_level x) idle wishes (λ c p. idle_wishes c.state p) b.contenders i

  not_by_grant : (b : Bus) (o : Option Contender) → its x idle b ≡ true → its x wishes (arbitrated o b) ≡ false
  not_by_grant b None i = idle_not_wishing b i
  not_by_grant b (Some w) i = wishes_settled x (granted w b) ∙ first_not (at_level x) (asks_as w) (put Owns) (λ c. refl) idle wishes (λ c p. refl) (λ c p. idle_wishes c.state p) b.contenders i

  not_by_arbitrate : (b : Bus) → its x idle b ≡ true → its x wishes (after Arbitrate b) ≡ false
  not_by_arbitrate b i = elim (is_ok (answer Arbitrate b)) as (λ t. its x wishes (cond t (arbitrated (winner b.contenders) b) b) ≡ false) [ true ↦ not_by_grant b (winner b.contenders) i | false ↦ idle_not_wishing b i ]

  -- the event was a move, so it granted nothing
  pub no_grant_yet : (e : Event) (b : Bus) → its x idle b ≡ true → its x wishes (after e b) ≡ true → to_rivals b (granted_by (answer e b)) ≡ 0
  no_grant_yet (Wish l) b i w = ap (to_rivals b) (move_grants move.Wish l b)
  no_grant_yet (Withdraw l) b i w = ap (to_rivals b) (move_grants move.Withdraw l b)
  no_grant_yet Arbitrate b i w = absurd (both_ways _ (not_by_arbitrate b i) w)
  no_grant_yet (Release l) b i w = ap (to_rivals b) (move_grants move.Release l b)

  -- with the inhibit down x asks at once, and the inhibit stays down
  begins : (m : Move) (l n : ℕ) (cs : List Contender) → holds idle (find (at_level x) cs) ≡ true → phi x (after_move m l (record { number = n; contenders = cs; inhibit = false })) ≤ count (rival x) cs
  begins m l n cs i =
      let b : Bus = record { number = n; contenders = cs; inhibit = false } in
      elim (is_ok (move_answer m l b)) as (λ t. phi x (cond t (settled (made m l b)) b) ≤ count (rival x) cs) [
        | true ↦ rw (first_not (at_level x) (at_level l) (moved m false) (λ c. refl) idle waits (λ c p. still_fails (same_state Waits) m c.access false (never_waits m c.access) c.state (idle_waits c.state p)) (λ c p. idle_waits c.state p) cs i)
            (omega (arith, rivals_by_roster x (made m l b).contenders cs (roster_made m l b)))
        | false ↦ rw (first_excludes (at_level x) idle waits (λ c p. idle_waits c.state p) cs i) (omega arith)
      ]

  begins_down : (m : Move) (l : ℕ) (b : Bus) → its x idle b ≡ true → b.inhibit ≡ false → phi x (after_move m l b) ≤ rivals x b
  begins_down m l b i down = subst (λ t. phi x (after_move m l (record { number = b.number; contenders = b.contenders; inhibit = t })) ≤ rivals x b) (sym down) (begins m l b.number b.contenders i)

  pub asks_at_once : (e : Event) (b : Bus) → its x idle b ≡ true → its x wishes (after e b) ≡ true → b.inhibit ≡ false → phi x (after e b) ≤ rivals x b
  asks_at_once (Wish l) b i w down = begins_down move.Wish l b i down
  asks_at_once (Withdraw l) b i w down = begins_down move.Withdraw l b i down
  asks_at_once Arbitrate b i w down = absurd (both_ways _ (not_by_arbitrate b i) w)
  asks_at_once (Release l) b i w down = begins_down move.Release l b i down

-- ---- while somebody wishes and nobody owns, arbitrate is not refused
wisher_asks : (px : Contender → Bool) (cs : List Contender) → list_any waits cs ≡ false → holds wishes (find px cs) ≡ true → list_any asks cs ≡ true
wisher_asks px [] none = λ h. h
wisher_asks px (c ∷ cs) none =
    let parts = or_parts (waits c) (list_any waits cs) none in
    elim (px c) as (λ t. holds wishes (cond t (Some c) (find px cs)) ≡ true → (asks c || list_any asks cs) ≡ true) [
      | true ↦ λ h. elim (asks c) as (λ t. (t || waits c) ≡ true → (t || list_any asks cs) ≡ true) [ true ↦ λ _. refl | false ↦ λ w. absurd (both_ways (waits c) parts.0 w) ] h
      | false ↦ λ h. or_right _ _ (wisher_asks px cs parts.1 h)
    ]

somebody_asks : (px : Contender → Bool) (cs : List Contender) (up : Bool) → calm cs up ≡ true → holds wishes (find px cs) ≡ true → list_any asks cs ≡ true
somebody_asks px cs true quiet w = quiet
somebody_asks px cs false quiet w = wisher_asks px cs (not-true _ quiet) w

pub arbitrate_answered : (x : ℕ) (b : Bus) → SoundBus b → its x wishes b ≡ true → list_any owns b.contenders ≡ false → is_ok (answer Arbitrate b) ≡ true
arbitrate_answered x b h w free = ap is_ok (cond-false _ _ _ free) ∙ some_winner b.contenders ∙ somebody_asks (at_level x) b.contenders b.inhibit h.4 w

-- ---- the law
pub sound_after_all : (es : List Event) (b : Bus) → SoundBus b → SoundBus (after_all es b)
sound_after_all [] b h = h
sound_after_all (e ∷ es) b h = sound_after_all es (after e b) (sound_after e b h)

wishes_at_end : (x : ℕ) (es : List Event) (b : Bus) → its x wishes b ≡ true → WishesThrough x es b → its x wishes (after_all es b) ≡ true
wishes_at_end x [] b w t = w
wishes_at_end x (e ∷ es) b w t = wishes_at_end x es (after e b) t.0 t.1

pub bounded : (x : ℕ) (e : Event) (es : List Event) (b : Bus) → SoundBus b → its x idle b ≡ true → WishesThrough x (e ∷ es) b → Bounded x (e ∷ es) b
bounded x e es b h i t =
    let next = after e b in
    let sound = sound_after e b h in
    let later = grants es next in
    let all = split x (e ∷ es) b h in
    let none = no_grant_yet x e b i t.0 in
    let sum = count_append (λ l. its l (rival x) b) (granted_by (answer e b)) later in
    let moved = to_rivals_after x e b later in
    let most = held x es next sound t.0 t.1 in
    record {
      at_most = omega (arith, all, none, sum, moved, most, rivals_after x e b, pot_le (its x waits next) next.inhibit (asking x next) (rivals x next) (asking_le x next));
      at_most_if_down = λ down. omega (arith, all, none, sum, moved, most, asks_at_once x e b i t.0 down);
      not_refused = arbitrate_answered x (after_all es next) (sound_after_all es next sound) (wishes_at_end x es next t.0 t.1);
    }

pub waiting_is_bounded : (b : Bus) → SoundBus b → WaitingIsBounded b
waiting_is_bounded b h x before e during a i t = bounded x e during (after_all before b) (sound_after_all before b h) i t
