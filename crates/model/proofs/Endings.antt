-- One bus: the grants of the events of one call, at which a wish may begin or end.
use Rattle.std.proofs.Common.{◌≡◌, ℕ, ◌+◌, ◌≤◌, Bool, true, false, List, [], ◌∷◌, ◌++◌, length, Ok, Err, Result, sym, refl, ap, ◌∙◌, arith, length-append}
use Rattle.std.proofs.lemmas.Bool.{eq-eqb}
use Rattle.arbitration.specs.declared.contenders.Move.TheVariants as move
use Rattle.arbitration.specs.declared.replies.Answer.{Answer}
use Rattle.arbitration.specs.declared.replies.Answer.TheVariants.{Asking, Waiting, Granted, Done}
use Rattle.arbitration.specs.declared.replies.Event.{Event}
use Rattle.arbitration.specs.declared.replies.Event.TheVariants.{Wish, Withdraw, Arbitrate, Release}
use Rattle.arbitration.specs.Contenders.{wishes}
use Rattle.arbitration.specs.Rules.{Bus, its, answer, after}
use Rattle.arbitration.specs.Waiting.{granted_by, grants, WishesThrough, rival, rivals, to_others, to_prioritised}
use Rattle.arbitration.proofs.Changing.{one_if}
use Rattle.arbitration.proofs.Keeping.{SoundBus}
use Rattle.arbitration.proofs.Patience.{move_grants, to_rivals, split}
use Rattle.model.proofs.Buses.{first_counts, wish_keeps_wishing, wins_itself}
use Rattle.model.proofs.Turns.{Leaving, Trying, Turning}

-- ---- withdrawals and releases bring no grant
leaving_grants : (es : List Event) (b : Bus) → Leaving es → grants es b ≡ []
leaving_grants [] b a = refl
leaving_grants (Wish l ∷ es) b a = absurd a
leaving_grants (Withdraw l ∷ es) b a = (λ j. move_grants move.Withdraw l b j ++ grants es (after (Withdraw l) b)) ∙ leaving_grants es (after (Withdraw l) b) a
leaving_grants (Arbitrate ∷ es) b a = absurd a
leaving_grants (Release l ∷ es) b a = (λ j. move_grants move.Release l b j ++ grants es (after (Release l) b)) ∙ leaving_grants es (after (Release l) b) a

-- a wish brings none either
wish_grants : (l : ℕ) (es : List Event) (b : Bus) → grants (Wish l ∷ es) b ≡ grants es (after (Wish l) b)
wish_grants l es b = λ j. move_grants move.Wish l b j ++ grants es (after (Wish l) b)

-- so the grants are those of the arbitration
arbitrate_grants : (es : List Event) (b : Bus) → Leaving es → grants (Arbitrate ∷ es) b ≡ granted_by (answer Arbitrate b) ++ []
arbitrate_grants es b a = ap (λ ls. granted_by (answer Arbitrate b) ++ ls) (leaving_grants es (after Arbitrate b) a)

-- ---- a call that meets x wishing: as many grants to others as its events have that leave x wishing
module _ (x : ℕ) where
  pub record Cut (es : List Event) (b : Bus) : Type 0 where
    pub events : List Event
    pub through : WishesThrough x events b
    pub others : to_others x (grants es b) ≡ to_others x (grants events b)
    pub prioritised : (d : Bus) → to_prioritised d (grants events b) ≤ to_prioritised d (grants es b)

  -- the same grants, or none
  cut_same : (es fs : List Event) (b : Bus) → WishesThrough x fs b → grants es b ≡ grants fs b → Cut es b
  cut_same es fs b t e = record { events = fs; through = t; others = ap (to_others x) e; prioritised = λ d. omega (arith, ap (to_prioritised d) e) }

  cut_leaving : (es : List Event) (b : Bus) → Leaving es → Cut es b
  cut_leaving es b a = cut_same es [] b tt (leaving_grants es b a)

  -- an arbitration that leaves x wishing, and one that x wins
  cut_arbitrate : (es : List Event) (b : Bus) → Leaving es → its x wishes b ≡ true → Cut (Arbitrate ∷ es) b
  cut_arbitrate es b a w = go (its x wishes (after Arbitrate b)) refl
    where
      go : (t : Bool) → its x wishes (after Arbitrate b) ≡ t → Cut (Arbitrate ∷ es) b
      go true e = cut_same (Arbitrate ∷ es) (Arbitrate ∷ []) b (e, tt) (arbitrate_grants es b a)
      go false e =
          let own : grants (Arbitrate ∷ es) b ≡ x ∷ [] = arbitrate_grants es b a ∙ ap (λ ls. ls ++ []) (wins_itself x b w e) in
          record { events = []; through = tt; others = ap (to_others x) own ∙ rw (eq-eqb x x refl); prioritised = λ d. omega arith }

  cut_trying : (es : List Event) (b : Bus) → Trying es → its x wishes b ≡ true → Cut es b
  cut_trying [] b a w = cut_leaving [] b tt
  cut_trying (Wish l ∷ es) b a w = absurd a
  cut_trying (Withdraw l ∷ es) b a w = cut_leaving (Withdraw l ∷ es) b a
  cut_trying (Arbitrate ∷ es) b a w = cut_arbitrate es b a w
  cut_trying (Release l ∷ es) b a w = cut_leaving (Release l ∷ es) b a

  pub cut_turning : (es : List Event) (b : Bus) → Turning es → its x wishes b ≡ true → Cut es b
  cut_turning [] b a w = cut_leaving [] b tt
  cut_turning (Wish l ∷ es) b a w =
      let on : its x wishes (after (Wish l) b) ≡ true = wish_keeps_wishing l x b w in
      let r : Cut es (after (Wish l) b) = cut_trying es (after (Wish l) b) a on in
      record {
        events = Wish l ∷ r.events;
        through = (on, r.through);
        others = ap (to_others x) (wish_grants l es b) ∙ r.others ∙ sym (ap (to_others x) (wish_grants l r.events b));
        prioritised = λ d. omega (arith, r.prioritised d, ap (to_prioritised d) (wish_grants l es b), ap (to_prioritised d) (wish_grants l r.events b));
      }
  cut_turning (Withdraw l ∷ es) b a w = cut_leaving (Withdraw l ∷ es) b a
  cut_turning (Arbitrate ∷ es) b a w = cut_arbitrate es b a w
  cut_turning (Release l ∷ es) b a w = cut_leaving (Release l ∷ es) b a

-- ---- a call by itself: at most one grant
pub one_grant : (r : Result Answer ℕ) → length (granted_by r) ≤ 1
one_grant (Ok Asking) = omega arith
one_grant (Ok Waiting) = omega arith
one_grant (Ok (Granted l)) = omega arith
one_grant (Ok Done) = omega arith
one_grant (Err n) = omega arith

trying_few : (es : List Event) (b : Bus) → Trying es → length (grants es b) ≤ 1
trying_few [] b a = omega arith
trying_few (Wish l ∷ es) b a = absurd a
trying_few (Withdraw l ∷ es) b a = omega (arith, ap length (leaving_grants (Withdraw l ∷ es) b a))
trying_few (Arbitrate ∷ es) b a = omega (arith, ap length (arbitrate_grants es b a), length-append (granted_by (answer Arbitrate b)) [], one_grant (answer Arbitrate b))
trying_few (Release l ∷ es) b a = omega (arith, ap length (leaving_grants (Release l ∷ es) b a))

turning_few : (es : List Event) (b : Bus) → Turning es → length (grants es b) ≤ 1
turning_few [] b a = omega arith
turning_few (Wish l ∷ es) b a = omega (arith, ap length (wish_grants l es b), trying_few es (after (Wish l) b) a)
turning_few (Withdraw l ∷ es) b a = trying_few (Withdraw l ∷ es) b a
turning_few (Arbitrate ∷ es) b a = trying_few (Arbitrate ∷ es) b a
turning_few (Release l ∷ es) b a = trying_few (Release l ∷ es) b a

-- one grant at most to a rival, where there is one
few_rivals : (x : ℕ) (b : Bus) (ls : List ℕ) → length ls ≤ 1 → to_rivals x b ls ≤ rivals x b
few_rivals x b [] few = omega arith
few_rivals x b (l ∷ []) few = go (its l (rival x) b) refl
  where
    go : (t : Bool) → its l (rival x) b ≡ t → one_if (its l (rival x) b) + 0 ≤ rivals x b
    go true e = omega (arith, ap {B = ℕ} one_if e, first_counts _ (rival x) b.contenders e)
    go false e = omega (arith, ap {B = ℕ} one_if e)
few_rivals x b (l ∷ k ∷ ls) few = absurd (omega arith)

pub alone : (x : ℕ) (es : List Event) (b : Bus) → SoundBus b → Turning es → to_others x (grants es b) ≤ rivals x b + to_prioritised b (grants es b)
alone x es b h a = omega (arith, split x es b h, few_rivals x b (grants es b) (turning_few es b a))
