-- Adding a contender.
use Rattle.std.proofs.Common.{◌≡◌, ℕ, ◌<◌, ◌≤◌, Bool, true, false, cond, not, nat_le, List, [], ◌∷◌, ◌++◌, length, is_ok, Some, None, Ok, Err, Option, Result, sym, refl, ap, ◌∙◌, subst, arith}
use Rattle.std.proofs.lemmas.Bool.{cond-true, cond-false, and_from, le-leb, lt-leb, leb-false}
use Rattle.arbitration.specs.declared.contenders.Access.{Access}
use Rattle.arbitration.specs.declared.contenders.Contender.{Contender}
use Rattle.std.specs.List.{list_any}
use Rattle.arbitration.specs.Contenders.{at_level}
use Rattle.arbitration.specs.Rules.{Bus, highest_level, in_range, add_refusal, newcomer}
use Rattle.arbitration.specs.declared.replies.Reason.{Reason}
use Rattle.arbitration.specs.Calls.{refusal_in}
use Rattle.arbitration.specs.Sound.{Sound}
use Rattle.arbitration.proofs.Keeping.{sound_added}

pub fits : (l : ℕ) (a : Access) (top : ℕ) → top ≡ highest_level a → 1 ≤ l → l ≤ top → in_range l a ≡ true
fits l a top is low high = and_from _ _ (le-leb 1 l low) (le-leb l (highest_level a) (omega arith))

pub level_taken : (l : ℕ) (a : Access) (b : Bus) → length b.contenders < 16 → in_range l a ≡ true → list_any (at_level l) b.contenders ≡ true → add_refusal l a b ≡ Some 3
level_taken l a b few ranged taken = cond-false _ _ _ (lt-leb 16 (length b.contenders) few) ∙ cond-false _ _ _ (ap not ranged) ∙ cond-true _ _ _ taken

pub level_free : (l : ℕ) (a : Access) (b : Bus) → length b.contenders < 16 → in_range l a ≡ true → list_any (at_level l) b.contenders ≡ false → add_refusal l a b ≡ None
level_free l a b few ranged free = cond-false _ _ _ (lt-leb 16 (length b.contenders) few) ∙ cond-false _ _ _ (ap not ranged) ∙ cond-false _ _ _ free

-- what is not refused passed every test
pub admitted : (l : ℕ) (a : Access) (b : Bus) → add_refusal l a b ≡ None → (length b.contenders < 16) × (in_range l a ≡ true) × (list_any (at_level l) b.contenders ≡ false)
admitted l a b =
    let full = nat_le 16 (length b.contenders) in
    let ranged = in_range l a in
    let taken = list_any (at_level l) b.contenders in
    (elim full as (λ t. full ≡ t → cond {A = Option ℕ} t (Some 6) (cond (not ranged) (Some 2) (cond taken (Some 3) None)) ≡ None → (length b.contenders < 16) × (ranged ≡ true) × (taken ≡ false)) [
      | true ↦ λ _ e. absurd cc
      | false ↦ λ few. elim ranged as (λ t. cond {A = Option ℕ} (not t) (Some 2) (cond taken (Some 3) None) ≡ None → (length b.contenders < 16) × (t ≡ true) × (taken ≡ false)) [
        | true ↦ elim taken as (λ t. cond {A = Option ℕ} t (Some 3) None ≡ None → (length b.contenders < 16) × (true ≡ true) × (t ≡ false)) [
          | true ↦ λ e. absurd cc
          | false ↦ λ _. (leb-false 16 (length b.contenders) few, refl, refl)
        ]
        | false ↦ λ e. absurd cc
      ]
    ]) refl

pub not_refused : (r : Result (Unit {0}) Reason) → is_ok r ≡ true → refusal_in r ≡ None
not_refused (Ok x) e = refl
not_refused (Err e) h = absurd cc

-- ys are the contenders after a push that may have found no memory
pub sound_pushed : (xs ys : List Contender) (ok inhibit : Bool) (l : ℕ) (a : Access) → ys ≡ cond ok (xs ++ newcomer l a ∷ []) xs → Sound xs inhibit → length xs < 16 → in_range l a ≡ true → list_any (at_level l) xs ≡ false → Sound ys inhibit
sound_pushed xs ys ok inhibit l a e h few ranged free =
    subst (λ zs. Sound zs inhibit) (sym e) (elim ok as (λ t. Sound (cond t (xs ++ newcomer l a ∷ []) xs) inhibit) [ true ↦ sound_added xs inhibit l a h few ranged free | false ↦ h ])
