-- The place that a search answers, what is found or amended there, and how many are counted.
use Rattle.std.proofs.Common.{◌≡◌, ℕ, ◌+◌, ◌<◌, ◌%◌, ◌^◌, Bool, true, false, cond, not, ◌||◌, nat_lt, List, [], ◌∷◌, length, get_or, set, Some, None, is_some, find, position, fold, slice_get, ⊎_elim, sym, refl, ap, ◌∙◌, subst, one-add, arith}
use Rattle.std.specs.List.{list_any, position_or_len}
use Rattle.std.proofs.lemmas.List.Folds.{find_at}
use Rattle.std.proofs.lemmas.Option.{slice_get-get_or, slice_get_past}
use Rattle.std.proofs.lemmas.List.{get_or_default}
use Rattle.std.proofs.lemmas.Bool.{cond-true, cases_eq, lt-ltb, ltb-true, ltb-false}
use Rattle.arbitration.specs.Lists.{count, amended}

module _ {A : Type 0} (p : A → Bool) (xs : List A) where
  -- a place that is answered is the first that passes
  pub placed : (i : ℕ) → position p xs ≡ Some i → (position_or_len p xs ≡ i) × (i < length xs)
  placed i =
      (elim (nat_lt (position_or_len p xs) (length xs)) as (λ t. nat_lt (position_or_len p xs) (length xs) ≡ t → cond t (Some (position_or_len p xs)) None ≡ Some i → (position_or_len p xs ≡ i) × (i < length xs)) [
        | true ↦ λ lt e. let same : position_or_len p xs ≡ i = cc in (same, omega (arith, ltb-true _ _ lt))
        | false ↦ λ _ e. absurd cc
      ]) refl

  pub find_placed : (i : ℕ) (d : A) → position p xs ≡ Some i → find p xs ≡ Some (get_or xs i d)
  find_placed i d e = find_at p xs ∙ subst (λ n. slice_get xs n ≡ Some (get_or xs i d)) (sym (placed i e).0) (slice_get-get_or xs i d (placed i e).1)

  pub find_unplaced : position p xs ≡ None → find p xs ≡ None
  find_unplaced =
      (elim (nat_lt (position_or_len p xs) (length xs)) as (λ t. nat_lt (position_or_len p xs) (length xs) ≡ t → cond t (Some (position_or_len p xs)) None ≡ None → find p xs ≡ None) [
        | true ↦ λ _ e. absurd cc
        | false ↦ λ ge _. find_at p xs ∙ slice_get_past xs _ (ltb-false _ _ ge)
      ]) refl

found : {A : Type 0} (p : A → Bool) (xs : List A) → is_some (find p xs) ≡ list_any p xs
found p [] = refl
found p (x ∷ xs) = elim (p x) as (λ t. is_some (cond t (Some x) (find p xs)) ≡ (t || list_any p xs)) [ true ↦ refl | false ↦ found p xs ]

-- a place is answered exactly if an element passes
pub placed_any : {A : Type 0} (p : A → Bool) (xs : List A) → is_some (position p xs) ≡ list_any p xs
placed_any p [] = refl
placed_any p (x ∷ xs) =
    (elim (position p (x ∷ xs)) as (λ o. position p (x ∷ xs) ≡ o → is_some o ≡ is_some (find p (x ∷ xs))) [
      | None ↦ λ e. ap is_some (sym (find_unplaced p (x ∷ xs) e))
      | Some i ↦ λ e. ap is_some (sym (find_placed p (x ∷ xs) i x e))
    ]) refl
    ∙ found p (x ∷ xs)

-- ---- a loop that looks for a place
-- none of the first i elements passes
abbrev pub NoneBelow : {A : Type 0} → (A → Bool) → List A → ℕ → Type 0
NoneBelow {A} p xs i = (k : ℕ) (d : A) → k < i → p (get_or xs k d) ≡ false

pub none_on : {A : Type 0} (p : A → Bool) (xs : List A) (i : ℕ) (d : A) → i < length xs → NoneBelow p xs i → p (get_or xs i d) ≡ false → NoneBelow p xs (i + 1)
none_on p xs i d lt inv n k e l = ⊎_elim (λ is. rw is (rw (get_or_default xs i e d lt) n)) (λ ne. inv k e (omega arith)) (cases_eq k i)

pub position_is : {A : Type 0} (p : A → Bool) (xs : List A) (i : ℕ) → position_or_len p xs ≡ i → i < length xs → position p xs ≡ Some i
position_is p xs i e lt = rw e (cond-true _ _ _ (lt-ltb i (length xs) lt))

-- ---- what is amended, and how many are counted
amended_first : {A : Type 0} (p : A → Bool) (f : A → A) (xs : List A) (d : A) → amended p f xs ≡ set xs (position_or_len p xs) (f (get_or xs (position_or_len p xs) d))
amended_first p f [] d = refl
amended_first p f (x ∷ xs) d =
    elim (p x) as (λ t. cond t (f x ∷ xs) (x ∷ amended p f xs) ≡ set (x ∷ xs) (cond (not t) (1 + position_or_len p xs) 0) (f (get_or (x ∷ xs) (cond (not t) (1 + position_or_len p xs) 0) d))) [
      | true ↦ refl
      | false ↦ rw (one-add (position_or_len p xs)) (ap (λ l. x ∷ l) (amended_first p f xs d))
    ]

pub amended_placed : {A : Type 0} (p : A → Bool) (f : A → A) (xs : List A) (i : ℕ) (d : A) → position p xs ≡ Some i → amended p f xs ≡ set xs i (f (get_or xs i d))
amended_placed p f xs i d e = subst (λ n. amended p f xs ≡ set xs n (f (get_or xs n d))) (placed p xs i e).0 (amended_first p f xs d)

-- how many pass is what a fold that adds one for each comes to, on a list too short for the sum to wrap
pub counted : {A : Type 0} (p : A → Bool) (n : ℕ) (xs : List A) → n + length xs < 2 ^ 64 → fold (λ m x. (m + cond (p x) 1 0) % 2 ^ 64) n xs ≡ n + count p xs
counted p n [] short = omega arith
counted p n (x ∷ xs) short =
    elim (p x) as (λ t. fold (λ m x. (m + cond (p x) 1 0) % 2 ^ 64) ((n + cond t 1 0) % 2 ^ 64) xs ≡ n + (cond t 1 0 + count p xs)) [
      | true ↦
          let next : (n + 1) % 2 ^ 64 ≡ n + 1 = omega (arith, short) in
          rw next (omega (arith, counted p (n + 1) xs (omega (arith, short))))
      | false ↦
          let next : (n + 0) % 2 ^ 64 ≡ n = omega (arith, short) in
          rw next (omega (arith, counted p n xs (omega (arith, short))))
    ]
