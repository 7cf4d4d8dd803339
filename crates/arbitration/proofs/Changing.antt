-- What a change of one element, or of all, does to `list_any`, `list_all`, `count` and `find`.
use Rattle.std.proofs.Common.{◌≡◌, ℕ, ◌+◌, ◌≤◌, Bool, true, false, cond, ◌&&◌, ◌||◌, List, [], ◌∷◌, ◌++◌, map, Some, refl, ap, ◌∙◌, arith, find}
use Rattle.std.proofs.Math.Bool.{or-false}
use Rattle.std.proofs.lemmas.List.Folds.{list_any-append, list_all-append}
use Rattle.std.proofs.lemmas.Bool.{or_parts, or_from, and_from}
use Rattle.std.specs.List.{list_any, list_all}
use Rattle.arbitration.specs.Lists.{count, holds, amended}

-- 1 for a test that passes
abbrev pub one_if : Bool → ℕ
one_if t = cond t 1 0

module _ {A : Type 0} where
  -- ---- f keeps the test q
  module _ (q : A → Bool) (f : A → A) (same : (x : A) → q (f x) ≡ q x) where
    pub all_map : (xs : List A) → list_all q (map f xs) ≡ list_all q xs
    all_map [] = refl
    all_map (x ∷ xs) = λ j. same x j && all_map xs j

    pub count_map : (xs : List A) → count q (map f xs) ≡ count q xs
    count_map [] = refl
    count_map (x ∷ xs) = λ j. one_if (same x j) + count_map xs j

    -- the first that passes p, which f keeps too
    pub first_map : (p : A → Bool) → ((x : A) → p (f x) ≡ p x) → (xs : List A) → holds q (find p (map f xs)) ≡ holds q (find p xs)
    first_map p kept [] = refl
    first_map p kept (x ∷ xs) = (λ j. holds q (cond (kept x j) (Some (f x)) (find p (map f xs)))) ∙ (elim (p x) as (λ t. holds q (cond t (Some (f x)) (find p (map f xs))) ≡ holds q (cond t (Some x) (find p xs))) [ true ↦ same x | false ↦ first_map p kept xs ])

  -- ---- the first that passes p is changed by f
  module _ (p : A → Bool) (f : A → A) where
    -- one that fails q still fails it
    pub any_amended_none : (q : A → Bool) → ((x : A) → q x ≡ false → q (f x) ≡ false) → (xs : List A) → list_any q xs ≡ false → list_any q (amended p f xs) ≡ false
    any_amended_none q h [] e = e
    any_amended_none q h (x ∷ xs) e =
        let parts = or_parts (q x) (list_any q xs) e in
        elim (p x) as (λ t. list_any q (cond t (f x ∷ xs) (x ∷ amended p f xs)) ≡ false) [
          | true ↦ or_from _ _ (h x parts.0) parts.1
          | false ↦ or_from _ _ parts.0 (any_amended_none q h xs parts.1)
        ]

    pub count_amended_le : (q : A → Bool) → ((x : A) → one_if (q (f x)) ≤ one_if (q x)) → (xs : List A) → count q (amended p f xs) ≤ count q xs
    count_amended_le q h [] = omega arith
    count_amended_le q h (x ∷ xs) =
        elim (p x) as (λ t. count q (cond t (f x ∷ xs) (x ∷ amended p f xs)) ≤ one_if (q x) + count q xs) [
          | true ↦ omega (arith, h x)
          | false ↦ omega (arith, count_amended_le q h xs)
        ]

    pub count_amended_more : (q : A → Bool) (xs : List A) → count q (amended p f xs) ≤ count q xs + 1
    count_amended_more q [] = omega arith
    count_amended_more q (x ∷ xs) =
        elim (p x) as (λ t. count q (cond t (f x ∷ xs) (x ∷ amended p f xs)) ≤ one_if (q x) + count q xs + 1) [
          | true ↦ elim (q (f x)) as (λ u. one_if u + count q xs ≤ one_if (q x) + count q xs + 1) [ true ↦ omega arith | false ↦ omega arith ]
          | false ↦ omega (arith, count_amended_more q xs)
        ]

    -- the changed one no longer passes q; where it passed r, it passed q before
    pub count_amended_drop : (q r : A → Bool) → ((x : A) → q (f x) ≡ false) → ((x : A) → p x ≡ true → one_if (r x) ≤ one_if (q x)) → (xs : List A) → count q (amended p f xs) + one_if (holds r (find p xs)) ≤ count q xs
    count_amended_drop q r out had [] = omega arith
    count_amended_drop q r out had (x ∷ xs) =
        (elim (p x) as (λ t. p x ≡ t → count q (cond t (f x ∷ xs) (x ∷ amended p f xs)) + one_if (holds r (cond t (Some x) (find p xs))) ≤ one_if (q x) + count q xs) [
          | true ↦ λ e. omega (arith, had x e, ap {B = ℕ} one_if (out x))
          | false ↦ λ e. omega (arith, count_amended_drop q r out had xs)
        ]) refl

  pub count_le : (q r : A → Bool) → ((x : A) → one_if (q x) ≤ one_if (r x)) → (xs : List A) → count q xs ≤ count r xs
  count_le q r h [] = omega arith
  count_le q r h (x ∷ xs) = omega (arith, h x, count_le q r h xs)

  pub count_none : (q : A → Bool) (xs : List A) → list_any q xs ≡ false → count q xs ≡ 0
  count_none q [] e = refl
  count_none q (x ∷ xs) e = let parts = or_parts (q x) (list_any q xs) e in omega (arith, ap {B = ℕ} one_if parts.0, count_none q xs parts.1)

  pub any_map_none : (q : A → Bool) (f : A → A) → ((x : A) → q (f x) ≡ false) → (xs : List A) → list_any q (map f xs) ≡ false
  any_map_none q f h [] = refl
  any_map_none q f h (x ∷ xs) = or_from _ _ (h x) (any_map_none q f h xs)

  -- ---- one more at the end, which fails the test
  module _ (q : A → Bool) (n : A) (out : q n ≡ false) where
    pub any_push : (xs : List A) → list_any q (xs ++ n ∷ []) ≡ list_any q xs
    any_push xs = list_any-append q xs (n ∷ []) ∙ ap (λ t. list_any q xs || (t || false)) out ∙ or-false _

    pub count_push : (xs : List A) → count q (xs ++ n ∷ []) ≡ count q xs
    count_push [] = ap {B = ℕ} (λ t. one_if t + 0) out
    count_push (x ∷ xs) = ap (λ m. one_if (q x) + m) (count_push xs)

  pub all_push : (q : A → Bool) (n : A) → q n ≡ true → (xs : List A) → list_all q xs ≡ true → list_all q (xs ++ n ∷ []) ≡ true
  all_push q n fits xs h = list_all-append q xs (n ∷ []) ∙ and_from _ _ h (and_from _ _ fits refl)
