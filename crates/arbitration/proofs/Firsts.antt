-- The first element that passes a test, under a change of one element or of all.
use Rattle.std.proofs.Common.{◌≡◌, Bool, true, false, cond, List, [], ◌∷◌, map, Some, sym, refl, subst, find}
use Rattle.arbitration.specs.Lists.{holds, amended}

module _ {A : Type 0} (px : A → Bool) where
  -- whoever is i is not w
  pub first_excludes : (i w : A → Bool) → ((x : A) → i x ≡ true → w x ≡ false) → (xs : List A) → holds i (find px xs) ≡ true → holds w (find px xs) ≡ false
  first_excludes i w g [] = λ h. refl
  first_excludes i w g (x ∷ xs) = elim (px x) as (λ t. holds i (cond t (Some x) (find px xs)) ≡ true → holds w (cond t (Some x) (find px xs)) ≡ false) [ true ↦ g x | false ↦ first_excludes i w g xs ]

  pub first_map_never : (w : A → Bool) (f : A → A) → ((x : A) → w (f x) ≡ false) → (xs : List A) → holds w (find px (map f xs)) ≡ false
  first_map_never w f h [] = refl
  first_map_never w f h (x ∷ xs) = elim (px (f x)) as (λ t. holds w (cond t (Some (f x)) (find px (map f xs))) ≡ false) [ true ↦ h x | false ↦ first_map_never w f h xs ]

  -- one element is changed by f, which keeps px
  module _ (p : A → Bool) (f : A → A) (same : (x : A) → px (f x) ≡ px x) where
    -- where w holds before and after, v holds after as before
    pub first_kept : (w v : A → Bool) → ((x : A) → w x ≡ true → w (f x) ≡ true → v (f x) ≡ v x) → (xs : List A) → holds w (find px xs) ≡ true → holds w (find px (amended p f xs)) ≡ true → holds v (find px (amended p f xs)) ≡ holds v (find px xs)
    first_kept w v h [] = λ a b. refl
    first_kept w v h (x ∷ xs) =
        elim (p x) as (λ t. holds w (find px (x ∷ xs)) ≡ true → holds w (find px (cond t (f x ∷ xs) (x ∷ amended p f xs))) ≡ true → holds v (find px (cond t (f x ∷ xs) (x ∷ amended p f xs))) ≡ holds v (find px (x ∷ xs))) [
          | true ↦ subst (λ u. holds w (find px (x ∷ xs)) ≡ true → holds w (cond u (Some (f x)) (find px xs)) ≡ true → holds v (cond u (Some (f x)) (find px xs)) ≡ holds v (find px (x ∷ xs))) (sym (same x))
              (elim (px x) as (λ t. holds w (cond t (Some x) (find px xs)) ≡ true → holds w (cond t (Some (f x)) (find px xs)) ≡ true → holds v (cond t (Some (f x)) (find px xs)) ≡ holds v (cond t (Some x) (find px xs))) [
                | true ↦ h x
                | false ↦ λ a b. refl
              ])
          | false ↦ elim (px x) as (λ t. holds w (cond t (Some x) (find px xs)) ≡ true → holds w (cond t (Some x) (find px (amended p f xs))) ≡ true → holds v (cond t (Some x) (find px (amended p f xs))) ≡ holds v (cond t (Some x) (find px xs))) [
            | true ↦ λ a b. refl
            | false ↦ first_kept w v h xs
          ]
        ]

    -- whoever is i before is not w after
    pub first_not : (i w : A → Bool) → ((x : A) → i x ≡ true → w (f x) ≡ false) → ((x : A) → i x ≡ true → w x ≡ false) → (xs : List A) → holds i (find px xs) ≡ true → holds w (find px (amended p f xs)) ≡ false
    first_not i w h g [] = λ a. refl
    first_not i w h g (x ∷ xs) =
        elim (p x) as (λ t. holds i (find px (x ∷ xs)) ≡ true → holds w (find px (cond t (f x ∷ xs) (x ∷ amended p f xs))) ≡ false) [
          | true ↦ subst (λ u. holds i (find px (x ∷ xs)) ≡ true → holds w (cond u (Some (f x)) (find px xs)) ≡ false) (sym (same x))
              (elim (px x) as (λ t. holds i (cond t (Some x) (find px xs)) ≡ true → holds w (cond t (Some (f x)) (find px xs)) ≡ false) [
                | true ↦ h x
                | false ↦ first_excludes i w g xs
              ])
          | false ↦ elim (px x) as (λ t. holds i (cond t (Some x) (find px xs)) ≡ true → holds w (cond t (Some x) (find px (amended p f xs))) ≡ false) [
            | true ↦ g x
            | false ↦ first_not i w h g xs
          ]
        ]
