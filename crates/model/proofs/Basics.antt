-- Options, members of a list, and the first element that passes a test when one is changed.
use Rattle.std.proofs.Common.{◌≡◌, ℕ, Bool, true, false, cond, ◌⊎◌, List, [], ◌∷◌, map, Some, None, Option, sym, refl, ap, ◌∙◌, subst, inl, inr, find}
use Rattle.std.proofs.lemmas.Option.{none-some}
use Rattle.std.proofs.lemmas.Bool.{both_ways, cases_eq}
use Rattle.std.specs.Option.{option_map}
use Rattle.arbitration.specs.Lists.{holds, amended}

-- ---- options
pub opt_both : {A B : Type 0} (o : Option A) (b : B) (f : A → B) (P : B → Type 0) →
    (o ≡ None → P b) → ((x : A) → o ≡ Some x → P (f x)) → P (elim o [ None ↦ b | Some x ↦ f x ])
opt_both None b f P n s = n refl
opt_both (Some x) b f P n s = s x refl

-- by cases on whether m is n
pub by_eq : (m n : ℕ) (P : Type 0) → (m ≡ n → P) → ((m ≡ n → ⊥) → P) → P
by_eq m n P a b = elim (cases_eq m n) [ inl q ↦ a q | inr q ↦ b q ]

-- ---- members
abbrev pub In : {A : Type 0} → A → List A → Type 0
In x [] = ⊥
In x (y ∷ ys) = (x ≡ y) ⊎ In x ys

pub in_map : {A B : Type 0} (f : A → B) (x : A) (xs : List A) → In x xs → In (f x) (map f xs)
in_map f x [] h = absurd h
in_map f x (y ∷ ys) (inl e) = inl (ap f e)
in_map f x (y ∷ ys) (inr h) = inr (in_map f x ys h)

pub map_in : {A B : Type 0} (f : A → B) (y : B) (xs : List A) → In y (map f xs) → (x : A) × In x xs × (y ≡ f x)
map_in f y [] h = absurd h
map_in f y (x ∷ xs) (inl e) = (x, inl refl, e)
map_in {A} f y (x ∷ xs) (inr h) = let r : (z : A) × In z xs × (y ≡ f z) = map_in f y xs h in (r.0, inr r.1, r.2)

-- ---- the first that passes
pub first_in : {A : Type 0} (p : A → Bool) (x : A) (xs : List A) → find p xs ≡ Some x → In x xs × (p x ≡ true)
first_in p x [] e = absurd (none-some x e)
first_in {A} p x (y ∷ ys) e = go (p y) refl e (first_in p x ys)
  where
    go : (b : Bool) → p y ≡ b → cond b (Some y) (find p ys) ≡ Some x → (find p ys ≡ Some x → In x ys × (p x ≡ true)) →
        ((x ≡ y) ⊎ In x ys) × (p x ≡ true)
    go true q h more = let same : y ≡ x = cc in (inl (sym same), ap p (sym same) ∙ q)
    go false q h more = let r : In x ys × (p x ≡ true) = more h in (inr r.0, r.1)

pub first_some : {A : Type 0} (p : A → Bool) (x : A) (xs : List A) → In x xs → p x ≡ true → (y : A) × (find p xs ≡ Some y)
first_some p x [] h e = absurd h
first_some {A} p x (y ∷ ys) h e = go (p y) refl h (first_some p x ys)
  where
    go : (b : Bool) → p y ≡ b → (x ≡ y) ⊎ In x ys → (In x ys → p x ≡ true → (z : A) × (find p ys ≡ Some z)) →
        (z : A) × (cond b (Some y) (find p ys) ≡ Some z)
    go true q h more = (y, refl)
    go false q (inl same) more = absurd (both_ways (p y) q (ap p (sym same) ∙ e))
    go false q (inr h) more = more h e

-- ---- one element changed
module _ {A : Type 0} (p : A → Bool) (f : A → A) where
  -- the one that is changed is found changed
  pub amended_same : ((x : A) → p (f x) ≡ p x) → (xs : List A) → find p (amended p f xs) ≡ option_map f (find p xs)
  amended_same h [] = refl
  amended_same h (x ∷ xs) =
      (elim (p x) as (λ b. p x ≡ b → find p (cond b (f x ∷ xs) (x ∷ amended p f xs)) ≡ option_map f (cond b (Some x) (find p xs))) [
        | true ↦ λ e. rw (h x ∙ e)
        | false ↦ λ e. rw e (amended_same h xs)
      ]) refl

  -- one that the changed one is not, before or after, is found as it was
  pub amended_other : (q : A → Bool) → ((x : A) → p x ≡ true → q x ≡ false) → ((x : A) → q (f x) ≡ q x) → (xs : List A) → find q (amended p f xs) ≡ find q xs
  amended_other q out h [] = refl
  amended_other q out h (x ∷ xs) =
      (elim (p x) as (λ b. p x ≡ b → find q (cond b (f x ∷ xs) (x ∷ amended p f xs)) ≡ cond (q x) (Some x) (find q xs)) [
        | true ↦ λ e. rw (h x ∙ out x e, out x e)
        | false ↦ λ e. ap (λ (o : Option A). cond (q x) (Some x) o) (amended_other q out h xs)
      ]) refl

  -- what each element shows, where the change does not show
  pub amended_map : {B : Type 0} (g : A → B) → ((x : A) → g (f x) ≡ g x) → (xs : List A) → map g (amended p f xs) ≡ map g xs
  amended_map g h [] = refl
  amended_map {B} g h (x ∷ xs) =
      elim (p x) as (λ b. map g (cond b (f x ∷ xs) (x ∷ amended p f xs)) ≡ g x ∷ map g xs) [
        | true ↦ ap (λ (y : B). y ∷ map g xs) (h x)
        | false ↦ ap (λ (ys : List B). g x ∷ ys) (amended_map g h xs)
      ]

-- ---- what the first that passes px is, when the first that passes p is changed by f, which keeps px
module _ {A : Type 0} (px p : A → Bool) (f : A → A) (same : (x : A) → px (f x) ≡ px x) where
  -- one that passes w still does, where each that changes does
  pub first_stays : (w : A → Bool) → ((x : A) → p x ≡ true → px x ≡ true → w x ≡ true → w (f x) ≡ true) → (xs : List A) →
      holds w (find px xs) ≡ true → holds w (find px (amended p f xs)) ≡ true
  first_stays w h [] = λ a. a
  first_stays w h (x ∷ xs) =
      (elim (p x) as (λ t. p x ≡ t → holds w (find px (x ∷ xs)) ≡ true → holds w (find px (cond t (f x ∷ xs) (x ∷ amended p f xs))) ≡ true) [
        | true ↦ λ e. subst (λ t. holds w (find px (x ∷ xs)) ≡ true → holds w (cond t (Some (f x)) (find px xs)) ≡ true) (sym (same x))
            ((elim (px x) as (λ t. px x ≡ t → holds w (cond t (Some x) (find px xs)) ≡ true → holds w (cond t (Some (f x)) (find px xs)) ≡ true) [
              | true ↦ λ q a. h x e q a
              | false ↦ λ q a. a
            ]) refl)
        | false ↦ λ e. elim (px x) as (λ t. holds w (cond t (Some x) (find px xs)) ≡ true → holds w (cond t (Some x) (find px (amended p f xs))) ≡ true) [
          | true ↦ λ a. a
          | false ↦ first_stays w h xs
        ]
      ]) refl

  -- one that passes w did before, where each that changes did
  pub first_was : (w : A → Bool) → ((x : A) → w (f x) ≡ true → w x ≡ true) → (xs : List A) →
      holds w (find px (amended p f xs)) ≡ true → holds w (find px xs) ≡ true
  first_was w h [] = λ a. a
  first_was w h (x ∷ xs) =
      elim (p x) as (λ t. holds w (find px (cond t (f x ∷ xs) (x ∷ amended p f xs))) ≡ true → holds w (find px (x ∷ xs)) ≡ true) [
        | true ↦ subst (λ t. holds w (cond t (Some (f x)) (find px xs)) ≡ true → holds w (find px (x ∷ xs)) ≡ true) (sym (same x))
            (elim (px x) as (λ t. holds w (cond t (Some (f x)) (find px xs)) ≡ true → holds w (cond t (Some x) (find px xs)) ≡ true) [
              | true ↦ h x
              | false ↦ λ a. a
            ])
        | false ↦ elim (px x) as (λ t. holds w (cond t (Some x) (find px (amended p f xs))) ≡ true → holds w (cond t (Some x) (find px xs)) ≡ true) [
          | true ↦ λ a. a
          | false ↦ first_was w h xs
        ]
      ]
