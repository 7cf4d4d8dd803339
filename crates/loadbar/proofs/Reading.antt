-- Reading numbers.
use Rattle.std.proofs.Common.{◌≡◌, ℕ, ◌<◌, List, [], ◌∷◌, length, Some, None, Option, Bor, Iter, refl, sym, ap, ◌∙◌, arith}
use Rattle.std.specs.ControlFlow.{continue_value}
use Rattle.std.specs.Fn.{Mut, Called}
use Rattle.std.specs.Iterator.{Yields, TryFoldTurn, TryFoldsItems}
use Rattle.std.specs.List.{FoldsTo}
use Rattle.std.specs.Option.{MatchOption}
use Rattle.std.specs.declared.ops.ControlFlow.{ControlFlow}
use Rattle.std.proofs.lemmas.Fn.{fronts}
use Rattle.std.proofs.lemmas.List.{nil_from_length}
use Rattle.loadbar.specs.Words.{shifted, shifted_on, number}

pub number_not_empty : (w : List ℕ) → 0 < length w → shifted_on (Some 0) w ≡ number w
number_not_empty [] h = absurd (omega arith)
number_not_empty (b ∷ w) h = refl

-- a `try_fold` over bytes whose calls each put one digit more behind the number so far
module _ (E : Type 0) {F : Type 0} (g : Mut F (ℕ × (Bor ℕ × Unit {0})) (Option ℕ))
    (digit : (f : F) (n : ℕ) (x : Bor ℕ) (v : Option ℕ) (f' : F) → Called g f (n, (x, tt)) v f' → v ≡ shifted n x.now) where
  -- the calls that go on take up the bytes that they were given
  goes : (xs : List (Bor ℕ)) (s t : Iter ℕ) (p q : F × ℕ) → Yields fronts s xs t → FoldsTo (TryFoldTurn g (λ v (k : ControlFlow E ℕ). v ≡ continue_value k)) p xs q → shifted_on (Some p.1) s.rest.now ≡ shifted_on (Some q.1) t.rest.now
  goes [] s t p q same kept = λ j. shifted_on (Some (kept j).1) (same j).rest.now
  goes (x ∷ xs) s t p q y k =
      ap (shifted_on (Some p.1)) y.1
      ∙ ap (λ o. shifted_on o y.0.rest.now) (sym (digit p.0 p.1 x k.1.0 k.0.0 k.1.1) ∙ k.1.2)
      ∙ goes xs y.0 t k.0 q y.2 k.2

  -- and the last one takes up the rest, or breaks off
  ends : (o : Option (Bor ℕ)) (t u : Iter ℕ) (f : F) (n : ℕ) (r : Option ℕ) → fronts t o u
      → MatchOption o (r ≡ Some n) (λ x. (v : Option ℕ) × (h : F) × (e : E) × Called g f (n, (x, tt)) v h × (v ≡ None) × (r ≡ None))
      → shifted_on (Some n) t.rest.now ≡ r
  ends None t u f n r step end = ap (shifted_on (Some n)) (nil_from_length t.rest.now step.0) ∙ sym end
  ends (Some x) t u f n r step end =
      ap (shifted_on (Some n)) step
      ∙ ap (λ o. shifted_on o u.rest.now) (sym (digit f n x end.0 end.1 end.3) ∙ end.4)
      ∙ sym end.5

  pub shifted_by_try_fold : (s u : Iter ℕ) (f : F) (n : ℕ) (r : Option ℕ) → TryFoldsItems fronts g (λ v (k : ControlFlow E ℕ). v ≡ continue_value k) (λ e v. v ≡ None) s f n r u → r ≡ shifted_on (Some n) s.rest.now
  shifted_by_try_fold s u f n r ran =
      let there = ran.4 in
      sym (goes ran.0 s there.0 (f, n) (ran.2, ran.3) there.1 ran.5 ∙ ends ran.1 there.0 u ran.2 ran.3 r there.2 ran.6)
