-- The level that an arbitration answers is that of a contender that asks.
use Rattle.std.proofs.Common.{◌≡◌, ℕ, ◌+◌, ◌≤◌, Bool, true, false, cond, not, ◌&&◌, ◌||◌, eqb, List, [], ◌∷◌, Some, None, Option, sym, refl, ap, ◌∙◌, arith, find}
use Rattle.std.proofs.lemmas.Bool.{cond_both, and_parts, not-true, or_left, or_right, eq-eqb, eqb-true, both_ways}
use Rattle.arbitration.specs.declared.contenders.Contender.{Contender}
use Rattle.std.specs.List.{list_any}
use Rattle.arbitration.specs.Lists.{holds}
use Rattle.arbitration.specs.Contenders.{at_level, asks, assured, prioritised, outranks}
use Rattle.arbitration.specs.Rules.{foremost, winner, asks_as}
use Rattle.arbitration.specs.Sound.{levels, distinct}
use Rattle.arbitration.specs.Waiting.{other, rival}
use Rattle.arbitration.proofs.Changing.{one_if}

first_there : (l : ℕ) (q : Contender → Bool) (cs : List Contender) → holds q (find (at_level l) cs) ≡ true → list_any (eqb l) (levels cs) ≡ true
first_there l q [] = λ h. h
first_there l q (c ∷ cs) =
    (elim (at_level l c) as (λ t. at_level l c ≡ t → holds q (cond t (Some c) (find (at_level l) cs)) ≡ true → (eqb l c.level || list_any (eqb l) (levels cs)) ≡ true) [
      | true ↦ λ e _. or_left _ _ (eq-eqb l c.level (sym (eqb-true c.level l e)))
      | false ↦ λ _ h. or_right _ _ (first_there l q cs h)
    ]) refl

-- a contender of another level in front makes no difference
first_behind : (c : Contender) (cs : List Contender) (l : ℕ) (q : Contender → Bool) → not (list_any (eqb c.level) (levels cs)) ≡ true → holds q (find (at_level l) cs) ≡ true → holds q (find (at_level l) (c ∷ cs)) ≡ true
first_behind c cs l q apart h =
    (elim (at_level l c) as (λ t. at_level l c ≡ t → holds q (cond t (Some c) (find (at_level l) cs)) ≡ true) [
      | true ↦ λ e. absurd (both_ways (list_any (eqb c.level) (levels cs)) (not-true _ apart) (ap (λ k. list_any (eqb k) (levels cs)) (eqb-true c.level l e) ∙ first_there l q cs h))
      | false ↦ λ _. h
    ]) refl

-- the contender of the level of w asks
abbrev Asker : List Contender → Contender → Type 0
Asker cs w = holds asks (find (at_level w.level) cs) ≡ true

-- if there is a contender, it is an asker
abbrev pub Askers : List Contender → Option Contender → Type 0
Askers cs None = Unit {0}
Askers cs (Some w) = Asker cs w

module _ (c : Contender) (cs : List Contender) (apart : not (list_any (eqb c.level) (levels cs)) ≡ true) where
  in_front : asks c ≡ true → Asker (c ∷ cs) c
  in_front a = ap (λ t. holds asks (cond t (Some c) (find (at_level c.level) cs))) (eq-eqb c.level c.level refl) ∙ a

  behind : (o : Option Contender) → Askers cs o → Askers (c ∷ cs) o
  behind None h = tt
  behind (Some w) h = first_behind c cs w.level asks apart h

  foremost_asks : (o : Option Contender) → Askers cs o → asks c ≡ true → Asker (c ∷ cs) (foremost c o)
  foremost_asks None h a = in_front a
  foremost_asks (Some w) h a = cond_both (outranks w c) w c (Asker (c ∷ cs)) (λ _. behind (Some w) h) (λ _. in_front a)

-- levels apart, the winner asks; by which order it was found plays no part
pub winner_asks : (cs : List Contender) → distinct (levels cs) ≡ true → Askers cs (winner cs)
winner_asks [] d = tt
winner_asks (c ∷ cs) d =
    let parts = and_parts _ _ d in
    let rest = winner_asks cs parts.1 in
    (elim (asks c) as (λ t. asks c ≡ t → Askers (c ∷ cs) (cond t (Some (foremost c (winner cs))) (winner cs))) [
      | true ↦ λ a. foremost_asks c cs parts.0 (winner cs) rest a
      | false ↦ λ _. behind c cs parts.0 (winner cs) rest
    ]) refl

-- the contender that is granted the segment is the one of the level answered
pub first_asker : (w : Contender) (r : Contender → Bool) (cs : List Contender) → Asker cs w → holds r (find (asks_as w) cs) ≡ holds r (find (at_level w.level) cs)
first_asker w r [] = λ _. refl
first_asker w r (c ∷ cs) =
    elim (at_level w.level c) as (λ t. holds asks (cond t (Some c) (find (at_level w.level) cs)) ≡ true → holds r (cond (asks c && t) (Some c) (find (asks_as w) cs)) ≡ holds r (cond t (Some c) (find (at_level w.level) cs))) [
      | true ↦ λ a. ap (λ t. holds r (cond (t && true) (Some c) (find (asks_as w) cs))) a
      | false ↦ λ a. elim (asks c) as (λ t. holds r (cond (t && false) (Some c) (find (asks_as w) cs)) ≡ holds r (find (at_level w.level) cs)) [ true ↦ first_asker w r cs a | false ↦ first_asker w r cs a ]
    ]

-- a grant to another went to an assured or to a prioritised contender
halves : (o a : Bool) → one_if o ≤ one_if (o && a) + one_if (not a)
halves true true = omega arith
halves true false = omega arith
halves false true = omega arith
halves false false = omega arith

pub one_or_other : (x l : ℕ) (cs : List Contender) → holds asks (find (at_level l) cs) ≡ true → one_if (other x l) ≤ one_if (holds (rival x) (find (at_level l) cs)) + one_if (holds prioritised (find (at_level l) cs))
one_or_other x l [] = λ h. absurd (both_ways false refl h)
one_or_other x l (c ∷ cs) =
    (elim (at_level l c) as (λ t. at_level l c ≡ t → holds asks (cond t (Some c) (find (at_level l) cs)) ≡ true → one_if (other x l) ≤ one_if (holds (rival x) (cond t (Some c) (find (at_level l) cs))) + one_if (holds prioritised (cond t (Some c) (find (at_level l) cs)))) [
      | true ↦ λ e _. let same : c.level ≡ l = eqb-true c.level l e in rw (sym same) (halves (other x c.level) (assured c))
      | false ↦ λ _ h. one_or_other x l cs h
    ]) refl
