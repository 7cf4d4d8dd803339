-- What the code of a call leaves behind is what the rules say.
use Rattle.std.proofs.Common.{◌≡◌, ℕ, Bool, true, false, cond, not, ◌&&◌, List, map, length, get_or, set, is_ok, is_some, Some, None, Ok, Err, Option, Result, vec_items, vec_len, Vec, position, sym, refl, ap, ◌∙◌}
use lib.ListN.{length-map}
use Rattle.std.specs.List.{list_any}
use Rattle.std.specs.Result.{result_ok}
use Rattle.std.specs.Vec.{with_items}
use Rattle.std.proofs.lemmas.List.{set-get_or, with_items_is}
use Rattle.std.proofs.lemmas.List.Quantifiers.{position-Some}
use Rattle.std.proofs.lemmas.Bool.{cond-true, cond-false, cond_both, true≢false, and_parts, eqb-true}
use Rattle.arbitration.specs.declared.contenders.State.TheVariants.{Owns}
use Rattle.arbitration.specs.declared.contenders.Move.{Move}
use Rattle.arbitration.specs.declared.contenders.Contender.{Contender}
use Rattle.arbitration.specs.declared.replies.Answer.{Answer}
use Rattle.arbitration.specs.declared.replies.Answer.TheVariants.{Granted}
use Rattle.arbitration.specs.declared.replies.Event.TheVariants.{Arbitrate}
use Rattle.arbitration.specs.declared.replies.Reason.{Reason}
use Rattle.arbitration.specs.Lists.{amended}
use Rattle.arbitration.specs.Contenders.{at_level, asks, owns, put, allows, refusal_of, reached, told, moved, move_verdict, wake}
use Rattle.arbitration.specs.Rules.{Bus, settled, winner, asks_as, arbitrated, by_contender, by_winner, move_answer, after_move, answer, after}
use Rattle.arbitration.specs.Scans.{place_of}
use Rattle.arbitration.proofs.Winning.{Tops, winner_tops}
use Rattle.arbitration.proofs.Finding.{find_placed, find_unplaced, amended_placed, placed_any}

abbrev pub bus_of : ℕ → List Contender → Bool → Bus
bus_of n cs inhibit = record { number = n; contenders = cs; inhibit = inhibit }

-- what `settle` leaves of ds
abbrev pub left_of : List Contender → Bool → List Contender
left_of ds up = cond (up && not (list_any asks ds)) (map wake ds) ds

length_left : (ds : List Contender) (up : Bool) → length (left_of ds up) ≡ length ds
length_left ds up = cond_both _ _ _ (λ l. length l ≡ length ds) (λ _. length-map ds wake) (λ _. refl)

-- the Vec v was lent to `settle` as ds, which left ws in it
pub settles : {Z : Type 0} (n : ℕ) (v : Vec Contender Z) (up : Bool) {ds ws : List Contender} {r : Bool} → ds ≡ vec_items v → length ds ≡ vec_len v → r ≡ (up && list_any asks ds) → ws ≡ left_of ds up → bus_of n (vec_items (with_items v ws)) r ≡ settled (bus_of n (vec_items v) up)
settles n v up {ds} {ws} {r} seen long p q =
    ap (λ cs. bus_of n cs r) (with_items_is v ws (ap length q ∙ length_left ds up ∙ long))
    ∙ (λ j. bus_of n (q j) (p j))
    ∙ ap (λ cs. settled (bus_of n cs up)) seen

-- the search f saw the contenders xs as zs and answered p, which `ok_or` turned into q
pub searched : (f : List Contender → Option ℕ) {xs zs : List Contender} {p : Option ℕ} {r q : Result ℕ Reason} → zs ≡ xs → p ≡ f zs → p ≡ result_ok r → r ≡ q → f xs ≡ result_ok q
searched f {xs} {zs} {p} {r} {q} seen is part was = ap f (sym seen) ∙ sym is ∙ part ∙ ap (result_ok {E = Reason}) was

-- ---- a move of the contender of a level, of whom there is none
pub move_none : (n : ℕ) (m : Move) (l : ℕ) (up : Bool) (xs : List Contender) → position (at_level l) xs ≡ None → move_answer m l (bus_of n xs up) ≡ Err 8
move_none n m l up xs none = ap (by_contender m up) (find_unplaced (at_level l) xs none)

-- x stands at its place i, and y is what the move made of it
module _ (n : ℕ) (m : Move) (l : ℕ) (up : Bool) (xs : List Contender) {i : ℕ} {x y : Contender} (at_i : position (at_level l) xs ≡ Some i) (read : x ≡ get_or xs i x) (wrote : y ≡ moved m up x) where
  pub move_told : move_answer m l (bus_of n xs up) ≡ move_verdict m up x
  move_told = ap (by_contender m up) (find_placed (at_level l) xs i x at_i ∙ ap Some (sym read))

  not_allowed : (k : ℕ) → Err k ≡ move_verdict m up x → allows m x.state ≡ false
  not_allowed k = elim (allows m x.state) as (λ t. Err k ≡ cond t (Ok (told m (reached m x.access up))) (Err (refusal_of m)) → t ≡ false) [ true ↦ λ e. absurd (true≢false (sym (ap is_ok e))) | false ↦ λ _. refl ]

  pub move_refused : (k : ℕ) → Err k ≡ move_verdict m up x → bus_of n (set xs i y) up ≡ after_move m l (bus_of n xs up)
  move_refused k e =
      let same : y ≡ get_or xs i x = wrote ∙ ap (λ s. put s x) (cond-false _ _ _ (not_allowed k e)) ∙ read in
      ap (λ cs. bus_of n cs up) (ap (λ c. set xs i c) same ∙ set-get_or xs i x) ∙ sym (cond-false _ _ _ (ap is_ok (move_told ∙ sym e)))

  pub move_made : (a : Answer) → Ok a ≡ move_verdict m up x → settled (bus_of n (set xs i y) up) ≡ after_move m l (bus_of n xs up)
  move_made a e =
      let new : set xs i y ≡ amended (at_level l) (moved m up) xs = ap (λ c. set xs i c) (wrote ∙ ap (moved m up) read) ∙ sym (amended_placed (at_level l) (moved m up) xs i x at_i) in
      ap (λ cs. settled (bus_of n cs up)) new ∙ sym (cond-true _ _ _ (ap is_ok (move_told ∙ sym e)))

-- ---- an arbitration
-- a winner has a place, so where there is none there is no winner
pub nobody_told : (n : ℕ) (up : Bool) (xs : List Contender) → list_any owns xs ≡ false → place_of (winner xs) xs ≡ None → answer Arbitrate (bus_of n xs up) ≡ Err 23
nobody_told n up xs free e =
    cond-false _ _ _ free
    ∙ (elim (winner xs) as (λ o. Tops xs o → place_of o xs ≡ None → by_winner o ≡ Err 23) [
      | None ↦ λ _ _. refl
      | Some w ↦ λ top none. absurd (true≢false (sym (placed_any (asks_as w) xs ∙ top.asks_itself) ∙ ap is_some none))
    ]) (winner_tops xs) e

-- x stands at the place i of the winner
module _ (n : ℕ) (up : Bool) (xs : List Contender) {i : ℕ} {x : Contender} (at_i : place_of (winner xs) xs ≡ Some i) (read : x ≡ get_or xs i x) (free : list_any owns xs ≡ false) where
  winner_told : (o : Option Contender) → place_of o xs ≡ Some i → by_winner o ≡ Ok (Granted x.level)
  winner_told None e = absurd cc
  winner_told (Some w) e =
      let asking = and_parts _ _ (position-Some (asks_as w) xs i x e).1 in
      ap (λ k. Ok (Granted k)) (sym (ap (λ (c : Contender). c.level) read ∙ eqb-true _ _ asking.1))

  pub grant_told : answer Arbitrate (bus_of n xs up) ≡ Ok (Granted x.level)
  grant_told = cond-false _ _ _ free ∙ winner_told (winner xs) at_i

  winner_made : (o : Option Contender) → place_of o xs ≡ Some i → settled (bus_of n (set xs i (put Owns x)) true) ≡ arbitrated o (bus_of n xs up)
  winner_made None e = absurd cc
  winner_made (Some w) e = ap (λ cs. settled (bus_of n cs true)) (ap (λ c. set xs i (put Owns c)) read ∙ sym (amended_placed (asks_as w) (put Owns) xs i x e))

  pub grant_made : settled (bus_of n (set xs i (put Owns x)) true) ≡ after Arbitrate (bus_of n xs up)
  grant_made = winner_made (winner xs) at_i ∙ sym (cond-true _ _ _ (ap is_ok grant_told))

-- a refused call changes nothing
pub move_stays : (m : Move) (l : ℕ) (b : Bus) (k : ℕ) → move_answer m l b ≡ Err k → b ≡ after_move m l b
move_stays m l b k e = sym (cond-false _ _ _ (ap is_ok e))

pub arbitration_stays : (b : Bus) (k : ℕ) → answer Arbitrate b ≡ Err k → b ≡ after Arbitrate b
arbitration_stays b k e = sym (cond-false _ _ _ (ap is_ok e))
