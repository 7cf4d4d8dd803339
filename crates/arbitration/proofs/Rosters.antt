-- Who is on a segment, with level and access, is changed by no call.
use Rattle.std.proofs.Common.{◌≡◌, ℕ, Bool, true, false, cond, List, [], ◌∷◌, map, is_ok, Some, None, Option, sym, refl, ap, ◌∙◌}
use Rattle.arbitration.specs.declared.contenders.State.TheVariants.{Idle, Owns}
use Rattle.arbitration.specs.declared.contenders.Move.{Move}
use Rattle.arbitration.specs.declared.contenders.Move.TheVariants as move
use Rattle.arbitration.specs.declared.contenders.Contender.{Contender}
use Rattle.arbitration.specs.declared.replies.Event.{Event}
use Rattle.arbitration.specs.declared.replies.Event.TheVariants.{Wish, Withdraw, Arbitrate, Release}
use Rattle.arbitration.specs.Lists.{amended}
use Rattle.arbitration.specs.Contenders.{put, moved, wake, at_level}
use Rattle.arbitration.specs.Rules.{Bus, lifts, settled, made, winner, asks_as, granted, arbitrated, answer, move_answer, after}

-- the contenders with their states left out
abbrev pub roster : List Contender → List Contender
roster cs = map (put Idle) cs

pub roster_amended : (p : Contender → Bool) (f : Contender → Contender) → ((c : Contender) → put Idle (f c) ≡ put Idle c) → (cs : List Contender) → roster (amended p f cs) ≡ roster cs
roster_amended p f same [] = refl
roster_amended p f same (c ∷ cs) =
    elim (p c) as (λ t. roster (cond t (f c ∷ cs) (c ∷ amended p f cs)) ≡ put Idle c ∷ roster cs) [
      | true ↦ ap (λ x. x ∷ roster cs) (same c)
      | false ↦ ap (λ xs. put Idle c ∷ xs) (roster_amended p f same cs)
    ]

roster_woken : (cs : List Contender) → roster (map wake cs) ≡ roster cs
roster_woken [] = refl
roster_woken (c ∷ cs) = ap (λ xs. put Idle c ∷ xs) (roster_woken cs)

pub roster_settled : (b : Bus) → roster (settled b).contenders ≡ roster b.contenders
roster_settled b = elim (lifts b) as (λ t. roster (cond t (map wake b.contenders) b.contenders) ≡ roster b.contenders) [ true ↦ roster_woken b.contenders | false ↦ refl ]

pub roster_made : (m : Move) (l : ℕ) (b : Bus) → roster (made m l b).contenders ≡ roster b.contenders
roster_made m l b = roster_amended (at_level l) (moved m b.inhibit) (λ c. refl) b.contenders

pub roster_granted : (w : Contender) (b : Bus) → roster (granted w b).contenders ≡ roster b.contenders
roster_granted w b = roster_amended (asks_as w) (put Owns) (λ c. refl) b.contenders

-- a function of the contenders that does not look at their states
pub by_roster : {Y : Type 0} (F : List Contender → Y) → ((cs : List Contender) → F (roster cs) ≡ F cs) → (cs ds : List Contender) → roster cs ≡ roster ds → F cs ≡ F ds
by_roster F blind cs ds e = sym (blind cs) ∙ ap F e ∙ blind ds

roster_after_move : (m : Move) (l : ℕ) (b : Bus) → roster (cond (is_ok (move_answer m l b)) (settled (made m l b)) b).contenders ≡ roster b.contenders
roster_after_move m l b =
    elim (is_ok (move_answer m l b)) as (λ t. roster (cond t (settled (made m l b)) b).contenders ≡ roster b.contenders) [
      | true ↦ roster_settled (made m l b) ∙ roster_made m l b
      | false ↦ refl
    ]

roster_arbitrated : (o : Option Contender) (b : Bus) → roster (arbitrated o b).contenders ≡ roster b.contenders
roster_arbitrated None b = refl
roster_arbitrated (Some w) b = roster_settled (granted w b) ∙ roster_granted w b

pub roster_after : (e : Event) (b : Bus) → roster (after e b).contenders ≡ roster b.contenders
roster_after (Wish l) b = roster_after_move move.Wish l b
roster_after (Withdraw l) b = roster_after_move move.Withdraw l b
roster_after Arbitrate b = elim (is_ok (answer Arbitrate b)) as (λ t. roster (cond t (arbitrated (winner b.contenders) b) b).contenders ≡ roster b.contenders) [ true ↦ roster_arbitrated (winner b.contenders) b | false ↦ refl ]
roster_after (Release l) b = roster_after_move move.Release l b
