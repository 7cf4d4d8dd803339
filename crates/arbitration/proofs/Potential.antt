-- A number that falls with each grant to another assured contender, while the contender of level x wishes.
-- Of the winner it is used only that it asks.
use Rattle.std.proofs.Common.{◌≡◌, ℕ, ◌+◌, ◌≤◌, Bool, true, false, cond, not, ◌&&◌, List, [], ◌∷◌, map, Some, sym, refl, arith, find}
use Rattle.std.proofs.lemmas.Bool.{and_parts, and_right, or_parts, true≢false}
use Rattle.arbitration.specs.declared.contenders.Access.{Access}
use Rattle.arbitration.specs.declared.contenders.Access.TheVariants.{Prioritised, Assured}
use Rattle.arbitration.specs.declared.contenders.State.{State}
use Rattle.arbitration.specs.declared.contenders.State.TheVariants.{Idle, Asks, Owns}
use Rattle.arbitration.specs.declared.contenders.Move.{Move}
use Rattle.arbitration.specs.declared.contenders.Contender.{Contender}
use Rattle.std.specs.List.{list_any}
use Rattle.arbitration.specs.Lists.{count, holds}
use Rattle.arbitration.specs.Contenders.{same_state, is_assured, waits, asks, wishes, at_level, put, next, moved, wake}
use Rattle.arbitration.specs.Rules.{Bus, its, lifts, settled, made, asks_as, granted}
use Rattle.arbitration.specs.Waiting.{other, rival, rivals}
use Rattle.arbitration.proofs.Changing.{one_if, count_map, count_amended_le, count_amended_drop, count_le, first_map}
use Rattle.arbitration.proofs.Firsts.{first_map_never, first_kept}
use Rattle.arbitration.proofs.Rosters.{roster, roster_made, roster_granted, by_roster}
use Rattle.arbitration.proofs.States.{never_asks, passes_less, woken_waits, woken_wishes, wishing_stays}

-- ---- the number, from: x waits, the inhibit is up, a other assured contenders ask, k there are
abbrev pub pot : Bool → Bool → ℕ → ℕ → ℕ
pot true true a k = a + k
pot true false a k = k + k
pot false true a k = a
pot false false a k = k

pub pot_le : (w up : Bool) (a k : ℕ) → a ≤ k → pot w up a k ≤ k + k
pot_le true true a k h = omega arith
pot_le true false a k h = omega arith
pot_le false true a k h = omega arith
pot_le false false a k h = omega arith

pot_move : (w up : Bool) (a a' k : ℕ) → (up ≡ true → a' ≤ a) → pot w up a' k ≤ pot w up a k
pot_move true true a a' k h = omega (arith, h refl)
pot_move true false a a' k h = omega arith
pot_move false true a a' k h = h refl
pot_move false false a a' k h = omega arith

pot_grant : (w up : Bool) (a a' k g : ℕ) → a ≤ k → a' + g ≤ a → pot w true a' k + g ≤ pot w up a k
pot_grant true true a a' k g h i = omega arith
pot_grant true false a a' k g h i = omega arith
pot_grant false true a a' k g h i = omega arith
pot_grant false false a a' k g h i = omega arith

-- ---- one contender
and_le : (r t : Bool) → one_if (r && t) ≤ one_if r
and_le true true = omega arith
and_le true false = omega arith
and_le false t = omega arith

and_true : (r : Bool) → (r && true) ≡ r
and_true true = refl
and_true false = refl

-- while the inhibit is up, no move lets another assured contender begin to ask
asks_less : (o : Bool) (m : Move) (a : Access) (s : State) → one_if ((o && is_assured a) && same_state Asks (next m a true s)) ≤ one_if ((o && is_assured a) && same_state Asks s)
asks_less false m a s = omega arith
asks_less true m Prioritised s = omega arith
asks_less true m Assured s = passes_less (same_state Asks) m Assured true (never_asks m) s

-- where nobody asks, one that wishes waits
quiet_waits : (px : Contender → Bool) (cs : List Contender) → list_any asks cs ≡ false → holds wishes (find px cs) ≡ true → holds waits (find px cs) ≡ true
quiet_waits px [] q = λ h. h
quiet_waits px (c ∷ cs) q =
    let parts = or_parts (asks c) (list_any asks cs) q in
    elim (px c) as (λ t. holds wishes (cond t (Some c) (find px cs)) ≡ true → holds waits (cond t (Some c) (find px cs)) ≡ true) [
      | true ↦ λ h. rw parts.0 at h
      | false ↦ quiet_waits px cs parts.1
    ]

-- settling does not change what waking does not
pub its_settled : (l : ℕ) (q : Contender → Bool) → ((c : Contender) → q (wake c) ≡ q c) → (b : Bus) → its l q (settled b) ≡ its l q b
its_settled l q same b =
    elim (lifts b) as (λ t. holds q (find (at_level l) (cond t (map wake b.contenders) b.contenders)) ≡ its l q b) [
      | true ↦ first_map q wake same (at_level l) (λ c. refl) b.contenders
      | false ↦ refl
    ]

-- ---- a segment, for the contender of level x
module _ (x : ℕ) where
  abbrev rival_asks : Contender → Bool
  rival_asks c = rival x c && asks c

  abbrev pub asking : Bus → ℕ
  asking b = count rival_asks b.contenders

  abbrev pub phi : Bus → ℕ
  phi b = pot (its x waits b) b.inhibit (asking b) (rivals x b)

  pub asking_le : (b : Bus) → asking b ≤ rivals x b
  asking_le b = count_le rival_asks (rival x) (λ c. and_le (rival x c) (asks c)) b.contenders

  pub rivals_by_roster : (cs ds : List Contender) → roster cs ≡ roster ds → count (rival x) cs ≡ count (rival x) ds
  rivals_by_roster = by_roster (count (rival x)) (count_map (rival x) (put Idle) (λ c. refl))

  -- ---- settling
  pub wishes_settled : (b : Bus) → its x wishes (settled b) ≡ its x wishes b
  wishes_settled b = its_settled x wishes (λ c. woken_wishes c.state) b

  settles_to : (n : ℕ) (cs : List Contender) (up some : Bool) → list_any asks cs ≡ some → holds wishes (find (at_level x) cs) ≡ true → phi (record { number = n; contenders = cond (up && not some) (map wake cs) cs; inhibit = up && some }) ≤ phi (record { number = n; contenders = cs; inhibit = up })
  settles_to n cs false some e w = omega arith
  settles_to n cs true true e w = omega arith
  settles_to n cs true false e w =
      rw (first_map_never (at_level x) waits wake (λ c. woken_waits c.state) cs, quiet_waits (at_level x) cs e w) (omega (arith, count_map (rival x) wake (λ c. refl) cs))

  pub phi_settled : (b : Bus) → its x wishes b ≡ true → phi (settled b) ≤ phi b
  phi_settled b w = settles_to b.number b.contenders b.inhibit (list_any asks b.contenders) refl w

  -- ---- a move
  pub phi_made : (m : Move) (l : ℕ) (b : Bus) → its x wishes b ≡ true → its x wishes (made m l b) ≡ true → phi (made m l b) ≤ phi b
  phi_made m l b w v =
      let same = first_kept (at_level x) (at_level l) (moved m b.inhibit) (λ c. refl) wishes waits (λ c p q. wishing_stays m c.access b.inhibit c.state p q) b.contenders w v in
      rw (same, rivals_by_roster (made m l b).contenders b.contenders (roster_made m l b))
      (pot_move (its x waits b) b.inhibit (asking b) (asking (made m l b)) (rivals x b)
      (λ up. rw up (count_amended_le (at_level l) (moved m true) rival_asks (λ c. asks_less (other x c.level) m c.access c.state) b.contenders)))

  -- ---- a grant to the contender that asks at the level of w
  abbrev pub won : Contender → Bus → ℕ
  won w b = one_if (holds (rival x) (find (asks_as w) b.contenders))

  asking_granted : (w : Contender) (b : Bus) → asking (granted w b) + won w b ≤ asking b
  asking_granted w b =
      count_amended_drop (asks_as w) (put Owns) rival_asks (rival x)
      (λ c. and_right (rival x c) false refl)
      (λ c p. rw (and_parts (asks c) (at_level w.level c) p).0 (rw (and_true (rival x c)) (omega arith)))
      b.contenders

  pub phi_granted : (w : Contender) (b : Bus) → its x wishes b ≡ true → its x wishes (granted w b) ≡ true → phi (granted w b) + won w b ≤ phi b
  phi_granted w b i v =
      let same = first_kept (at_level x) (asks_as w) (put Owns) (λ c. refl) wishes waits (λ c p q. absurd (true≢false (sym q))) b.contenders i v in
      rw (same, rivals_by_roster (granted w b).contenders b.contenders (roster_granted w b))
      (pot_grant (its x waits b) b.inhibit (asking b) (asking (granted w b)) (rivals x b) (won w b) (asking_le b) (asking_granted w b))
