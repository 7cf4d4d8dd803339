-- Facts of one contender, by its state and its move.
use Rattle.std.proofs.Common.{◌≡◌, ℕ, ◌≤◌, Bool, true, false, ◌||◌, sym, refl, ap, arith}
use Rattle.std.proofs.lemmas.Bool.{cond_both, or_parts, true≢false}
use Rattle.arbitration.specs.declared.contenders.Access.{Access}
use Rattle.arbitration.specs.declared.contenders.Access.TheVariants.{Prioritised, Assured}
use Rattle.arbitration.specs.declared.contenders.State.{State}
use Rattle.arbitration.specs.declared.contenders.State.TheVariants.{Idle, Waits, Asks, Owns}
use Rattle.arbitration.specs.declared.contenders.Move.{Move}
use Rattle.arbitration.specs.declared.contenders.Move.TheVariants.{Wish, Withdraw, Release}
use Rattle.arbitration.specs.Contenders.{same_state, allows, reached, next, woken}
use Rattle.arbitration.proofs.Changing.{one_if}

-- ---- where no move leads
pub never_owns : (m : Move) (a : Access) (inhibit : Bool) → same_state Owns (reached m a inhibit) ≡ false
never_owns Wish Prioritised inhibit = refl
never_owns Wish Assured true = refl
never_owns Wish Assured false = refl
never_owns Withdraw a inhibit = refl
never_owns Release a inhibit = refl

pub never_waits : (m : Move) (a : Access) → same_state Waits (reached m a false) ≡ false
never_waits Wish Prioritised = refl
never_waits Wish Assured = refl
never_waits Withdraw a = refl
never_waits Release a = refl

pub never_asks : (m : Move) → same_state Asks (reached m Assured true) ≡ false
never_asks Wish = refl
never_asks Withdraw = refl
never_asks Release = refl

-- a test that fails where the move leads is passed after it only by who passed before
module _ (q : State → Bool) (m : Move) (a : Access) (inhibit : Bool) (out : q (reached m a inhibit) ≡ false) where
  pub passes_less : (s : State) → one_if (q (next m a inhibit s)) ≤ one_if (q s)
  passes_less s = cond_both (allows m s) (reached m a inhibit) s (λ t. one_if (q t) ≤ one_if (q s)) (λ _. omega (arith, ap {B = ℕ} one_if out)) (λ _. omega arith)

  pub still_fails : (s : State) → q s ≡ false → q (next m a inhibit s) ≡ false
  still_fails s h = cond_both (allows m s) (reached m a inhibit) s (λ t. q t ≡ false) (λ _. out) (λ _. h)

-- ---- waking
pub woken_owns : (s : State) → same_state Owns (woken s) ≡ same_state Owns s
woken_owns Idle = refl
woken_owns Waits = refl
woken_owns Asks = refl
woken_owns Owns = refl

pub woken_waits : (s : State) → same_state Waits (woken s) ≡ false
woken_waits Idle = refl
woken_waits Waits = refl
woken_waits Asks = refl
woken_waits Owns = refl

pub woken_wishes : (s : State) → (same_state Asks (woken s) || same_state Waits (woken s)) ≡ (same_state Asks s || same_state Waits s)
woken_wishes Idle = refl
woken_wishes Waits = refl
woken_wishes Asks = refl
woken_wishes Owns = refl

-- ---- idling and wishing
pub idle_wishes : (s : State) → same_state Idle s ≡ true → (same_state Asks s || same_state Waits s) ≡ false
idle_wishes Idle p = refl
idle_wishes Waits p = absurd (true≢false (sym p))
idle_wishes Asks p = absurd (true≢false (sym p))
idle_wishes Owns p = refl

pub idle_waits : (s : State) → same_state Idle s ≡ true → same_state Waits s ≡ false
idle_waits s p = (or_parts (same_state Asks s) (same_state Waits s) (idle_wishes s p)).1

-- who wishes before and after a move waits after it exactly if it waited before
pub wishing_stays : (m : Move) (a : Access) (inhibit : Bool) (s : State) → (same_state Asks s || same_state Waits s) ≡ true → (same_state Asks (next m a inhibit s) || same_state Waits (next m a inhibit s)) ≡ true → same_state Waits (next m a inhibit s) ≡ same_state Waits s
wishing_stays m a inhibit Idle p q = absurd (true≢false (sym p))
wishing_stays m a inhibit Owns p q = absurd (true≢false (sym p))
wishing_stays Wish a inhibit Waits p q = refl
wishing_stays Wish a inhibit Asks p q = refl
wishing_stays Withdraw a inhibit Waits p q = absurd (true≢false (sym q))
wishing_stays Withdraw a inhibit Asks p q = absurd (true≢false (sym q))
wishing_stays Release a inhibit Waits p q = refl
wishing_stays Release a inhibit Asks p q = refl
