-- What holds of every single call, whatever crate it meets.
use Rattle.std.specs.Prelude.{◌≡◌, ℕ, ◌≤◌, [], length, Err}
use Rattle.model.specs.declared.calls.Call.{Call}
use Rattle.model.specs.declared.calls.Call.TheVariants.{Wish, Withdraw, Arbitrate, Address, Data, End, Release, Clear}
use Rattle.model.specs.declared.replies.Reason.{Reason}
use Rattle.arbitration.specs.declared.replies.Refusal.{Refusal}
use Rattle.model.specs.Crates.{Crate}
use Rattle.model.specs.Calls.{step}

-- the segment that a call names
abbrev pub named : Call → ℕ
named (Wish n l) = n
named (Withdraw n l) = n
named (Arbitrate n) = n
named (Address n l ms ad) = n
named (Data n l ms read w) = n
named (End n l) = n
named (Release n l) = n
named (Clear n) = n

-- a refusal has the place that the call named, and leaves the crate as it was, with no grant
abbrev pub ARefusedCallNamesItsSegmentAndChangesNothing : Type 0
ARefusedCallNamesItsSegmentAndChangesNothing = (x : Call) (c : Crate) (r : Refusal Reason) → (step x c).reply ≡ Err r → (r.segment ≡ named x) × ((step x c).crate ≡ c) × ((step x c).grants ≡ [])

-- no call brings more than seven grants
abbrev pub ACallBringsAtMostSevenGrants : Type 0
ACallBringsAtMostSevenGrants = (x : Call) (c : Crate) → length (step x c).grants ≤ 7
