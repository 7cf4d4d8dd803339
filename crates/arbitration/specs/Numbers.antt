-- The numbers under which refusals are reported.
use Rattle.std.specs.Prelude.{ℕ, Ok, Err, Result}
use Rattle.arbitration.specs.declared.replies.Reason.{Reason}
use Rattle.arbitration.specs.declared.replies.Reason.TheVariants.{OutOfRange, LevelInUse, TooManyContenders, NoSuchContender, WishesOrOwns, DoesNotWish, Owned, NobodyAsks, NotTheOwner}
use Rattle.arbitration.specs.declared.replies.Refusal.{Refusal}

-- the one place where a reason gets its number
abbrev pub number_of : Reason → ℕ
number_of OutOfRange = 2
number_of LevelInUse = 3
number_of TooManyContenders = 6
number_of NoSuchContender = 8
number_of WishesOrOwns = 20
number_of DoesNotWish = 21
number_of Owned = 22
number_of NobodyAsks = 23
number_of NotTheOwner = 24

-- a refusal as it is reported: its number, and the number of the segment that refused
pub record Report : Type 0 where
  pub number : ℕ
  pub segment : ℕ

-- a result of the code, with the reason of a refusal as its number
abbrev pub numbered : {A : Type 0} → Result A Reason → Result A ℕ
numbered (Ok a) = Ok a
numbered (Err r) = Err (number_of r)

-- a result of the code, with a refusal as it is reported
abbrev pub reported : {A : Type 0} → Result A (Refusal Reason) → Result A Report
reported (Ok a) = Ok a
reported (Err r) = Err (record { number = number_of r.reason; segment = r.segment })

-- what the rules say, with the segment at which they said it
abbrev pub at_segment : {A : Type 0} → ℕ → Result A ℕ → Result A Report
at_segment s (Ok a) = Ok a
at_segment s (Err n) = Err (record { number = n; segment = s })
