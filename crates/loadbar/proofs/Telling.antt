-- From the contracts of the segment to the lines that are printed.
use Rattle.std.proofs.Common.{◌≡◌, ℕ, Ok, Err, Result, ap}
use Rattle.arbitration.specs.declared.replies.Answer.{Answer}
use Rattle.arbitration.specs.declared.replies.Reason.{Reason}
use Rattle.arbitration.specs.declared.replies.Refusal.{Refusal}
use Rattle.arbitration.specs.Numbers.{Report, number_of, reported, at_segment}
use Rattle.loadbar.specs.Listing.{plain}

-- the number of a refusal is the one that the rules give
pub plain_of : (n : ℕ) (r : Result Answer (Refusal Reason)) (v : Result Answer ℕ) → reported r ≡ at_segment n v → plain r ≡ v
plain_of n (Ok a) (Ok b) e = let same : a ≡ b = cc in ap Ok same
plain_of n (Ok a) (Err k) e = absurd cc
plain_of n (Err r) (Ok b) e = absurd cc
plain_of n (Err r) (Err k) e = let same : ◌≡◌ {A = Report} (record { number = number_of r.reason; segment = r.segment }) (record { number = k; segment = n }) = cc in ap (λ (q : Report). Err q.number) same
