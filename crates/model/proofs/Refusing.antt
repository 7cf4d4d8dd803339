-- A refused call changes nothing, and no call brings more than seven grants.
use Rattle.std.proofs.Common.{◌≡◌, ℕ, zero, suc, ◌≤◌, true, cond, List, [], ◌∷◌, length, is_ok, Err, Result, sym, refl, ap, arith, length-append}
use lib.ListN.{length-map}
use Rattle.std.proofs.lemmas.Bool.{cond_both, both_ways, true≢false}
use Rattle.arbitration.specs.declared.replies.Answer.{Answer}
use Rattle.arbitration.specs.declared.replies.Event.TheVariants.{Arbitrate}
use Rattle.arbitration.specs.Rules.{answer}
use Rattle.arbitration.specs.Waiting.{granted_by}
use Rattle.model.specs.declared.parts.Interconnect.{Interconnect}
use Rattle.model.specs.declared.replies.Reason.{Reason}
use Rattle.arbitration.specs.declared.replies.Refusal.{Refusal}
use Rattle.model.specs.Crates.{Crate, bus_at}
use Rattle.model.specs.Outcomes.{Outcome, refused}
use Rattle.model.specs.Ways.{next_hop, path, path_to}
use Rattle.model.specs.Addresses.{Request, group_of, request, busy, grant, wishing, hop, travelled}
use Rattle.model.specs.Singles.{named, ARefusedCallNamesItsSegmentAndChangesNothing, ACallBringsAtMostSevenGrants}
use Rattle.model.proofs.Basics.{opt_both}
use Rattle.model.proofs.Endings.{one_grant}
use Rattle.model.proofs.Cases.{Branches, step_cases, arrived_cases, started_cases}

-- ---- an outcome that is no refusal
abbrev Answered : Outcome → Type 0
Answered o = is_ok o.reply ≡ true

travelled_answered : (r : Request) (m : ℕ) (is : List Interconnect) (c : Crate) → Answered (travelled r m is c)
unfolding travelled
travelled_answered r m [] c = arrived_cases Answered r m c refl (λ k _. refl)
travelled_answered r m (i ∷ is) c =
    let d : Crate = (hop i c).crate in
    cond_both (hop i c).through (travelled r i.far is d) (busy r i.far d) Answered (λ _. travelled_answered r i.far is d) (λ _. refl)

-- ---- a refusal, if the outcome is one, is at n, and nothing changed
abbrev Refuses : Crate → ℕ → Outcome → Type 0
Refuses c n o = (r : Refusal Reason) → o.reply ≡ Err r → (r.segment ≡ n) × (o.crate ≡ c) × (o.grants ≡ [])

refused_here : (c : Crate) (n : ℕ) (q : Reason) → Refuses c n (refused q n c)
refused_here c n q r e = let same : record { reason = q; segment = n } ≡ r = cc in (ap (λ (z : Refusal Reason). z.segment) (sym same), refl, refl)

not_refused : (c : Crate) (n : ℕ) (o : Outcome) → Answered o → Refuses c n o
not_refused c n o ok r e = absurd (both_ways (is_ok o.reply) (ap is_ok e) ok)

refusals : (c : Crate) → Branches c (λ x o. Refuses c (named x) o)
refusals c =
    record {
      refuses = λ x q. refused_here c (named x) q;
      wishes = λ n l a r e. absurd (true≢false (ap is_ok e));
      withdraws = λ n l r e. absurd (true≢false (ap is_ok e));
      arbitrates = λ n w _ _ r e. absurd (true≢false (ap is_ok e));
      addresses = λ n l ms ad _ _.
          started_cases (Refuses c n) (request n ms ad) _ c (refused_here c n) (λ k _ r e. absurd (true≢false (ap is_ok e)))
          (not_refused c n _ (travelled_answered (request n ms ad) n (path_to n (group_of n ad) c) c));
      cycles = λ n l ms read w k _ _ r e. absurd (true≢false (ap is_ok e));
      ends = λ n l o _ _ r e. absurd (true≢false (ap is_ok e));
      releases = λ n l _ r e. absurd (true≢false (ap is_ok e));
      clears = λ n r e. absurd (true≢false (ap is_ok e));
    }

pub a_refused_call_names_its_segment_and_changes_nothing : ARefusedCallNamesItsSegmentAndChangesNothing
a_refused_call_names_its_segment_and_changes_nothing x c = step_cases c (λ x o. Refuses c (named x) o) (refusals c) x

-- ---- at most one grant for each interconnect of a path, and a path has at most seven
hop_grants : (i : Interconnect) (c : Crate) → length (hop i c).grants ≤ 1
hop_grants i c = let r : Result Answer ℕ = answer Arbitrate (bus_at i.far (wishing i c)) in omega (arith, one_grant r, length-map (granted_by r) (grant i.far))

abbrev Few : ℕ → Outcome → Type 0
Few k o = length o.grants ≤ k

travelled_grants : (r : Request) (m : ℕ) (is : List Interconnect) (c : Crate) → Few (length is) (travelled r m is c)
unfolding travelled
travelled_grants r m [] c = arrived_cases (Few 0) r m c (omega arith) (λ k _. omega arith)
travelled_grants r m (i ∷ is) c =
    let d : Crate = (hop i c).crate in
    let o : Outcome = cond (hop i c).through (travelled r i.far is d) (busy r i.far d) in
    let later : Few (length is) o = cond_both (hop i c).through (travelled r i.far is d) (busy r i.far d) (Few (length is)) (λ _. travelled_grants r i.far is d) (λ _. omega arith) in
    omega (arith, hop_grants i c, later, length-append (hop i c).grants o.grants)

path_length : (k n g : ℕ) (is : List Interconnect) → length (path k n g is) ≤ k
unfolding path
path_length zero n g is = omega arith
path_length (suc k) n g is = opt_both (next_hop n g is) [] (λ i. i ∷ path k i.far g is) (λ js. length js ≤ suc k) (λ _. omega arith) (λ i _. omega (arith, path_length k i.far g is))

path_to_length : (n g : ℕ) (c : Crate) → length (path_to n g c) ≤ 7
path_to_length n g c = path_length _ n g c.interconnects

few_grants : (c : Crate) → Branches c (λ _ o. Few 7 o)
few_grants c =
    record {
      refuses = λ x q. omega arith;
      wishes = λ n l a. omega arith;
      withdraws = λ n l. omega arith;
      arbitrates = λ n w _ _. omega arith;
      addresses = λ n l ms ad _ _.
          let r : Request = request n ms ad in
          let is : List Interconnect = path_to n (group_of n ad) c in
          started_cases (Few 7) r is c (λ q. omega arith) (λ k _. omega arith) (omega (arith, travelled_grants r n is c, path_to_length n (group_of n ad) c));
      cycles = λ n l ms read w k _ _. omega arith;
      ends = λ n l o _ _. omega arith;
      releases = λ n l _. omega arith;
      clears = λ n. omega arith;
    }

pub a_call_brings_at_most_seven_grants : ACallBringsAtMostSevenGrants
a_call_brings_at_most_seven_grants x c = step_cases c (λ _ o. Few 7 o) (few_grants c) x
