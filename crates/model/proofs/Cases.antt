-- The branches of a call: refused, or not, with what then holds.
use Rattle.std.proofs.Common.{◌≡◌, ℕ, Bool, true, false, not, eqb, ltb, List, [], ◌∷◌, is_some, Some, None, Option, refl}
use Rattle.std.proofs.lemmas.Option.{none-some}
use Rattle.std.proofs.lemmas.Bool.{cond_both, eqb-true, not-false}
use Rattle.arbitration.specs.declared.contenders.Contender.{Contender}
use Rattle.arbitration.specs.declared.replies.Event.TheVariants as event
use Rattle.std.specs.List.{list_any}
use Rattle.arbitration.specs.Contenders.{idle, owns, wishes}
use Rattle.arbitration.specs.Rules.{its, winner}
use Rattle.model.specs.declared.calls.Call.{Call}
use Rattle.model.specs.declared.calls.Call.TheVariants.{Wish, Withdraw, Arbitrate, Address, Data, End, Release, Clear}
use Rattle.model.specs.declared.parts.Interconnect.{Interconnect}
use Rattle.model.specs.declared.parts.Link.{Link}
use Rattle.model.specs.declared.parts.Operation.{Operation}
use Rattle.model.specs.declared.replies.Answer.{Answer}
use Rattle.model.specs.declared.replies.Answer.TheVariants.{Done}
use Rattle.model.specs.declared.replies.Reason.{Reason}
use Rattle.model.specs.Crates.{Crate, segment_at, bus_at, operation_at, link_at, happens, interconnect_to, set_flags, index_of}
use Rattle.model.specs.Outcomes.{Outcome, refused, answered, refused_if, given}
use Rattle.model.specs.Ways.{dropped, dropped_if_any}
use Rattle.model.specs.Addresses.{Request, group_of, request, is_meant, found, linked, failure, arrived, travelled, started, addressed}
use Rattle.model.specs.Cycles.{as_outcome, data_cycle}
use Rattle.model.specs.Calls.{is_master, is_owner, is_owned, is_linked, on_segment, by_master, by_owner, granting, is_begun_elsewhere, data_call, no_flags, step}
use Rattle.model.specs.Singles.{named}
use Rattle.model.proofs.Basics.{opt_both}

-- a master that owns its segment
pub record Owner (n l : ℕ) (c : Crate) : Type 0 where
  pub master : is_master n l c ≡ true
  pub owner : is_owner n l c ≡ true

-- ---- checks
module _ (P : Outcome → Type 0) (n : ℕ) (c : Crate) (bad : (r : Reason) → P (refused r n c)) where
  refused_if_cases : (t : Bool) (r : Reason) (o : Outcome) → (t ≡ false → P o) → P (refused_if t r n c o)
  refused_if_cases t r o good = cond_both t (refused r n c) o P (λ _. bad r) good

  needs_cases : (t : Bool) (r : Reason) (o : Outcome) → (t ≡ true → P o) → P (refused_if (not t) r n c o)
  needs_cases t r o good = refused_if_cases (not t) r o (λ e. good (not-false t e))

  given_cases : {A : Type 0} (x : Option A) (r : Reason) (f : A → Outcome) → ((a : A) → x ≡ Some a → P (f a)) → P (given x r n c f)
  given_cases None r f good = bad r
  given_cases (Some a) r f good = good a refl

  segment_cases : (o : Outcome) → (is_some (segment_at n c) ≡ true → P o) → P (on_segment n c o)
  segment_cases o good = needs_cases (is_some (segment_at n c)) _ o good

  master_cases : (l : ℕ) (o : Outcome) → (is_master n l c ≡ true → P o) → P (by_master n l c o)
  master_cases l o good = segment_cases _ (λ _. needs_cases (is_master n l c) _ o good)

  owner_cases : (l : ℕ) (o : Outcome) → (is_owner n l c ≡ true → P o) → P (by_owner n l c o)
  owner_cases l o good = needs_cases (is_owner n l c) _ o good

  pub data_cases : (l ms : ℕ) (read : Bool) (v : ℕ) → ((k : Link) → Owner n l c → link_at n c ≡ Some k → P (as_outcome (data_cycle ms read v c k))) → P (data_call n l ms read v c)
  data_cases l ms read v good =
      master_cases l _
      (λ m. refused_if_cases (ltb 7 ms) _ _
      (λ _. owner_cases l _
      (λ o. given_cases (link_at n c) _ (λ k. as_outcome (data_cycle ms read v c k)) (λ k e. good k (record { master = m; owner = o }) e))))

-- ---- P of what comes of any call, from P of each way of it
pub record Branches (c : Crate) (P : Call → Outcome → Type 0) : Type 0 where
  pub refuses : (x : Call) (r : Reason) → P x (refused r (named x) c)
  pub wishes : (n l : ℕ) (a : Answer) → P (Wish n l) (answered a (happens n (event.Wish l) c))
  pub withdraws : (n l : ℕ) → P (Withdraw n l) (answered Done (happens n (event.Withdraw l) c))
  pub arbitrates : (n : ℕ) (w : Contender) → list_any owns (bus_at n c).contenders ≡ false → winner (bus_at n c).contenders ≡ Some w → P (Arbitrate n) (granting n c w)
  pub addresses : (n l ms ad : ℕ) → Owner n l c → is_some (link_at n c) ≡ false → P (Address n l ms ad) (addressed (request n ms ad) c)
  pub cycles : (n l ms : ℕ) (read : Bool) (w : ℕ) (k : Link) → Owner n l c → link_at n c ≡ Some k → P (Data n l ms read w) (as_outcome (data_cycle ms read w c k))
  pub ends : (n l : ℕ) (o : Operation) → Owner n l c → operation_at n c ≡ Some o → P (End n l) (answered Done (dropped n o.group c))
  pub releases : (n l : ℕ) → Owner n l c → P (Release n l) (answered Done (happens n (event.Release l) (dropped_if_any n (operation_at n c) c)))
  pub clears : (n : ℕ) → P (Clear n) (answered Done (set_flags n no_flags c))

module _ (c : Crate) (P : Call → Outcome → Type 0) (w : Branches c P) where
  pub step_cases : (x : Call) → P x (step x c)
  step_cases (Wish n l) =
      let x : Call = Wish n l in
      master_cases (P x) n c (w.refuses x) l _ (λ _. needs_cases (P x) n c (w.refuses x) (its l idle (bus_at n c)) _ _ (λ _. w.wishes n l _))
  step_cases (Withdraw n l) =
      let x : Call = Withdraw n l in
      master_cases (P x) n c (w.refuses x) l _ (λ _. needs_cases (P x) n c (w.refuses x) (its l wishes (bus_at n c)) _ _ (λ _. w.withdraws n l))
  step_cases (Arbitrate n) =
      let x : Call = Arbitrate n in
      segment_cases (P x) n c (w.refuses x) _
      (λ _. refused_if_cases (P x) n c (w.refuses x) (is_owned n c) _ _
      (λ free. given_cases (P x) n c (w.refuses x) (winner (bus_at n c).contenders) _ (granting n c) (λ v e. w.arbitrates n v free e)))
  step_cases (Address n l ms ad) =
      let x : Call = Address n l ms ad in
      master_cases (P x) n c (w.refuses x) l _
      (λ m. refused_if_cases (P x) n c (w.refuses x) (ltb 1 ms) _ _
      (λ _. owner_cases (P x) n c (w.refuses x) l _
      (λ o. refused_if_cases (P x) n c (w.refuses x) (is_linked n c) _ _
      (λ free. refused_if_cases (P x) n c (w.refuses x) (is_begun_elsewhere (group_of n ad) (operation_at n c)) _ _
      (λ _. w.addresses n l ms ad (record { master = m; owner = o }) free)))))
  step_cases (Data n l ms read v) = data_cases (P (Data n l ms read v)) n c (w.refuses (Data n l ms read v)) l ms read v (w.cycles n l ms read v)
  step_cases (End n l) =
      let x : Call = End n l in
      master_cases (P x) n c (w.refuses x) l _
      (λ m. owner_cases (P x) n c (w.refuses x) l _
      (λ o. given_cases (P x) n c (w.refuses x) (operation_at n c) _ (λ u. answered Done (dropped n u.group c))
      (λ u e. w.ends n l u (record { master = m; owner = o }) e)))
  step_cases (Release n l) =
      let x : Call = Release n l in
      master_cases (P x) n c (w.refuses x) l _ (λ m. owner_cases (P x) n c (w.refuses x) l _ (λ o. w.releases n l (record { master = m; owner = o })))
  step_cases (Clear n) =
      let x : Call = Clear n in
      segment_cases (P x) n c (w.refuses x) _ (λ _. needs_cases (P x) n c (w.refuses x) (is_some (interconnect_to n c)) _ _ (λ _. w.clears n))

-- ---- the branches of an address
pub found_parts : (r : Request) (m k : ℕ) (c : Crate) → found r m c ≡ Some k → (m ≡ r.group) × (index_of (is_meant m r.ad) c.slots ≡ Some k)
found_parts r m k c =
    cond_both (eqb m r.group) (index_of (is_meant m r.ad) c.slots) None (λ o. o ≡ Some k → (m ≡ r.group) × (index_of (is_meant m r.ad) c.slots ≡ Some k))
    (λ e h. (eqb-true m r.group e, h)) (λ _ h. absurd (none-some k h))

pub arrived_cases : (P : Outcome → Type 0) (r : Request) (m : ℕ) (c : Crate) →
    P (failure r m c) → ((k : ℕ) → found r m c ≡ Some k → P (linked r k c)) → P (arrived r m c)
arrived_cases P r m c a b = opt_both (found r m c) (failure r m c) (λ k. linked r k c) P (λ _. a) b

pub started_cases : (P : Outcome → Type 0) (r : Request) (is : List Interconnect) (c : Crate) →
    ((q : Reason) → P (refused q r.segment c)) → ((k : ℕ) → found r r.segment c ≡ Some k → P (linked r k c)) →
    P (travelled r r.segment is c) → P (started r is c)
started_cases P r [] c a b d = given_cases P r.segment c a (found r r.segment c) _ (λ k. linked r k c) b
started_cases P r (i ∷ is) c a b d = d
