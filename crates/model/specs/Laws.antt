-- What holds of every run from a crate at rest.
use Rattle.std.specs.Prelude.{◌≡◌, ℕ, ◌+◌, ◌*◌, ◌<◌, ◌≤◌, Bool, true, false, ◌&&◌, ◌||◌, List, [], ◌∷◌, ◌++◌, is_ok, Some, Ok}
use Rattle.std.specs.List.{list_any}
use Rattle.arbitration.specs.Contenders.{idle, owns, wishes, assured}
use Rattle.arbitration.specs.Rules.{Bus, its}
use Rattle.arbitration.specs.Waiting.{rivals, to_others, to_prioritised}
use Rattle.model.specs.declared.calls.Call.{Call}
use Rattle.model.specs.declared.calls.Call.TheVariants.{Arbitrate, Data}
use Rattle.model.specs.declared.cells.Space.{Space}
use Rattle.model.specs.declared.parts.Link.{Link}
use Rattle.model.specs.declared.replies.Status.TheVariants.{Valid}
use Rattle.model.specs.declared.replies.Answer.TheVariants.{Cycle}
use Rattle.model.specs.Crates.{Crate, bus_at, link_at, pointer_at}
use Rattle.model.specs.Cycles.{pointer}
use Rattle.model.specs.Calls.{is_owner, step}
use Rattle.model.specs.Rest.{AtRest}
use Rattle.model.specs.Runs.{after_calls, grants_of, levels_on, Throughout, is_by, kind, is_end, is_transfer}
use Rattle.model.specs.Book.{setup_book, book_after}

-- ---- waiting
-- The calls met the crate c, and brought the grants ls on segment n. Of these at most 2k + p went to levels other than x,
-- and at most k + p if the inhibit was down before the first call: k is the number of other assured contenders,
-- p the number of these grants that went to prioritised ones.
pub record Bounded (n x : ℕ) (calls : List Call) (c : Crate) : Type 0 where
  pub at_most : let b : Bus = bus_at n c in let ls : List ℕ = levels_on n (grants_of calls c) in
      to_others x ls ≤ 2 * rivals x b + to_prioritised b ls
  pub at_most_if_down : let b : Bus = bus_at n c in let ls : List ℕ = levels_on n (grants_of calls c) in
      b.inhibit ≡ false → to_others x ls ≤ rivals x b + to_prioritised b ls

-- Whatever calls came before: no assured contender, master or interconnect, is passed over without end.
pub record WaitingIsBounded (setup : Crate) : Type 0 where
  -- while it wishes and nobody owns its segment, arbitrate is not refused there
  pub not_refused : (before : List Call) (n x : ℕ) → let c : Crate = after_calls before setup in
      its x assured (bus_at n c) ≡ true → its x wishes (bus_at n c) ≡ true → list_any owns (bus_at n c).contenders ≡ false →
      is_ok (step (Arbitrate n) c).reply ≡ true
  -- one that is idle, and then wishes after each of the calls; at the last call, which is any, its wish may go on, end or only begin
  pub bounded : (before calls : List Call) (last : Call) (n x : ℕ) → let c : Crate = after_calls before setup in
      its x assured (bus_at n c) ≡ true → its x idle (bus_at n c) ≡ true → Throughout (λ u. its x wishes (bus_at n u) ≡ true) calls c →
      Bounded n x (calls ++ last ∷ []) c

-- ---- links
-- the master of level l owns segment n and has the link k
pub record HasLink (n l : ℕ) (k : Link) (c : Crate) : Type 0 where
  pub owner : is_owner n l c ≡ true
  pub link : link_at n c ≡ Some k

-- no call of the list passes
abbrev pub NoneOf : (Call → Bool) → List Call → Type 0
NoneOf p calls = list_any p calls ≡ false

-- Whatever calls came before, and whatever calls come after a link was made:
pub record LinksStand (setup : Crate) : Type 0 where
  -- it stands until its own master's end or release
  pub stands : (before during : List Call) (n l : ℕ) (k : Link) → let c : Crate = after_calls before setup in
      HasLink n l k c → NoneOf (λ x. is_by n l x && is_end (kind x)) during → HasLink n l k (after_calls during c)
  -- and till then nothing but that master's data calls changes a cell or a pointer of its module
  pub untouched : (before during : List Call) (n l : ℕ) (k : Link) → let c : Crate = after_calls before setup in
      HasLink n l k c → NoneOf (λ x. is_by n l x && (is_end (kind x) || is_transfer (kind x))) during →
      ((s : Space) (a : ℕ) → (after_calls during c).cells k.slot s a ≡ c.cells k.slot s a) ×
      ((s : Space) → pointer_at k.slot s (after_calls during c) ≡ pointer_at k.slot s c)

-- ---- words
-- Whatever calls came before: a single or block read with SS 0 was made over a link, and it answers what the book has at the place of the read.
pub record ReadsAnswerTheLastWord (setup : Crate) : Type 0 where
  pub last_word : (before : List Call) (n l ms x w : ℕ) → let c : Crate = after_calls before setup in
      ms < 2 → (step (Data n l ms true x) c).reply ≡ Ok (Cycle Valid w) →
      (k : Link) × (link_at n c ≡ Some k) × (book_after before setup (setup_book setup) k.slot k.space (pointer k c) ≡ Some w)

-- ---- the theorem
-- all three laws, for every crate at rest
abbrev pub EveryRunBoundsWaitingKeepsLinksAndReadsTheLastWord : Type 0
EveryRunBoundsWaitingKeepsLinksAndReadsTheLastWord = (setup : Crate) → AtRest setup → WaitingIsBounded setup × LinksStand setup × ReadsAnswerTheLastWord setup
