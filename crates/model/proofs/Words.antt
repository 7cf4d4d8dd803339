-- The book agrees with the cells after every call, so a read answers the last word.
use Rattle.std.proofs.Common.{◌≡◌, ℕ, ◌<◌, Bool, true, false, cond, not, ◌&&◌, eqb, ltb, List, [], ◌∷◌, is_ok, Some, Ok, Err, refl, ap, ◌∙◌}
use Rattle.std.proofs.lemmas.Bool.{lt-ltb, both_ways, eqb-true}
use Rattle.arbitration.specs.declared.replies.Event.TheVariants as event
use Rattle.model.specs.declared.calls.Call.{Call}
use Rattle.model.specs.declared.calls.Call.TheVariants.{Wish, Withdraw, Arbitrate, Address, Data, End, Release, Clear}
use Rattle.model.specs.declared.cells.Space.{Space}
use Rattle.model.specs.declared.cells.Cell.{Cell}
use Rattle.model.specs.declared.cells.Cell.TheVariants.{Absent, Fixed, Open}
use Rattle.model.specs.declared.parts.Link.{Link}
use Rattle.model.specs.declared.replies.Status.TheVariants.{Valid, Rejected}
use Rattle.model.specs.declared.replies.Answer.TheVariants.{Cycle}
use Rattle.model.specs.declared.replies.Reason.{Reason}
use Rattle.arbitration.specs.declared.replies.Refusal.{Refusal}
use Rattle.model.specs.Crates.{Table, Crate, operation_at, link_at, happens, store, same_space}
use Rattle.model.specs.Outcomes.{Outcome}
use Rattle.model.specs.Ways.{dropped, dropped_if_any}
use Rattle.model.specs.Addresses.{request, addressed}
use Rattle.model.specs.Cycles.{pointer, Cycled, cycled, as_outcome, advanced, transferred, word_cycle, pointer_cycle, data_cycle}
use Rattle.model.specs.Numbers.{status_code}
use Rattle.model.specs.Calls.{step}
use Rattle.model.specs.Runs.{after_calls}
use Rattle.model.specs.Book.{Book, word_of, setup_book, entered, is_success, noted, book_after}
use Rattle.model.specs.Laws.{ReadsAnswerTheLastWord}
use Rattle.model.proofs.Cases.{Branches, data_cases, step_cases}
use Rattle.model.proofs.Frame.{Steps, closes, dropped_kept, addressed_kept, released_kept}

abbrev pub SameCells : Crate → Crate → Type 0
SameCells c d = d.cells ≡ c.cells

-- only a data cycle changes a cell
pub cells_steps : Steps SameCells
cells_steps =
    record {
      same = λ c. refl;
      then = λ c d e p q. q ∙ p;
      event = λ n e c. refl;
      flags = λ n f c. refl;
      operation = λ n o c. refl;
      pointer = λ k s v c. refl;
    }

-- the book has the word of each cell
abbrev Agrees : Book → (ℕ → Table) → Type 0
Agrees b cells = (k : ℕ) (s : Space) (a : ℕ) → b k s a ≡ word_of (cells k s a)

module _ (b : Book) (c : Crate) (agrees : Agrees b c.cells) where
  same : (d : Crate) → SameCells c d → Agrees b d.cells
  same d e k s a = rw e (agrees k s a)

  advanced_cells : (block : Bool) (k : Link) (p : ℕ) (d : Crate) → (advanced block k p d).cells ≡ d.cells
  advanced_cells true k p d = refl
  advanced_cells false k p d = refl

  -- a word stored in a cell, and entered in the book at its place
  stored_agrees : (k : ℕ) (s : Space) (a w : ℕ) → Agrees (entered k s a w b) (store k s a w c).cells
  stored_agrees k s a w k' s' a' =
      (elim (eqb k k') as (λ t. eqb k k' ≡ t → cond (t && same_space s s' && eqb a a') (Some w) (b k' s' a') ≡ word_of (cond t (cond (same_space s s' && eqb a a') (Open w) (c.cells k s' a')) (c.cells k' s' a'))) [
        | true ↦ λ e. rw (eqb-true k k' e)
            (elim (same_space s s' && eqb a a') as (λ t. cond t (Some w) (b k' s' a') ≡ word_of (cond t (Open w) (c.cells k' s' a'))) [ true ↦ refl | false ↦ agrees k' s' a' ])
        | false ↦ λ _. agrees k' s' a'
      ]) refl

  -- the book after a transfer that was answered as the outcome says
  abbrev Written : Bool → Link → ℕ → Cycled → Type 0
  Written read k w y = Agrees (cond (eqb (status_code y.status) 0 && true && not read) (entered k.slot k.space (pointer k c) w b) b) y.crate.cells

  transferred_agrees : (block read : Bool) (k : Link) (w : ℕ) (x : Cell) → Written read k w (transferred block read k (pointer k c) w c x)
  transferred_agrees true read k w Absent = agrees
  transferred_agrees false read k w Absent = agrees
  transferred_agrees block true k w (Fixed x) = same (advanced block k (pointer k c) c) (advanced_cells block k (pointer k c) c)
  transferred_agrees block false k w (Fixed x) = agrees
  transferred_agrees block true k w (Open x) = same (advanced block k (pointer k c) c) (advanced_cells block k (pointer k c) c)
  transferred_agrees block false k w (Open x) = λ k' s' a'.
      let d : Crate = store k.slot k.space (pointer k c) w c in
      rw (advanced_cells block k (pointer k c) d) (stored_agrees k.slot k.space (pointer k c) w k' s' a')

  -- a cycle that is no transfer enters nothing
  other_agrees : (t read : Bool) (k : Link) (w : ℕ) (d : Crate) → SameCells c d → Agrees (cond (t && false && not read) (entered k.slot k.space (pointer k c) w b) b) d.cells
  other_agrees true read k w d e = same d e
  other_agrees false read k w d e = same d e

  pointer_cells : (read : Bool) (w : ℕ) (k : Link) → (pointer_cycle read w c k).crate.cells ≡ c.cells
  pointer_cells true w k = refl
  pointer_cells false w k = refl

  cycle_agrees : (ms : ℕ) (read : Bool) (w : ℕ) (k : Link) → let y : Cycled = data_cycle ms read w c k in
      Agrees (cond (eqb (status_code y.status) 0 && ltb ms 2 && not read) (entered k.slot k.space (pointer k c) w b) b) y.crate.cells
  cycle_agrees ms read w k = go (ltb ms 2) (eqb ms 2)
    where
      go : (x z : Bool) → let y : Cycled = cond x (word_cycle (eqb ms 1) read w c k) (cond z (pointer_cycle read w c k) (cycled Rejected 0 c)) in
          Agrees (cond (eqb (status_code y.status) 0 && x && not read) (entered k.slot k.space (pointer k c) w b) b) y.crate.cells
      go true z = transferred_agrees (eqb ms 1) read k w (c.cells k.slot k.space (pointer k c))
      go false true = other_agrees (eqb (status_code (pointer_cycle read w c k).status) 0) read k w (pointer_cycle read w c k).crate (pointer_cells read w k)
      go false false = agrees

  noted_refused : (x : Call) (r : Refusal Reason) → noted x (Err r) c b ≡ b
  noted_refused (Wish n l) r = refl
  noted_refused (Withdraw n l) r = refl
  noted_refused (Arbitrate n) r = refl
  noted_refused (Address n l ms ad) r = refl
  noted_refused (Data n l ms read w) r = refl
  noted_refused (End n l) r = refl
  noted_refused (Release n l) r = refl
  noted_refused (Clear n) r = refl

  branches : Branches c (λ x o. Agrees (noted x o.reply c b) o.crate.cells)
  branches =
      record {
        refuses = λ x r. rw (noted_refused x) agrees;
        wishes = λ n l a. agrees;
        withdraws = λ n l. agrees;
        arbitrates = λ n w _ _. agrees;
        addresses = λ n l ms ad _ _. same (addressed (request n ms ad) c).crate (addressed_kept SameCells cells_steps (request n ms ad) c);
        cycles = λ n l ms read w k _ e. rw e (cycle_agrees ms read w k);
        ends = λ n l o _ _. same (dropped n o.group c) (dropped_kept SameCells (closes SameCells cells_steps) n o.group c);
        releases = λ n l _. same (happens n (event.Release l) (dropped_if_any n (operation_at n c) c)) (released_kept SameCells cells_steps n l (operation_at n c) c);
        clears = λ n. agrees;
      }

  call_agrees : (x : Call) → Agrees (noted x (step x c).reply c b) (step x c).crate.cells
  call_agrees x = step_cases c (λ x o. Agrees (noted x o.reply c b) o.crate.cells) branches x

run_agrees : (xs : List Call) (c : Crate) (b : Book) → Agrees b c.cells → Agrees (book_after xs c b) (after_calls xs c).cells
run_agrees [] c b h = h
run_agrees (x ∷ xs) c b h = run_agrees xs (step x c).crate (noted x (step x c).reply c b) (call_agrees b c h x)

-- ---- a read
abbrev Answered : ℕ → Outcome → Type 0
Answered w o = o.reply ≡ Ok (Cycle Valid w)

read_word : (c : Crate) (k : Link) (p x w : ℕ) (block : Bool) (cell : Cell) → Answered w (as_outcome (transferred block true k p x c cell)) → word_of cell ≡ Some w
read_word c k p x w true Absent e = absurd (both_ways false refl (ap is_success e))
read_word c k p x w false Absent e = absurd (both_ways false refl (ap is_success e))
read_word c k p x w block (Fixed y) e = cc
read_word c k p x w block (Open y) e = cc

-- a single or block read with SS 0 answers the word of the cell at its place
read_answers : (c : Crate) (n l ms x w : ℕ) → ms < 2 → Answered w (step (Data n l ms true x) c) →
    (k : Link) × (link_at n c ≡ Some k) × (word_of (c.cells k.slot k.space (pointer k c)) ≡ Some w)
read_answers c n l ms x w small =
    let Q : Type 0 = (k : Link) × (link_at n c ≡ Some k) × (word_of (c.cells k.slot k.space (pointer k c)) ≡ Some w) in
    data_cases (λ o. Answered w o → Q) n c (λ r e. absurd (both_ways false refl (ap is_ok e))) l ms true x
    (λ k _ linked e. (k, linked, read_word c k (pointer k c) x w (eqb ms 1) (c.cells k.slot k.space (pointer k c)) (rw (lt-ltb ms 2 small) at e)))

pub reads_answer_the_last_word : (setup : Crate) → ReadsAnswerTheLastWord setup
reads_answer_the_last_word setup =
    record {
      last_word = λ before n l ms x w small e.
          let c : Crate = after_calls before setup in
          let r : (k : Link) × (link_at n c ≡ Some k) × (word_of (c.cells k.slot k.space (pointer k c)) ≡ Some w) = read_answers c n l ms x w small e in
          (r.0, r.1, run_agrees before setup (setup_book setup) (λ _ _ _. refl) r.0.slot r.0.space (pointer r.0 c) ∙ r.2);
    }
