-- What a script prints is what its pieces between the ends of lines print.
use Rattle.std.proofs.Common.{◌≡◌, ℕ, Bool, true, false, cond, eqb, List, [], ◌∷◌, ◌++◌, sym, refl, ap, ◌∙◌, append_assoc, append-nil}
use Rattle.std.specs.List.{slice_split, onto_first}
use Rattle.loadbar.specs.declared.runs.Run.{Run}
use Rattle.loadbar.specs.Runs.{prefixed, lines_of, printed, taken_in, report}

-- ---- one line more
-- the run after some lines
abbrev pub run_after : List (List ℕ) → Run → Run
run_after [] p = p
run_after (l ∷ ls) p = run_after ls (taken_in l p)

pub run_after_more : (ls : List (List ℕ)) (l : List ℕ) (p : Run) → run_after (ls ++ l ∷ []) p ≡ taken_in l (run_after ls p)
run_after_more [] l p = refl
run_after_more (k ∷ ls) l p = run_after_more ls l (taken_in k p)

pub report_more : (ls : List (List ℕ)) (l : List ℕ) (p : Run) → report (ls ++ l ∷ []) p ≡ report ls p ++ printed l (run_after ls p)
report_more [] l p = append-nil (printed l p)
report_more (k ∷ ls) l p = ap (λ t. printed k p ++ t) (report_more ls l (taken_in k p)) ∙ sym (append_assoc (printed k p) (report ls (taken_in k p)) (printed l (run_after ls (taken_in k p))))

-- ---- the pieces are the lines, and where the text is empty or ends a line an empty piece more, which prints nothing
abbrev ends : ℕ → Bool
ends b = eqb b 10

abbrev Alike : List (List ℕ) → List (List ℕ) → Type 0
Alike pieces [] = pieces ≡ [] ∷ []
Alike pieces (l ∷ ls) = (more : List (List ℕ)) × (pieces ≡ l ∷ more) × ((p : Run) → report more p ≡ report ls p)

print_alike : (pieces ls : List (List ℕ)) → Alike pieces ls → (p : Run) → report pieces p ≡ report ls p
print_alike pieces [] e p = ap (λ ks. report ks p) e
print_alike pieces (l ∷ ls) (more, e, same) p = ap (λ ks. report ks p) e ∙ ap (λ t. printed l p ++ t) (same (taken_in l p))

onto_alike : (b : ℕ) (pieces ls : List (List ℕ)) → Alike pieces ls → Alike (onto_first b pieces) (prefixed b ls)
onto_alike b pieces [] e = ([], ap (onto_first b) e, λ p. refl)
onto_alike b pieces (l ∷ ls) (more, e, same) = (more, ap (onto_first b) e, same)

alike : (t : List ℕ) → Alike (slice_split ends t) (lines_of t)
alike [] = refl
alike (b ∷ bs) =
    elim (ends b) as (λ t. Alike (cond t ([] ∷ slice_split ends bs) (onto_first b (slice_split ends bs))) (cond t ([] ∷ lines_of bs) (prefixed b (lines_of bs)))) [
      | true ↦ (slice_split ends bs, refl, print_alike (slice_split ends bs) (lines_of bs) (alike bs))
      | false ↦ onto_alike b (slice_split ends bs) (lines_of bs) (alike bs)
    ]

pub report_pieces : (t : List ℕ) (p : Run) → report (slice_split ends t) p ≡ report (lines_of t) p
report_pieces t = print_alike (slice_split ends t) (lines_of t) (alike t)
