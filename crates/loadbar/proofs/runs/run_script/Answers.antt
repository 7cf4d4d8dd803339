use Rattle.std.proofs.Common.{◌≡◌, ℕ, List, [], ◌∷◌, ◌++◌, map, Bor, sym, ap, ◌∙◌, ◌==◌, rules, tests}
use Rattle.std.proofs.lemmas.List.{map_push}
use Rattle.std.proofs.lemmas.Iterator.Consumers.{YieldsList-at, YieldsList-end}
use Rattle.std.proofs.lemmas.Iterator.Splits.{YieldsList-from_slice_split}
use Rattle.loadbar.specs.Runs.{start, report, printed, taken_in}
use Rattle.loadbar.proofs.Lines.{run_after, report_more, run_after_more, report_pieces}
use Rattle.loadbar.proofs.runs.run_script.Goals as goal

pub loop-line-preserved : goal.loop-line-preserved
loop-line-preserved c =
    let before = map (λ (p : Bor (List ℕ)). p.now) c.loop-line.yielded in
    let more : map (λ (p : Bor (List ℕ)). p.now) (c.loop-line.yielded ++ c.in-Some.line ∷ []) ≡ before ++ c.in-Some.line.now ∷ [] = map_push _ _ _ in
    let printed_for = c.as_str.ensures.value ∙ c.in_ok-printed.ensures.text ∙ ap (printed c.in-Some.line.now) c.loop-line.invariant.run in
    record {
      text = c.in_ok-push_str.ensures.bytes ∙ (λ j. c.loop-line.invariant.text j ++ printed_for j) ∙ sym (report_more before c.in-Some.line.now start) ∙ ap (λ ls. report ls start) (sym more);
      run = c.in_ok-printed.ensures.after ∙ ap (taken_in c.in-Some.line.now) c.loop-line.invariant.run ∙ sym (run_after_more before c.in-Some.line.now start) ∙ ap (λ ls. run_after ls start) (sym more);
    }

pub returns : goal.returns
returns c =
    let seen = YieldsList-end
    (YieldsList-at c.into_iter-line-iterator.ensures.into_iter_gives (YieldsList-from_slice_split _ (λ b. b == 10) c.args.script.now c.split-line-items.ensures.rest c.split-line-items.ensures.done c.split-line-items.ensures.closure (λ x b q k. search (rules, tests))))
    c.loop-line.yielded _ c.loop-line.yielded_by _ _ c.in-None.is c.next.ensures.steps in
    c.loop-line.invariant.text ∙ ap (λ ls. report ls start) seen.0 ∙ report_pieces c.args.script.now start
