use Rattle.std.proofs.Common.{rules, ◌≡◌, ◌≤◌, ◌∙◌, ℕ, cond, ltb, Some, None, length, ap, unwrap_or, arith, not}
use Rattle.std.proofs.lemmas.Iterator.{YieldsList-from_slice}
use Rattle.std.proofs.lemmas.Iterator.Search.{position_from_yields_List}
use Rattle.std.proofs.lemmas.List.Sums.{prefix_len-le-length}
use Rattle.loadbar.proofs.words.length_before.Goals as goal

-- a place within the end, or else the end, is that place
place_or_end : (n k : ℕ) → n ≤ k → unwrap_or (cond (ltb n k) (Some n) None) k ≡ n
place_or_end n k within = grind arith

pub returns-clause-place : goal.returns-clause-place
returns-clause-place g c = λ p same.
    let text = c.args.text.now in
    let found = position_from_yields_List p _ _ c.position.result c.position.ensures.ran (YieldsList-from_slice text c.iter.ensures.rest) (λ x b q k. search (rules, same)) in
    c.unwrap_or.ensures ∙ ap (λ o. unwrap_or o (length text)) found ∙ place_or_end _ _ (prefix_len-le-length (λ b. not (p b)) text)
