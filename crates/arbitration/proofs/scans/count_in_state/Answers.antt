use Rattle.std.proofs.Common.{◌≡◌, ◌+◌, ◌<◌, ◌%◌, ◌^◌, cond, length, rules, tests, ◌∙◌, arith}
use Rattle.std.proofs.lemmas.Iterator.{YieldsList-from_slice}
use Rattle.std.proofs.lemmas.Iterator.Consumers.{fold_from_yields_List}
use Rattle.arbitration.specs.Lists.{count}
use Rattle.arbitration.specs.Contenders.{in_state}
use Rattle.arbitration.proofs.Finding.{counted}
use Rattle.arbitration.proofs.scans.count_in_state.Goals as goal

pub returns : goal.returns
returns c =
    let cs = c.args.contenders.now in
    let p = in_state c.args.state in
    let short : 0 + length cs < 2 ^ 64 = omega (arith, c.iter.ensures.bound) in
    let folded = fold_from_yields_List _ (λ n d. (n + cond (p d) 1 0) % 2 ^ 64) _ c.fold.result c.fold.ensures.ran (YieldsList-from_slice cs c.iter.ensures.rest) (λ n d m q k. search (rules, tests)) in
    let told : c.fold.result ≡ 0 + count p cs = folded ∙ counted p 0 cs short in
    omega (arith, told)
