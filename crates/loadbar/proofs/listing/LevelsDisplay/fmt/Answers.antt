use Rattle.std.proofs.Common.{◌≡◌, false, rules, tests, sym, ◌∙◌}
use Rattle.std.specs.List.{list_any}
use Rattle.std.proofs.lemmas.Iterator.{YieldsList-from_slice}
use Rattle.std.proofs.lemmas.Iterator.Search.{any_from_yields_List}
use Rattle.arbitration.specs.Contenders.{in_state}
use Rattle.loadbar.proofs.listing.LevelsDisplay.fmt.Goals as goal

pub returns-then-not-any-clause-writes : goal.returns-then-not-any-clause-writes
returns-then-not-any-clause-writes g c = λ plain wrote.
    let l = c.args.self.now in
    let told = any_from_yields_List (in_state l.state) _ _ c.any.result c.any.ensures.ran (YieldsList-from_slice l.contenders.now c.iter.ensures.rest) (λ x b q k. search (rules, tests)) in
    let nobody : list_any (in_state l.state) l.contenders.now ≡ false = sym told ∙ c.if-not-any.true in
    rw nobody (c.write.ensures.writes plain wrote)
