use Rattle.std.proofs.Common.{◌≡◌, ◌<◌, true, length, Some, None, vec_items, sym, ap, ◌∙◌, subst, arith}
use Rattle.std.specs.List.{list_any}
use Rattle.arbitration.specs.Contenders.{at_level}
use Rattle.arbitration.specs.Rules.{in_range, add_refusal}
use Rattle.arbitration.proofs.Calls.{bus_of}
use Rattle.arbitration.proofs.Setup.{fits, level_taken, level_free}
use Rattle.arbitration.proofs.bus.Segment.admit.Goals as goal
use Rattle.arbitration.proofs.bus.Segment.admit.Goals.{After-has_level}

module _ (c : After-has_level) where
  few : length (vec_items c.self.inside.contenders) < 16
  few = omega (arith, c.len.ensures, c.self.inside.contenders.ok.0)

  ranged : in_range c.args.level c.args.access ≡ true
  ranged = fits c.args.level c.args.access c.highest_level.result c.highest_level.ensures (omega arith) (omega arith)

  taken : c.has_level.result ≡ list_any (at_level c.args.level) (vec_items c.self.inside.contenders)
  taken = c.has_level.ensures ∙ ap (list_any (at_level c.args.level)) c.deref.ensures.value

pub returns-then-has_level : goal.returns-then-has_level
returns-then-has_level c =
    let d = (goal.at.returns-then-has_level c).After-has_level in
    sym (subst (λ b. add_refusal c.args.level c.args.access b ≡ Some 3) c.self.view_is (level_taken c.args.level c.args.access (bus_of c.self.inside.number (vec_items c.self.inside.contenders) c.self.inside.inhibit) (few d) (ranged d) (sym (taken d) ∙ c.if-has_level.true)))

pub returns : goal.returns
returns c =
    let d = (goal.at.returns c).After-has_level in
    sym (subst (λ b. add_refusal c.args.level c.args.access b ≡ None) c.self.view_is (level_free c.args.level c.args.access (bus_of c.self.inside.number (vec_items c.self.inside.contenders) c.self.inside.inhibit) (few d) (ranged d) (sym (taken d) ∙ c.if-has_level.false)))
