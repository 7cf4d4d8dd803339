use Rattle.std.proofs.Common.{◌≡◌, None, true, is_ok, vec_items, sym, ap, ◌∙◌, subst}
use Rattle.arbitration.specs.Rules.{Bus, add_refusal}
use Rattle.arbitration.specs.Sound.{Sound}
use Rattle.arbitration.proofs.Calls.{bus_of}
use Rattle.arbitration.proofs.Setup.{admitted, not_refused, sound_pushed}
use Rattle.arbitration.proofs.bus.Segment.add_contender.Goals as goal
use Rattle.arbitration.proofs.bus.Segment.add_contender.Goals.{After-push}

-- the contenders with the newcomer are sound
stays : (c : After-push) → Sound c.push.new.self.items c.self.inside.inhibit
stays c =
    let before : Bus = bus_of c.self.inside.number (vec_items c.self.inside.contenders) c.self.inside.inhibit in
    let passed : is_ok c.admit.result ≡ true = sym c.map_err.ensures.variant ∙ ap is_ok c.in_ok-map_err.was in
    let free : add_refusal c.args.level c.args.access before ≡ None = subst (λ b. add_refusal c.args.level c.args.access b ≡ None) (sym c.self.view_is) (sym c.admit.ensures ∙ not_refused c.admit.result passed) in
    let tests = admitted c.args.level c.args.access before free in
    sound_pushed _ _ _ c.self.inside.inhibit c.args.level c.args.access c.push.ensures.items c.self.invariant tests.0 tests.1 tests.2

pub invariant_of-self-2 : goal.invariant_of-self-2
invariant_of-self-2 c = stays (goal.at.invariant_of-self-2 c).After-push

pub returns-clause-stays_sound : goal.returns-clause-stays_sound
returns-clause-stays_sound c = stays (goal.at.returns-clause-stays_sound c).After-push
