use Rattle.std.proofs.Common.{◌≡◌, rules, sym, subst}
use Rattle.arbitration.specs.Rules.{after}
use Rattle.arbitration.specs.Waiting.{WaitingIsBounded}
use Rattle.arbitration.proofs.Keeping.{SoundBus, sound_after}
use Rattle.arbitration.proofs.Patience.{waiting_is_bounded}
use Rattle.arbitration.proofs.bus.Segment.apply.Goals as goal

pub returns-clause-happens : goal.returns-clause-happens
returns-clause-happens c =
    let was : SoundBus c.args.self.now = subst SoundBus c.self.view_is c.self.invariant in
    let leaves : c.match-event.self ≡ after c.args.event c.args.self.now = search rules in (
    record {
      answered = search rules;
      leaves = leaves;
      was_sound = was;
      stays_sound = subst SoundBus (sym leaves) (sound_after c.args.event c.args.self.now was);
    }
    )

pub returns-clause-waiting_is_bounded : goal.returns-clause-waiting_is_bounded
returns-clause-waiting_is_bounded c = subst WaitingIsBounded c.self.view_is (waiting_is_bounded _ c.self.invariant)
