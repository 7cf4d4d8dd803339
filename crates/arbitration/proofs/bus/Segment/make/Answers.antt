use Rattle.std.proofs.Common.{◌≡◌, ℕ, Some, Err, vec_items, position, sym, ap, ◌∙◌, subst, rules}
use Rattle.std.specs.Vec.{with_item, with_items}
use Rattle.arbitration.specs.Contenders.{at_level, move_verdict}
use Rattle.arbitration.specs.Numbers.{number_of, numbered}
use Rattle.arbitration.specs.Rules.{move_answer, after_move}
use Rattle.arbitration.proofs.Calls.{bus_of, settles, searched, move_none, move_told, move_refused, move_made, move_stays}
use Rattle.arbitration.proofs.Keeping.{SoundBus, sound_move}
use Rattle.arbitration.proofs.bus.Segment.make.Goals as goal
use Rattle.arbitration.proofs.bus.Segment.make.Goals.{After-make, After-settle-self-inside}

pub returns-in_err-i : goal.returns-in_err-i
returns-in_err-i c =
    let none = searched (position (at_level c.args.level)) c.deref.ensures.value c.place_of_level.ensures c.ok_or.ensures.ok_part c.in_err-i.was in
    let told = subst (λ b. move_answer c.args.step c.args.level b ≡ Err 8) c.self.view_is (move_none c.self.inside.number c.args.step c.args.level c.self.inside.inhibit (vec_items c.self.inside.contenders) none) in
    let refused : numbered c.from_residual.result ≡ Err 8 = search rules in
    record { answer = refused ∙ sym told; after = move_stays c.args.step c.args.level c.args.self.now 8 told }

-- ---- from the contender's own move on
module _ (c : After-make) where
  found : position (at_level c.args.level) (vec_items c.self.inside.contenders) ≡ Some c.in_ok-i.i
  found = searched (position (at_level c.args.level)) c.deref.ensures.value c.place_of_level.ensures c.ok_or.ensures.ok_part c.in_ok-i.was

  -- what the contender answered is what the rules answer
  told : move_answer c.args.step c.args.level c.args.self.now ≡ move_verdict c.args.step c.self.inside.inhibit c.index_mut.result.now
  told = ap (move_answer c.args.step c.args.level) (sym c.self.view_is) ∙ move_told c.self.inside.number c.args.step c.args.level c.self.inside.inhibit (vec_items c.self.inside.contenders) found c.index_mut.ensures.value c.make.ensures.after

  -- a contender that refused is as it was
  stays : (k : ℕ) → Err k ≡ move_verdict c.args.step c.self.inside.inhibit c.index_mut.result.now → bus_of c.self.inside.number (vec_items (with_item c.self.inside.contenders c.in_ok-i.i c.make.new.self)) c.self.inside.inhibit ≡ after_move c.args.step c.args.level (bus_of c.self.inside.number (vec_items c.self.inside.contenders) c.self.inside.inhibit)
  stays = move_refused c.self.inside.number c.args.step c.args.level c.self.inside.inhibit (vec_items c.self.inside.contenders) found c.index_mut.ensures.value c.make.ensures.after

pub invariant_of-self : goal.invariant_of-self
invariant_of-self c =
    let refused : Err (number_of c.in_err-answer.field-0.0) ≡ move_verdict c.args.step c.self.inside.inhibit c.index_mut.result.now = search rules in
    subst SoundBus (sym (stays (goal.at.invariant_of-self c).After-make _ refused)) (sound_move c.args.step c.args.level _ c.self.invariant)

pub returns-in_err-answer : goal.returns-in_err-answer
returns-in_err-answer c =
    let refused : Err (number_of c.in_err-answer.field-0.0) ≡ move_verdict c.args.step c.self.inside.inhibit c.index_mut.result.now = search rules in
    let said : numbered c.from_residual-in_err-answer.result ≡ Err (number_of c.in_err-answer.field-0.0) = search rules in
    record {
      answer = said ∙ refused ∙ sym (told (goal.at.returns-in_err-answer c).After-make);
      after = stays (goal.at.returns-in_err-answer c).After-make _ refused ∙ ap (after_move c.args.step c.args.level) c.self.view_is;
    }

-- a contender that moved, and settling after it
made : (c : After-settle-self-inside) → bus_of c.self.inside.number (vec_items (with_items (with_item c.self.inside.contenders c.in_ok-i.i c.make.new.self) c.settle-self-inside.new.contenders)) c.settle-self-inside.result ≡ after_move c.args.step c.args.level (bus_of c.self.inside.number (vec_items c.self.inside.contenders) c.self.inside.inhibit)
made c =
    let found = searched (position (at_level c.args.level)) c.deref.ensures.value c.place_of_level.ensures c.ok_or.ensures.ok_part c.in_ok-i.was in
    settles c.self.inside.number (with_item c.self.inside.contenders c.in_ok-i.i c.make.new.self) c.self.inside.inhibit c.deref_mut.ensures.value c.deref_mut.ensures.len c.settle-self-inside.ensures.answer c.settle-self-inside.ensures.after
    ∙ move_made c.self.inside.number c.args.step c.args.level c.self.inside.inhibit (vec_items c.self.inside.contenders) found c.index_mut.ensures.value c.make.ensures.after c.in_ok-answer.answer (sym (ap numbered c.in_ok-answer.was) ∙ c.make.ensures.answer)

pub invariant_of-self-2 : goal.invariant_of-self-2
invariant_of-self-2 c = subst SoundBus (sym (made (goal.at.invariant_of-self-2 c).After-settle-self-inside)) (sound_move c.args.step c.args.level _ c.self.invariant)

pub returns : goal.returns
returns c = record {
  answer = sym (ap numbered c.in_ok-answer.was) ∙ c.make.ensures.answer ∙ sym (told (goal.at.returns c).After-make);
  after = made (goal.at.returns c).After-settle-self-inside ∙ ap (after_move c.args.step c.args.level) c.self.view_is;
}
