use Rattle.std.proofs.Common.{◌≡◌, true, false, Some, Err, vec_items, sym, ap, ◌∙◌, subst, rules}
use Rattle.std.specs.List.{list_any}
use Rattle.std.specs.Vec.{with_item, with_items}
use Rattle.arbitration.specs.declared.contenders.State.TheVariants.{Owns}
use Rattle.arbitration.specs.declared.replies.Event.TheVariants.{Arbitrate}
use Rattle.arbitration.specs.Contenders.{owns, put}
use Rattle.arbitration.specs.Numbers.{numbered}
use Rattle.arbitration.specs.Rules.{winner, answer, after}
use Rattle.arbitration.specs.Scans.{place_of}
use Rattle.arbitration.proofs.Calls.{bus_of, settles, searched, nobody_told, grant_told, grant_made, arbitration_stays}
use Rattle.arbitration.proofs.Keeping.{SoundBus, sound_arbitration}
use Rattle.arbitration.proofs.bus.Segment.grant.Goals as goal
use Rattle.arbitration.proofs.bus.Segment.grant.Goals.{After-settle-self-inside}

pub returns-in_err-i : goal.returns-in_err-i
returns-in_err-i c =
    let free = ap (list_any owns) (sym c.deref.ensures.value) ∙ sym c.if-any_in_state.ensures in
    let none = searched (λ cs. place_of (winner cs) cs) c.deref-2.ensures.value c.place_of_winner.ensures c.ok_or.ensures.ok_part c.in_err-i.was in
    let told = subst (λ b. answer Arbitrate b ≡ Err 23) c.self.view_is (nobody_told c.self.inside.number c.self.inside.inhibit (vec_items c.self.inside.contenders) free none) in
    let refused : numbered c.from_residual.result ≡ Err 23 = search rules in
    record { answer = refused ∙ sym told; after = arbitration_stays c.args.self.now 23 told }

-- ---- from settling on
module _ (c : After-settle-self-inside) where
  place : place_of (winner (vec_items c.self.inside.contenders)) (vec_items c.self.inside.contenders) ≡ Some c.in_ok-i.i
  place = searched (λ cs. place_of (winner cs) cs) c.deref-2.ensures.value c.place_of_winner.ensures c.ok_or.ensures.ok_part c.in_ok-i.was

  -- nobody owns
  free : list_any owns (vec_items c.self.inside.contenders) ≡ false
  free = ap (list_any owns) (sym c.deref.ensures.value) ∙ sym c.if-any_in_state.ensures

  -- the grant, and settling after it
  made : bus_of c.self.inside.number (vec_items (with_items (with_item c.self.inside.contenders c.in_ok-i.i (put Owns c.index_mut-winner.result.now)) c.settle-self-inside.new.contenders)) c.settle-self-inside.result ≡ after Arbitrate (bus_of c.self.inside.number (vec_items c.self.inside.contenders) c.self.inside.inhibit)
  made =
      settles c.self.inside.number (with_item c.self.inside.contenders c.in_ok-i.i (put Owns c.index_mut-winner.result.now)) true c.deref_mut.ensures.value c.deref_mut.ensures.len c.settle-self-inside.ensures.answer c.settle-self-inside.ensures.after
      ∙ grant_made c.self.inside.number c.self.inside.inhibit (vec_items c.self.inside.contenders) place c.index_mut-winner.ensures.value free

pub invariant_of-self : goal.invariant_of-self
invariant_of-self c = subst SoundBus (sym (made (goal.at.invariant_of-self c).After-settle-self-inside)) (sound_arbitration _ c.self.invariant)

pub returns : goal.returns
returns c =
    let d = (goal.at.returns c).After-settle-self-inside in
    record {
      answer = sym (grant_told c.self.inside.number c.self.inside.inhibit (vec_items c.self.inside.contenders) (place d) c.index_mut-winner.ensures.value (free d)) ∙ ap (answer Arbitrate) c.self.view_is;
      after = made d ∙ ap (after Arbitrate) c.self.view_is;
    }
