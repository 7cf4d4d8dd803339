use Rattle.std.proofs.Common.{sym, ap, set, ◌∙◌}
use Rattle.arbitration.proofs.Settling.{woke, all_woken}
use Rattle.arbitration.proofs.scans.settle.Goals as goal

pub loop-c-preserved : goal.loop-c-preserved
loop-c-preserved c = ap (set c.loop-c.contenders c.loop-c.c-index) c.wake.ensures ∙ woke _ _ _ _ c.loop-c-test.true c.loop-c.auto.contenders c.loop-c.invariant

pub returns : goal.returns
returns c =
    let none = sym c.if-any_in_state.ensures in
    let up = c.if-not-inhibit.false in
    record { answer = rw (up, none); after = rw (up, none) (all_woken _ _ _ c.loop-c-test.false c.loop-c.invariant) }
