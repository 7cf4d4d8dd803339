use Rattle.std.proofs.Common.{sym, subst, arith}
use Rattle.arbitration.proofs.Winning.{Best, best_passes, best_keeps, best_takes, best_starts, best_done}
use Rattle.arbitration.proofs.scans.place_of_winner.Goals as goal
use Rattle.arbitration.proofs.scans.place_of_winner.Goals.{then-is+in-None, then-is+in-Some+then-contenders-b, then-is+in-Some+else-contenders-b, else-is}

pub loop-i-preserved : goal.loop-i-preserved
loop-i-preserved c =
    let i = c.loop-i-test.true in
    let was = c.loop-i.invariant in
    elim c.if-is.branch [
      | then-is+in-None w ↦ subst (Best _ _) (sym w.best-is) (best_starts _ _ _ i _ w.in-None.is was w.if-is.ensures)
      | then-is+in-Some+then-contenders-b w ↦ subst (Best _ _) (sym w.best-is) (best_takes _ _ _ i _ _ w.in-Some.is was w.if-contenders-b.true w.if-is.ensures)
      | then-is+in-Some+else-contenders-b w ↦ subst (Best _ _) (sym w.best-is) (best_keeps _ _ _ i _ _ w.in-Some.is was w.if-contenders-b.false)
      | else-is w ↦ subst (Best _ _) (sym w.best-is) (best_passes _ _ _ i _ was w.if-is.ensures)
    ]

pub returns : goal.returns
returns c = best_done _ _ (subst (λ n. Best c.args.contenders.now n c.loop-i.best) (omega arith) c.loop-i.invariant)
