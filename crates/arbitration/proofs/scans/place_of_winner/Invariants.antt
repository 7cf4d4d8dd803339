use Rattle.arbitration.proofs.Winning.{Best}
use Rattle.arbitration.proofs.scans.place_of_winner.Given as goal

abbrev pub invariant-loop-i : goal.invariant-loop-i
invariant-loop-i l = Best l.contenders l.i l.best
