use Rattle.std.proofs.Common.{◌≡◌, ◌++◌, map, take, drop}
use Rattle.arbitration.specs.Contenders.{wake}
use Rattle.arbitration.proofs.scans.settle.Given as goal

abbrev pub invariant-loop-c : goal.invariant-loop-c
invariant-loop-c l = l.contenders ≡ map wake (take l.c-index l.initial.contenders) ++ drop l.c-index l.initial.contenders
