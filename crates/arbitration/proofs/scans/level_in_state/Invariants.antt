use Rattle.std.proofs.Common.{◌≡◌, drop, find}
use Rattle.arbitration.specs.Contenders.{in_state}
use Rattle.arbitration.proofs.scans.level_in_state.Given as goal

-- the first in the state among those that are left is the first of all
abbrev pub invariant-loop-c : goal.invariant-loop-c
invariant-loop-c l = find (in_state l.state) (drop l.c-index l.contenders) ≡ find (in_state l.state) l.contenders
