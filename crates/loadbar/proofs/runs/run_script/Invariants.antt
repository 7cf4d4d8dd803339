use Rattle.std.proofs.Common.{◌≡◌, map, string_bytes}
use Rattle.loadbar.specs.Runs.{start, report}
use Rattle.loadbar.proofs.Lines.{run_after}
use Rattle.loadbar.proofs.runs.run_script.Given as goal

abbrev pub invariant-loop-line : goal.invariant-loop-line
invariant-loop-line l = record {
  text : string_bytes l.text ≡ report (map (λ p. p.now) l.yielded) start;
  run : l.run ≡ run_after (map (λ p. p.now) l.yielded) start;
}
