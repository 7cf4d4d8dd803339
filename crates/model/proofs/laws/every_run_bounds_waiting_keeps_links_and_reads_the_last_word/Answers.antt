use Rattle.model.proofs.Setup.{every_run}
use Rattle.model.proofs.laws.every_run_bounds_waiting_keeps_links_and_reads_the_last_word.Goals as goal

pub returns : goal.returns
returns c = every_run
