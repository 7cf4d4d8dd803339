use Rattle.model.proofs.Computed.{the_bound_on_waiting_is_met}
use Rattle.model.proofs.laws.the_bound_on_waiting_is_met.Goals as goal

pub returns : goal.returns
returns c = the_bound_on_waiting_is_met
