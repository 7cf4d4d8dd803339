use Rattle.model.proofs.Computed.{a_stopped_address_is_told_and_flagged}
use Rattle.model.proofs.laws.a_stopped_address_is_told_and_flagged.Goals as goal

pub returns : goal.returns
returns c = a_stopped_address_is_told_and_flagged
