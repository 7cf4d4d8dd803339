use Rattle.model.proofs.Computed.{each_refusal_is_met}
use Rattle.model.proofs.laws.each_refusal_is_met.Goals as goal

pub returns : goal.returns
returns c = each_refusal_is_met
