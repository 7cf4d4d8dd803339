use Rattle.model.proofs.Refusing.{a_call_brings_at_most_seven_grants}
use Rattle.model.proofs.laws.a_call_brings_at_most_seven_grants.Goals as goal

pub returns : goal.returns
returns c = a_call_brings_at_most_seven_grants
