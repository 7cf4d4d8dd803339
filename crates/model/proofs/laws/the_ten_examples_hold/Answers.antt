use Rattle.model.proofs.Computed.{the_ten_examples_hold}
use Rattle.model.proofs.laws.the_ten_examples_hold.Goals as goal

pub returns : goal.returns
returns c = the_ten_examples_hold
