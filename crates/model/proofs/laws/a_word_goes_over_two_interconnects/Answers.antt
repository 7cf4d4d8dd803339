use Rattle.model.proofs.Computed.{a_word_goes_over_two_interconnects}
use Rattle.model.proofs.laws.a_word_goes_over_two_interconnects.Goals as goal

pub returns : goal.returns
returns c = a_word_goes_over_two_interconnects
