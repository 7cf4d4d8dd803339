use Rattle.model.proofs.Computed.{a_link_by_position_moves_no_pointer}
use Rattle.model.proofs.laws.a_link_by_position_moves_no_pointer.Goals as goal

pub returns : goal.returns
returns c = a_link_by_position_moves_no_pointer
