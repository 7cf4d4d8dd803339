use Rattle.model.proofs.Refusing.{a_refused_call_names_its_segment_and_changes_nothing}
use Rattle.model.proofs.laws.a_refused_call_names_its_segment_and_changes_nothing.Goals as goal

pub returns : goal.returns
returns c = a_refused_call_names_its_segment_and_changes_nothing
