-- The examples and the witnesses, by computation.
use Rattle.std.proofs.Common.{refl, lit≤}
use Rattle.model.specs.Ways.{path, in_use, all_idled}
use Rattle.model.specs.Addresses.{travelled}
use Rattle.model.specs.Rest.{AtRest}
use Rattle.model.specs.Examples.{one_segment, TheTenExamplesHold}
use Rattle.model.specs.Witnesses.{three_masters, three_in_a_row, TheBoundOnWaitingIsMet, AWordGoesOverTwoInterconnects, AStoppedAddressIsToldAndFlagged, ALinkByPositionMovesNoPointer, EachRefusalIsMet}

one_segment_rests : AtRest one_segment
one_segment_rests = record { segments = refl; numbers_differ = refl; interconnects = refl; fars_differ = refl; groups_differ = refl; slots = refl; at_most_16_modules = refl; module_numbers_differ = refl; positions_differ = refl }

pub the_ten_examples_hold : TheTenExamplesHold
unfolding path in_use all_idled travelled
the_ten_examples_hold = (one_segment_rests, refl)

three_masters_rest : AtRest three_masters
three_masters_rest = record { segments = refl; numbers_differ = refl; interconnects = refl; fars_differ = refl; groups_differ = refl; slots = refl; at_most_16_modules = refl; module_numbers_differ = refl; positions_differ = refl }

pub the_bound_on_waiting_is_met : TheBoundOnWaitingIsMet
the_bound_on_waiting_is_met =
    record {
      rests = three_masters_rest;
      starts = (refl, refl, refl, refl);
      wishes_on = (refl, (refl, (refl, (refl, (refl, (refl, (refl, (refl, (refl, tt)))))))));
      met = (refl, refl, lit≤ tt);
    }

three_in_a_row_rest : AtRest three_in_a_row
three_in_a_row_rest = record { segments = refl; numbers_differ = refl; interconnects = refl; fars_differ = refl; groups_differ = refl; slots = refl; at_most_16_modules = refl; module_numbers_differ = refl; positions_differ = refl }

pub a_word_goes_over_two_interconnects : AWordGoesOverTwoInterconnects
unfolding path in_use all_idled travelled
a_word_goes_over_two_interconnects =
    record {
      rests = three_in_a_row_rest;
      granted = refl;
      loaded = refl;
      linked = record { owner = refl; link = refl };
      written = refl;
      read_back = refl;
      linked_from_2 = record { owner = refl; link = refl };
      read_from_2 = refl;
    }

pub a_stopped_address_is_told_and_flagged : AStoppedAddressIsToldAndFlagged
unfolding path in_use all_idled travelled
a_stopped_address_is_told_and_flagged =
    record {
      busy = refl;
      lost = refl;
      begun = refl;
      elsewhere = refl;
      through = refl;
      failed = refl;
      noted = (refl, refl, refl, refl);
      cleared = (refl, refl);
    }

pub a_link_by_position_moves_no_pointer : ALinkByPositionMovesNoPointer
unfolding path in_use all_idled travelled
a_link_by_position_moves_no_pointer = record { linked = record { owner = refl; link = refl }; unmoved = refl }

pub each_refusal_is_met : EachRefusalIsMet
unfolding path in_use all_idled travelled
each_refusal_is_met = refl
