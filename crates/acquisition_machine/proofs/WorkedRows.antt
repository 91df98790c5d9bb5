-- The rows compute.
use Rattle.std.proofs.Common.{refl}
use Rattle.wire_fields.specs.Fields.{number_at}
use Rattle.gvsp_wire.specs.Reading.{sized_info, header_of, leader_of, trailer_of, payload_of, reading}
use Rattle.acquisition_machine.specs.Worked.{IsWorked, in_order, last_first, repeated, one_byte, with_rest, without_rest, small_buffer, large_buffer, starves, displaces, spends_ids, restarts, hostile}
use Rattle.acquisition_machine.specs.WorkedTimes.{stops_early, not_yet_old, grows_old, asks_twice, asks_once, asks_again, asks_for_leader, asks_for_eight}
use Rattle.acquisition_machine.specs.WorkedLaws.{BlocksAreWorked, TimesAreWorked}

in_order-worked : IsWorked in_order
unfolding reading header_of number_at leader_of trailer_of payload_of sized_info
in_order-worked = record { answers = refl; filled = refl; commands = refl; counts = refl }

last_first-worked : IsWorked last_first
unfolding reading header_of number_at leader_of trailer_of payload_of sized_info
last_first-worked = record { answers = refl; filled = refl; commands = refl; counts = refl }

repeated-worked : IsWorked repeated
unfolding reading header_of number_at leader_of trailer_of payload_of sized_info
repeated-worked = record { answers = refl; filled = refl; commands = refl; counts = refl }

one_byte-worked : IsWorked one_byte
unfolding reading header_of number_at leader_of trailer_of payload_of sized_info
one_byte-worked = record { answers = refl; filled = refl; commands = refl; counts = refl }

with_rest-worked : IsWorked with_rest
unfolding reading header_of number_at leader_of trailer_of payload_of sized_info
with_rest-worked = record { answers = refl; filled = refl; commands = refl; counts = refl }

without_rest-worked : IsWorked without_rest
unfolding reading header_of number_at leader_of trailer_of payload_of sized_info
without_rest-worked = record { answers = refl; filled = refl; commands = refl; counts = refl }

small_buffer-worked : IsWorked small_buffer
unfolding reading header_of number_at leader_of trailer_of payload_of sized_info
small_buffer-worked = record { answers = refl; filled = refl; commands = refl; counts = refl }

large_buffer-worked : IsWorked large_buffer
unfolding reading header_of number_at leader_of trailer_of payload_of sized_info
large_buffer-worked = record { answers = refl; filled = refl; commands = refl; counts = refl }

starves-worked : IsWorked starves
unfolding reading header_of number_at leader_of trailer_of payload_of sized_info
starves-worked = record { answers = refl; filled = refl; commands = refl; counts = refl }

displaces-worked : IsWorked displaces
unfolding reading header_of number_at leader_of trailer_of payload_of sized_info
displaces-worked = record { answers = refl; filled = refl; commands = refl; counts = refl }

spends_ids-worked : IsWorked spends_ids
unfolding reading header_of number_at leader_of trailer_of payload_of sized_info
spends_ids-worked = record { answers = refl; filled = refl; commands = refl; counts = refl }

restarts-worked : IsWorked restarts
unfolding reading header_of number_at leader_of trailer_of payload_of sized_info
restarts-worked = record { answers = refl; filled = refl; commands = refl; counts = refl }

hostile-worked : IsWorked hostile
unfolding reading header_of number_at leader_of trailer_of payload_of sized_info
hostile-worked = record { answers = refl; filled = refl; commands = refl; counts = refl }

stops_early-worked : IsWorked stops_early
unfolding reading header_of number_at leader_of trailer_of payload_of sized_info
stops_early-worked = record { answers = refl; filled = refl; commands = refl; counts = refl }

not_yet_old-worked : IsWorked not_yet_old
unfolding reading header_of number_at leader_of trailer_of payload_of sized_info
not_yet_old-worked = record { answers = refl; filled = refl; commands = refl; counts = refl }

grows_old-worked : IsWorked grows_old
unfolding reading header_of number_at leader_of trailer_of payload_of sized_info
grows_old-worked = record { answers = refl; filled = refl; commands = refl; counts = refl }

asks_twice-worked : IsWorked asks_twice
unfolding reading header_of number_at leader_of trailer_of payload_of sized_info
asks_twice-worked = record { answers = refl; filled = refl; commands = refl; counts = refl }

asks_once-worked : IsWorked asks_once
unfolding reading header_of number_at leader_of trailer_of payload_of sized_info
asks_once-worked = record { answers = refl; filled = refl; commands = refl; counts = refl }

asks_again-worked : IsWorked asks_again
unfolding reading header_of number_at leader_of trailer_of payload_of sized_info
asks_again-worked = record { answers = refl; filled = refl; commands = refl; counts = refl }

asks_for_leader-worked : IsWorked asks_for_leader
unfolding reading header_of number_at leader_of trailer_of payload_of sized_info
asks_for_leader-worked = record { answers = refl; filled = refl; commands = refl; counts = refl }

asks_for_eight-worked : IsWorked asks_for_eight
unfolding reading header_of number_at leader_of trailer_of payload_of sized_info
asks_for_eight-worked = record { answers = refl; filled = refl; commands = refl; counts = refl }

pub blocks_are_worked : BlocksAreWorked
blocks_are_worked = record {
  in_order = in_order-worked;
  last_first = last_first-worked;
  repeated = repeated-worked;
  one_byte = one_byte-worked;
  with_rest = with_rest-worked;
  without_rest = without_rest-worked;
  small_buffer = small_buffer-worked;
  large_buffer = large_buffer-worked;
  starves = starves-worked;
  displaces = displaces-worked;
  spends_ids = spends_ids-worked;
  restarts = restarts-worked;
  hostile = hostile-worked;
}

pub times_are_worked : TimesAreWorked
times_are_worked = record {
  stops_early = stops_early-worked;
  not_yet_old = not_yet_old-worked;
  grows_old = grows_old-worked;
  asks_twice = asks_twice-worked;
  asks_once = asks_once-worked;
  asks_again = asks_again-worked;
  asks_for_leader = asks_for_leader-worked;
  asks_for_eight = asks_for_eight-worked;
}
