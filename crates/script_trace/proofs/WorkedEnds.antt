-- The rows compute.
use Rattle.std.proofs.Common.{refl}
use Rattle.std.specs.Fmt.{digits}
use Rattle.hex.specs.Hex.{decode_pairs}
use Rattle.wire_fields.specs.Fields.{number_at}
use Rattle.gvsp_wire.specs.Reading.{sized_info, header_of, leader_of, trailer_of, payload_of, reading}
use Rattle.script_trace.specs.WorkedEnds.{EndsAreWorked}

pub ends_are_worked : EndsAreWorked
unfolding digits decode_pairs reading header_of number_at leader_of trailer_of payload_of sized_info
ends_are_worked = record { last = refl; idle = refl; running = refl }
