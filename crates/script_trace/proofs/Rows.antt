-- The rows compute.
use Rattle.std.proofs.Common.{refl}
use Rattle.std.specs.Fmt.{digits}
use Rattle.hex.specs.Hex.{encode_with}
use Rattle.wire_fields.specs.Fields.{number_at}
use Rattle.gvsp_wire.specs.Reading.{sized_info, header_of, leader_of, trailer_of, payload_of, reading}
use Rattle.script_trace.specs.WorkedInputs.{NotesAreWorked}

pub notes_are_worked : NotesAreWorked
unfolding digits encode_with reading header_of number_at leader_of trailer_of payload_of sized_info
notes_are_worked = record { complete = refl; lost = refl; absent = refl; starved = refl; small = refl; ignored = refl; dropping = refl }
