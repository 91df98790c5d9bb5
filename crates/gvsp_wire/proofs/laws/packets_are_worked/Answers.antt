use Rattle.std.proofs.Common.{refl}
use Rattle.wire_fields.specs.Fields.{number_at}
use Rattle.gvsp_wire.specs.Reading.{sized_info, header_of, leader_of, trailer_of, payload_of, reading}
use Rattle.gvsp_wire.proofs.laws.packets_are_worked.Goals as goal

pub returns : goal.returns
unfolding reading header_of number_at leader_of trailer_of payload_of sized_info
returns c = record {
  leaders = record { read = refl; written = refl };
  free = refl;
  payloads = record { read = refl; written = refl };
  trailers = record { read = refl; written = refl };
  notices = record { read = refl; written = refl };
  frames = refl;
}
