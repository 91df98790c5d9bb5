-- What a note names of a packet.
use Rattle.std.specs.Prelude.{◌≡◌}
use Rattle.stream_packets.specs.Packets.{StreamPacket, head_of}
use Rattle.script_trace.specs.Texts.{payload_length}
use Rattle.note_report.specs.declared.piece.Named.{Named}

-- it is named so
pub record IsNamed (x : StreamPacket) (n : Named) : Type 0 where
  pub block : n.block ≡ (head_of x).block
  pub id : n.id ≡ (head_of x).id
  pub status : n.status ≡ (head_of x).status
  pub bytes : n.bytes ≡ payload_length x
