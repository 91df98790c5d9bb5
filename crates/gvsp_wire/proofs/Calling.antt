-- Lemmas for the crates above: what it says that bytes are a packet by `packet_of`.
use Rattle.std.proofs.Common.{◌≡◌, ℕ, List, Some, Result, Ok, Err, ap, subst}
use Rattle.stream_packets.specs.Packets.{StreamPacket}
use Rattle.gvsp_wire.specs.declared.wire_error.WireError.{WireError}
use Rattle.gvsp_wire.specs.Wire.{Stream}
use Rattle.gvsp_wire.specs.Plain.{AreBytes, HasSpelling, plain}
use Rattle.gvsp_wire.specs.Reading.{reading, ok_of, packet_of}
use Rattle.gvsp_wire.proofs.Sound.{Sound, reading_sound}
use Rattle.gvsp_wire.proofs.Whole.{stream_read}
use Rattle.gvsp_wire.proofs.Spellings.{plain_read}
use Rattle.gvsp_wire.proofs.Ranges.{spelling_of}

sound_some : (bytes : List ℕ) (x : StreamPacket) (r : Result StreamPacket WireError) → Sound bytes r → ok_of r ≡ Some x → Stream bytes x
sound_some bytes x (Ok y) s e = let same : y ≡ x = cc in subst (Stream bytes) same s
sound_some bytes x (Err d) s e = absurd cc

-- it is so by the format
pub packet_stream : (bytes : List ℕ) (x : StreamPacket) → packet_of bytes ≡ Some x → Stream bytes x
packet_stream bytes x e = sound_some bytes x (reading bytes) (reading_sound bytes) e

-- its fields fit
pub packet_fits : (bytes : List ℕ) (x : StreamPacket) → AreBytes bytes → packet_of bytes ≡ Some x → HasSpelling x
packet_fits bytes x fit e = spelling_of bytes x fit (packet_stream bytes x e)

-- a packet's plain spelling is read as that packet
pub plain_packet : (x : StreamPacket) → HasSpelling x → packet_of (plain x) ≡ Some x
plain_packet x s = ap ok_of (stream_read (plain x) x (plain_read x s))
