-- What a datagram is to an image stream.
use Rattle.std.specs.Prelude.{ℕ, ◌==◌, List, length, Bool, true, false, Option, Some, None, Result, Ok, Err}
use Rattle.stream_packets.specs.Packets.{StreamPacket, leader, payload, trailer, notice, head_of}
use Rattle.gvsp_wire.specs.Reading.{packet_of}
use Rattle.gvsp_std.specs.declared.std_error.StdError.{StdError}
use Rattle.gvsp_std.specs.Widening.{widened}
use Rattle.capture_streams.specs.declared.sign.Kind.{Kind}
use Rattle.capture_streams.specs.declared.sign.Kind.TheVariants.{Leader, Payload, Other}
use Rattle.capture_streams.specs.declared.sign.Sign.{Sign}

-- the status of a packet that is sent again (GigE Vision 2.0, PACKET_RESEND)
abbrev pub resend_status : ℕ
resend_status = 0x0100

-- a packet with extended identifiers or with standard ones, if it is one
abbrev pub kind_in : Bool → Option StreamPacket → Kind
kind_in extended None = Other
kind_in extended (Some (leader h i)) = Leader extended h.block i
kind_in extended (Some (payload h d)) = Payload (length d)
kind_in extended (Some (trailer h y)) = Other
kind_in extended (Some (notice h)) = Other

-- it's a packet, of any kind, that was sent again
abbrev pub is_resent : Option StreamPacket → Bool
is_resent None = false
is_resent (Some p) = (head_of p).status == resend_status

abbrev pub sign_in : Bool → Option StreamPacket → Sign
sign_in extended packet = record { kind = kind_in extended packet; resent = is_resent packet }

-- What becomes of a datagram with standard identifiers decides, where it is one: its block is its own id.
abbrev pub sign_of : Result (ℕ × List ℕ) StdError → List ℕ → Sign
sign_of (Ok x) bytes = sign_in false (packet_of x.1)
sign_of (Err e) bytes = sign_in true (packet_of bytes)

abbrev pub sign : List ℕ → Sign
sign bytes = sign_of (widened 0 bytes) bytes
