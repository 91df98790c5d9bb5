-- What is read of the bodies, computed.
use Rattle.std.specs.Prelude.{ℕ, ◌&&◌, ◌==◌, List, length, Option, Some, None, if◌then◌else◌}
use Rattle.wire_fields.specs.Fields.{number_at}
use Rattle.gvcp_wire.specs.Codes.{PACKETRESEND_CMD, PENDING_ACK}
use Rattle.gvcp_wire.specs.declared.message.CommandHead.{CommandHead}
use Rattle.gvcp_wire.specs.Flags.{has_flag}
use Rattle.gvcp_wire.specs.Messages.{PlainAck}
use Rattle.gvcp_wire.specs.declared.resend.Resend.{Resend}

abbrev pub resend_at : List ℕ → Resend
resend_at body = record { channel = number_at 0 2 body; first = number_at 4 4 body; last = number_at 8 4 body; block = number_at 12 8 body }

-- the packets that a command asks for, if it asks for any
abbrev pub resend_reading : CommandHead → List ℕ → Option Resend
resend_reading head body =
    if (head.code == PACKETRESEND_CMD) && has_flag 0x10 head.flags && (length body == 20) then Some (resend_at body) else None

-- how much longer a command takes, in milliseconds, if the acknowledge says so
abbrev pub pending_reading : PlainAck → Option ℕ
pending_reading ack = if (ack.code == PENDING_ACK) && (length ack.body == 4) then Some (number_at 2 2 ack.body) else None
