-- The bodies of PACKETRESEND with extended identifiers, DISCOVERY and PENDING (GigE Vision 2.0).
use Rattle.std.specs.Prelude.{◌≡◌, ◌≢◌, ℕ, ◌^◌, ◌<◌, false, List, [], ◌∷◌, length, IsTrue}
use Rattle.wire_fields.specs.Fields.{HasFields, spelled}
use Rattle.gvcp_wire.specs.Codes.{DISCOVERY_CMD, PACKETRESEND_CMD, PENDING_ACK}
use Rattle.gvcp_wire.specs.declared.message.CommandHead.{CommandHead}
use Rattle.gvcp_wire.specs.Flags.{has_flag}
use Rattle.gvcp_wire.specs.Messages.{PlainCommand, other, PlainAck}
use Rattle.gvcp_wire.specs.declared.resend.Resend.{Resend}

-- ---- PACKETRESEND

-- the fields of the body, each with its number of bytes
abbrev pub resend_fields : ℕ → Resend → List (ℕ × ℕ)
resend_fields reserved resend =
    (2, resend.channel) ∷ (2, reserved) ∷ (4, resend.first) ∷ (4, resend.last) ∷ (8, resend.block) ∷ []

-- The stream channel, a reserved field, the first and the last packet id, and the block id.
pub record IsResendBody (body : List ℕ) (resend : Resend) : Type 0 where
  pub reserved : ℕ
  pub fields : HasFields body (resend_fields reserved resend) []

-- The command asks for the packets.
pub record IsResend (head : CommandHead) (body : List ℕ) (resend : Resend) : Type 0 where
  pub code : head.code ≡ PACKETRESEND_CMD
  pub extended : IsTrue (has_flag 0x10 head.flags)
  pub spelled : IsResendBody body resend

-- The command asks for no packets with extended identifiers, for one of these reasons.
pub data IsNoResend (head : CommandHead) (body : List ℕ) : Type 0 where
  no_resend : head.code ≢ PACKETRESEND_CMD → IsNoResend head body
  standard_ids : has_flag 0x10 head.flags ≡ false → IsNoResend head body
  no_resend_size : length body ≢ 20 → IsNoResend head body

-- the plain body: the reserved field is 0
abbrev pub resend_body : Resend → List ℕ
resend_body resend = spelled (resend_fields 0 resend)

-- identifiers are extended, and no acknowledge is asked for
abbrev pub resend_head : ℕ → CommandHead
resend_head req = record { flags = 0x10; code = PACKETRESEND_CMD; req = req }

abbrev pub resend_command : Resend → PlainCommand
resend_command resend = other PACKETRESEND_CMD (resend_body resend)

-- The numbers are within their fields.
pub record IsWithin (resend : Resend) : Type 0 where
  pub channel : resend.channel < 2 ^ 16
  pub first : resend.first < 2 ^ 32
  pub last : resend.last < 2 ^ 32
  pub block : resend.block < 2 ^ 64

-- ---- DISCOVERY

-- an acknowledge is asked for, and may be broadcast
abbrev pub discovery_head : ℕ → CommandHead
discovery_head req = record { flags = 0x11; code = DISCOVERY_CMD; req = req }

-- the body is empty
abbrev pub discovery_command : PlainCommand
discovery_command = other DISCOVERY_CMD []

-- ---- PENDING

-- the fields of the body, each with its number of bytes
abbrev pub pending_fields : ℕ → ℕ → List (ℕ × ℕ)
pending_fields reserved time = (2, reserved) ∷ (2, time) ∷ []

-- A reserved field, and a time in milliseconds.
pub record IsPendingBody (body : List ℕ) (time : ℕ) : Type 0 where
  pub reserved : ℕ
  pub fields : HasFields body (pending_fields reserved time) []

-- The acknowledge says that the command takes that much longer.
pub record IsPending (ack : PlainAck) (time : ℕ) : Type 0 where
  pub code : ack.code ≡ PENDING_ACK
  pub spelled : IsPendingBody ack.body time

-- The acknowledge says nothing of the kind, for one of these reasons.
pub data IsNoPending (ack : PlainAck) : Type 0 where
  no_pending : ack.code ≢ PENDING_ACK → IsNoPending ack
  no_pending_size : length ack.body ≢ 4 → IsNoPending ack

-- the plain body: the reserved field is 0
abbrev pub pending_body : ℕ → List ℕ
pending_body time = spelled (pending_fields 0 time)
