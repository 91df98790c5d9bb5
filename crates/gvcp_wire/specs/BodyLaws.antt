-- The laws of the bodies: what the readings compute is what the relations say, and what was written is
-- read again.
use Rattle.std.specs.Prelude.{◌≡◌, ◌↔◌, ℕ, ◌^◌, ◌<◌, ◌≤◌, List, Some, None}
use Rattle.gvcp_wire.specs.Codes.{PENDING_ACK}
use Rattle.gvcp_wire.specs.declared.message.CommandHead.{CommandHead}
use Rattle.gvcp_wire.specs.Messages.{PlainAck}
use Rattle.gvcp_wire.specs.Control.{Control, plain}
use Rattle.gvcp_wire.specs.declared.resend.Resend.{Resend}
use Rattle.gvcp_wire.specs.Bodies.{IsResend, IsNoResend, resend_body, resend_head, resend_command, IsWithin, discovery_head, discovery_command, IsPending, IsNoPending, pending_body}
use Rattle.gvcp_wire.specs.BodyReading.{resend_reading, pending_reading}

-- The reading of a command's body gives what the relation says, and nothing where it says nothing.
pub record ReadsResend (head : CommandHead) (body : List ℕ) : Type 0 where
  pub given : (resend : Resend) → (resend_reading head body ≡ Some resend) ↔ IsResend head body resend
  pub none : (resend_reading head body ≡ None) ↔ IsNoResend head body

-- The written command is read as the command, and its body as what was asked for.
pub record IsWrittenResend (req : ℕ) (resend : Resend) : Type 0 where
  pub command : Control (plain (resend_head req) (resend_command resend)) (resend_head req) (resend_command resend)
  pub body : IsResend (resend_head req) (resend_body resend) resend

abbrev pub WritesResend : ℕ → Resend → Type 0
WritesResend req resend = 1 ≤ req → req < 2 ^ 16 → IsWithin resend → IsWrittenResend req resend

-- the written DISCOVERY is read as DISCOVERY
abbrev pub WritesDiscovery : ℕ → Type 0
WritesDiscovery req = 1 ≤ req → req < 2 ^ 16 → Control (plain (discovery_head req) discovery_command) (discovery_head req) discovery_command

-- The reading of an acknowledge's body gives what the relation says, and nothing where it says nothing.
pub record ReadsPending (ack : PlainAck) : Type 0 where
  pub given : (time : ℕ) → (pending_reading ack ≡ Some time) ↔ IsPending ack time
  pub none : (pending_reading ack ≡ None) ↔ IsNoPending ack

-- the plain body of PENDING is read as the time
abbrev pub WritesPending : PlainAck → ℕ → Type 0
WritesPending ack time = ack.code ≡ PENDING_ACK → ack.body ≡ pending_body time → time < 2 ^ 16 → IsPending ack time
