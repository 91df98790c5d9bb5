-- The laws of the messages: what the readings compute is what the relations say, bytes are exactly one
-- message or refused for exactly one reason, and what was written is read again.
use Rattle.std.specs.Prelude.{◌≡◌, ◌⊎◌, ◌↔◌, ℕ, List, Ok, Err}
use Rattle.gvcp_wire.specs.Codes.{KEY, MAX_BODY_SIZE, DISCOVERY_CMD, DISCOVERY_ACK, PACKETRESEND_CMD, READREG_CMD, READREG_ACK, WRITEREG_CMD, WRITEREG_ACK, READMEM_CMD, READMEM_ACK, WRITEMEM_CMD, WRITEMEM_ACK, PENDING_ACK}
use Rattle.gvcp_wire.specs.declared.codes.TheConstants as code
use Rattle.gvcp_wire.specs.declared.message.CommandHead.{CommandHead}
use Rattle.gvcp_wire.specs.declared.message.ControlError.{ControlError}
use Rattle.gvcp_wire.specs.Messages.{PlainCommand, PlainAck}
use Rattle.gvcp_wire.specs.Control.{Control, Refused, IsCommand, AreWithin, plain}
use Rattle.gvcp_wire.specs.Answer.{Answer, AnswerRefused, IsAck, plain_ack}
use Rattle.gvcp_wire.specs.Reading.{command_reading, ack_reading}

-- ---- codes

-- The constants of `src/codes.rt` are the numbers of `Codes`.
pub record CodesAreStandard : Type 0 where
  pub key : code.KEY ≡ KEY
  pub max_body_size : code.MAX_BODY_SIZE ≡ MAX_BODY_SIZE
  pub discovery : code.DISCOVERY_CMD ≡ DISCOVERY_CMD
  pub discovery_ack : code.DISCOVERY_ACK ≡ DISCOVERY_ACK
  pub packetresend : code.PACKETRESEND_CMD ≡ PACKETRESEND_CMD
  pub readreg : code.READREG_CMD ≡ READREG_CMD
  pub readreg_ack : code.READREG_ACK ≡ READREG_ACK
  pub writereg : code.WRITEREG_CMD ≡ WRITEREG_CMD
  pub writereg_ack : code.WRITEREG_ACK ≡ WRITEREG_ACK
  pub readmem : code.READMEM_CMD ≡ READMEM_CMD
  pub readmem_ack : code.READMEM_ACK ≡ READMEM_ACK
  pub writemem : code.WRITEMEM_CMD ≡ WRITEMEM_CMD
  pub writemem_ack : code.WRITEMEM_ACK ≡ WRITEMEM_ACK
  pub pending_ack : code.PENDING_ACK ≡ PENDING_ACK

-- ---- commands

-- The reading of a command gives what the wire relation says, and refuses as the refusals say.
pub record ReadsCommand (bytes : List ℕ) : Type 0 where
  pub given : (head : CommandHead) (command : PlainCommand) → (command_reading bytes ≡ Ok (head, command)) ↔ Control bytes head command
  pub refused : (e : ControlError) → (command_reading bytes ≡ Err e) ↔ Refused bytes e

-- The bytes are exactly one command or are refused for exactly one reason, and never both.
pub record IsOneCommand (bytes : List ℕ) : Type 0 where
  pub either : ((head : CommandHead) × (command : PlainCommand) × Control bytes head command) ⊎ ((e : ControlError) × Refused bytes e)
  pub one_command : (h g : CommandHead) (c d : PlainCommand) → Control bytes h c → Control bytes g d → (h ≡ g) × (c ≡ d)
  pub one_refusal : (e f : ControlError) → Refused bytes e → Refused bytes f → e ≡ f
  pub never_both : (head : CommandHead) (command : PlainCommand) (e : ControlError) → Control bytes head command → Refused bytes e → ⊥

-- A command's plain spelling is the command's. The bytes of a command are those of one that can be written.
pub record IsWrittenCommand (head : CommandHead) (command : PlainCommand) : Type 0 where
  pub read_again : IsCommand head command → AreWithin head command → Control (plain head command) head command
  pub only : (bytes : List ℕ) → Control bytes head command → IsCommand head command

-- ---- acknowledges

-- The reading of an acknowledge gives what the wire relation says, and refuses as the refusals say.
pub record ReadsAck (bytes : List ℕ) : Type 0 where
  pub given : (ack : PlainAck) → (ack_reading bytes ≡ Ok ack) ↔ Answer bytes ack
  pub refused : (e : ControlError) → (ack_reading bytes ≡ Err e) ↔ AnswerRefused bytes e

-- The bytes are exactly one acknowledge or are refused for exactly one reason, and never both.
pub record IsOneAck (bytes : List ℕ) : Type 0 where
  pub either : ((ack : PlainAck) × Answer bytes ack) ⊎ ((e : ControlError) × AnswerRefused bytes e)
  pub one_ack : (a b : PlainAck) → Answer bytes a → Answer bytes b → a ≡ b
  pub one_refusal : (e f : ControlError) → AnswerRefused bytes e → AnswerRefused bytes f → e ≡ f
  pub never_both : (ack : PlainAck) (e : ControlError) → Answer bytes ack → AnswerRefused bytes e → ⊥

-- an acknowledge's plain spelling is the acknowledge's
abbrev pub IsWrittenAck : PlainAck → Type 0
IsWrittenAck ack = IsAck ack → Answer (plain_ack ack) ack
