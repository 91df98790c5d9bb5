-- What a camera does with a datagram that reaches its control port (GigE Vision 2.0, GVCP).
use Rattle.std.specs.Prelude.{ℕ, ◌+◌, ◌-◌, ◌*◌, ◌/◌, ◌%◌, ◌^◌, Bool, false, ◌&&◌, ◌||◌, ◌==◌, nat_eq, nat_le, min, if◌then◌else◌, List, [], ◌∷◌, ◌++◌, length, take, Option, Some, None, Result, Ok, Err}
use Rattle.std.specs.Cmp.Lexicographic.{pointwise}
use Rattle.wire_fields.specs.Fields.{spelled}
use Rattle.gev_types.specs.declared.peer.Peer.{Peer}
use Rattle.gvcp_wire.specs.Codes.{DISCOVERY_CMD, PACKETRESEND_CMD, READREG_CMD, WRITEREG_CMD, READMEM_CMD, WRITEMEM_CMD}
use Rattle.gvcp_wire.specs.declared.message.CommandHead.{CommandHead}
use Rattle.gvcp_wire.specs.declared.message.ControlError.{ControlError}
use Rattle.gvcp_wire.specs.declared.message.ControlError.TheVariants.{Short, Key, ZeroReq, Length, Form}
use Rattle.gvcp_wire.specs.declared.status.Status.{Status}
use Rattle.gvcp_wire.specs.declared.status.Status.TheVariants.{Success, NotImplemented, InvalidParameter, InvalidHeader, BadAlignment}
use Rattle.gvcp_wire.specs.Status.{status_code}
use Rattle.gvcp_wire.specs.Flags.{has_flag}
use Rattle.gvcp_wire.specs.Messages.{PlainCommand, read_reg, write_reg, read_mem, write_mem, other}
use Rattle.gvcp_wire.specs.Reading.{command_reading}
use Rattle.gvcp_wire.specs.Answer.{plain_ack}
use Rattle.gvcp_wire.specs.declared.resend.Resend.{Resend}
use Rattle.gvcp_wire.specs.BodyReading.{resend_reading}
use Rattle.bootstrap_regs.specs.Addresses.{DISCOVERY_WORDS}
use Rattle.bootstrap_regs.specs.Changes.{Change}
use Rattle.control_privilege.specs.Control.{is_primary, renewed_by}
use Rattle.camera_machine.specs.Words.{bytes_of, addresses_from}
use Rattle.camera_machine.specs.Camera.{Kept, Camera, is_open, looked}
use Rattle.camera_machine.specs.Access.{Written, read_all, write_all, addresses_in, pairs_in, words_in}
use Rattle.camera_machine.specs.Stream.{asked_again}

-- ---- executing a register or memory command

-- What executing a command left, and what its acknowledge says.
pub record Executed : Type 0 where
  pub camera : Camera
  pub status : Status
  pub body : List ℕ
  -- what it changed, the latest first
  pub changes : List Change
  -- whether it gave the sender control
  pub has_granted : Bool

-- a command that changes nothing
abbrev pub answered : Camera → Status → List ℕ → Executed
answered s status body = record { camera = s; status = status; body = body; changes = []; has_granted = false }

-- the words that were read, after these bytes; a refusal has no body
abbrev pub read_answer : Camera → List ℕ → Result (List ℕ) Status → Executed
read_answer s front (Ok values) = answered s Success (front ++ bytes_of values)
read_answer s front (Err status) = answered s status []

-- the most bytes of memory in a message
abbrev pub MAX_MEMORY_SIZE : ℕ
MAX_MEMORY_SIZE = 536

abbrev pub is_memory_size : ℕ → Bool
is_memory_size count = nat_le 1 count && nat_le count MAX_MEMORY_SIZE && (count % 4 == 0)

-- READMEM: the alignment of its address first, then its count, then its words
abbrev pub read_memory : Camera → Peer → ℕ → ℕ → Executed
read_memory s peer address count =
    if address % 4 == 0 then
    (if is_memory_size count then read_answer s (spelled ((4, address) ∷ [])) (read_all s peer (addresses_from (count / 4) address))
    else answered s InvalidParameter [])
    else answered s BadAlignment []

abbrev pub status_of : Option Status → Status
status_of None = Success
status_of (Some status) = status

-- The index of a write's acknowledge counts what was done, each write so much.
abbrev pub write_answer : ℕ → Written → Executed
write_answer each w = record {
  camera = w.camera;
  status = status_of w.refusal;
  body = spelled ((2, 0) ∷ (2, each * w.done) ∷ []);
  changes = w.changes;
  has_granted = w.has_granted;
}

-- ---- acknowledges, and what is kept

-- the acknowledge's code is the command's plus one, within its 16 bits
abbrev pub ack_code : ℕ → ℕ
ack_code code = min (code + 1) (2 ^ 16 - 1)

-- the acknowledge's bytes, where the command asks for one
abbrev pub ack_for : CommandHead → Status → List ℕ → Option (List ℕ)
ack_for head status body =
    if has_flag 0x01 head.flags then Some (plain_ack (record { status = status_code status; code = ack_code head.code; req = head.req; body = body }))
    else None

-- A register or memory command that was executed.
pub record Execution : Type 0 where
  pub peer : Peer
  pub kept : Kept
  pub status : Status
  -- whether its sender has control after it
  pub is_primary : Bool
  -- whether its sender had control before it, or got it by it
  pub counts : Bool

-- What a datagram left, and what was answered.
pub record Answered : Type 0 where
  pub camera : Camera
  pub ack : Option (List ℕ)
  -- the register or memory command, where it was executed
  pub execution : Option Execution
  -- what changed, the latest first
  pub changes : List Change

-- only an acknowledge, if one was asked for
abbrev pub only_answered : Camera → Option (List ℕ) → Answered
only_answered s ack = record { camera = s; ack = ack; execution = None; changes = [] }

-- no acknowledge
abbrev pub silent : Camera → Answered
silent s = only_answered s None

-- The count stands still at the end of 64 bits.
abbrev pub counted : Camera → Bool → Camera
counted s counts = record s { executed = if counts then min (s.executed + 1) (2 ^ 64 - 1) else s.executed }

abbrev pub kept_of : List ℕ → CommandHead → Executed → Kept
kept_of bytes head e = record { bytes = bytes; req = head.req; ack = ack_for head e.status e.body }

-- kept where its sender is primary after it
abbrev pub remembered : Camera → Bool → Kept → Camera
remembered s is_primary kept = record s { kept = if is_primary then Some kept else s.kept }

-- A command counts whose sender had control, or got it by the command.
abbrev pub finished : Bool → Peer → List ℕ → CommandHead → Executed → Answered
finished was_primary peer bytes head e = record {
  camera = remembered (counted e.camera (was_primary || e.has_granted)) (is_primary e.camera.holder peer) (kept_of bytes head e);
  ack = ack_for head e.status e.body;
  execution = Some (record { peer = peer; kept = kept_of bytes head e; status = e.status; is_primary = is_primary e.camera.holder peer; counts = was_primary || e.has_granted });
  changes = e.changes;
}

-- ---- which command does what

-- DISCOVERY answers the first words; any other code isn't implemented.
abbrev pub other_answer : Camera → CommandHead → Answered
other_answer s head =
    if head.code == DISCOVERY_CMD then only_answered s (ack_for head Success (bytes_of (take DISCOVERY_WORDS s.words)))
    else only_answered s (ack_for head NotImplemented [])

-- A command, or None where the body hasn't the form of its code.
abbrev pub executed_as : Camera → Peer → List ℕ → ℕ → CommandHead → Option PlainCommand → Answered
executed_as s peer bytes moment head None = only_answered s (ack_for head InvalidHeader [])
executed_as s peer bytes moment head (Some (read_reg addresses)) =
    finished (is_primary s.holder peer) peer bytes head (read_answer s [] (read_all s peer (addresses_in (length addresses / 4) addresses)))
executed_as s peer bytes moment head (Some (write_reg pairs)) =
    finished (is_primary s.holder peer) peer bytes head (write_answer 1 (write_all s peer moment (pairs_in (length pairs / 8) pairs)))
executed_as s peer bytes moment head (Some (read_mem address count)) =
    finished (is_primary s.holder peer) peer bytes head (read_memory s peer address count)
executed_as s peer bytes moment head (Some (write_mem address data_bytes)) =
    finished (is_primary s.holder peer) peer bytes head (write_answer 4 (write_all s peer moment (words_in (length data_bytes / 4) address data_bytes)))
executed_as s peer bytes moment head (Some (other code body)) = other_answer s head

-- ---- repeats

-- Whether a request number is 1 to 32,767 places behind the latest one, on the cycle from 1 to 65,535.
abbrev pub is_behind : ℕ → ℕ → Bool
is_behind latest req =
    let places = (latest + 65535 - req) % 65535 in
    nat_le 1 places && nat_le places 32767

abbrev pub same_bytes : List ℕ → List ℕ → Bool
same_bytes a b = pointwise nat_eq a b

-- A register or memory command of the primary. A repeat of the kept one gets the kept acknowledge, and
-- one that is behind it is dropped; neither is executed.
abbrev pub from_primary : Option Kept → Camera → Peer → List ℕ → ℕ → CommandHead → Option PlainCommand → Answered
from_primary None s peer bytes moment head c = executed_as s peer bytes moment head c
from_primary (Some kept) s peer bytes moment head c =
    if same_bytes bytes kept.bytes then only_answered s kept.ack
    else (if is_behind kept.req head.req then silent s else executed_as s peer bytes moment head c)

-- whether the code is one of the four register and memory commands
abbrev pub is_access : ℕ → Bool
is_access code = (code == READREG_CMD) || (code == WRITEREG_CMD) || (code == READMEM_CMD) || (code == WRITEMEM_CMD)

-- what a PACKETRESEND asks for, where it has its form
abbrev pub resend_in : CommandHead → Option PlainCommand → Option Resend
resend_in head None = None
resend_in head (Some (read_reg addresses)) = None
resend_in head (Some (write_reg pairs)) = None
resend_in head (Some (read_mem address count)) = None
resend_in head (Some (write_mem address data_bytes)) = None
resend_in head (Some (other code body)) = resend_reading head body

-- PACKETRESEND is never acknowledged. Only the primary's is answered, while the channel is open.
abbrev pub resent : Camera → Peer → Option Resend → Camera
resent s peer r = if is_primary s.holder peer && is_open s then asked_again s r else s

abbrev pub obeyed : Camera → Peer → List ℕ → ℕ → CommandHead → Option PlainCommand → Answered
obeyed s peer bytes moment head c =
    if head.code == PACKETRESEND_CMD then silent (resent s peer (resend_in head c))
    else (if is_access head.code && is_primary s.holder peer then from_primary s.kept s peer bytes moment head c
    else executed_as s peer bytes moment head c)

-- ---- datagrams

-- the moment of a command becomes the last one of the primary that sent it
abbrev pub renewed : Camera → Peer → ℕ → Camera
renewed s peer moment = record s { holder = renewed_by s.holder peer moment }

-- Bytes that aren't a command are dropped; a body without the form of its code still renews.
abbrev pub heard : Camera → Peer → List ℕ → ℕ → Result (CommandHead × PlainCommand) ControlError → Answered
heard s peer bytes moment (Ok x) = obeyed (renewed s peer moment) peer bytes moment x.0 (Some x.1)
heard s peer bytes moment (Err (Form head)) = obeyed (renewed s peer moment) peer bytes moment head None
heard s peer bytes moment (Err (Short len)) = silent s
heard s peer bytes moment (Err (Key key)) = silent s
heard s peer bytes moment (Err ZeroReq) = silent s
heard s peer bytes moment (Err (Length field real)) = silent s

-- a datagram from a peer at a moment: first the look at the heartbeat
abbrev pub commanded : Camera → Peer → List ℕ → ℕ → Answered
commanded s peer bytes moment = heard (looked s moment) peer bytes moment (command_reading bytes)
