-- The laws of control and of repeated commands, which `src/laws.rt` proves.
use Rattle.std.specs.Prelude.{◌≡◌, ◌≢◌, ◌⊎◌, ℕ, Bool, false, ◌||◌, IsTrue, List, [], ◌∷◌, ◌++◌, length, Option, Some, None, Result, Ok, Err}
use Rattle.gev_types.specs.declared.frame.Shape.{Shape}
use Rattle.gev_types.specs.declared.peer.Peer.{Peer}
use Rattle.gvcp_wire.specs.declared.message.CommandHead.{CommandHead}
use Rattle.gvcp_wire.specs.declared.message.ControlError.{ControlError}
use Rattle.gvcp_wire.specs.declared.message.ControlError.TheVariants.{Short, Key, ZeroReq, Length, Form}
use Rattle.gvcp_wire.specs.declared.status.Status.{Status}
use Rattle.gvcp_wire.specs.Messages.{PlainCommand}
use Rattle.gvcp_wire.specs.Reading.{command_reading}
use Rattle.bootstrap_regs.specs.Changes.{Change}
use Rattle.control_privilege.specs.declared.holder.Holder.{Holder}
use Rattle.control_privilege.specs.Control.{is_primary}
use Rattle.camera_machine.specs.Camera.{Kept, Camera, new_camera, has_lost}
use Rattle.camera_machine.specs.Access.{Write, refusal_of, write_all}
use Rattle.camera_machine.specs.Commands.{is_access, is_behind, only_answered, silent, renewed, commanded}
use Rattle.camera_machine.specs.Events.{Event, command, tick, make_frame, next_packet, set_short, step, after, is_release}

-- ---- who has control

abbrev pub OnePrimary : Camera → Type 0
OnePrimary s = (p q : Peer) → IsTrue (is_primary s.holder p) → IsTrue (is_primary s.holder q) → p ≡ q

abbrev pub has_release : List Change → Bool
has_release [] = false
has_release (c ∷ cs) = is_release c || has_release cs

-- The peer that has control has it after the event too.
pub record KeepsControl (s : Camera) (h : Holder) : Type 0 where
  pub holder : Holder
  pub is : s.holder ≡ Some holder
  pub same_peer : holder.peer ≡ h.peer

-- a command releases the control of its own sender
pub record Releases (h : Holder) (peer : Peer) (changes : List Change) : Type 0 where
  pub own : peer ≡ h.peer
  pub release : IsTrue (has_release changes)

-- The event ends the holder's control: its heartbeat has run out, or its own command releases it.
abbrev pub EndsControl : Camera → Holder → Event → Type 0
EndsControl s h (command peer bytes moment) = IsTrue (has_lost s moment) ⊎ Releases h peer (commanded s peer bytes moment).changes
EndsControl s h (tick moment) = IsTrue (has_lost s moment)
EndsControl s h make_frame = ⊥
EndsControl s h next_packet = ⊥
EndsControl s h (set_short short) = ⊥

-- Whatever happens, the peer that has control keeps it, or the event ended its control.
abbrev pub ControlPasses : Camera → Event → Type 0
ControlPasses s e = (h : Holder) → s.holder ≡ Some h → KeepsControl (step s e) h ⊎ EndsControl s h e

-- While a peer has control, another peer's datagram changes nothing.
abbrev pub StrangerChangesNothing : Camera → Type 0
StrangerChangesNothing s =
    (h : Holder) (peer : Peer) (bytes : List ℕ) (moment : ℕ) → s.holder ≡ Some h → peer ≢ h.peer → has_lost s moment ≡ false
    → (commanded s peer bytes moment).camera ≡ s

-- ---- refused writes

-- A refused write ends its command: all is as the writes before it left it, and they are all done.
pub record IsEndedAt (s : Camera) (peer : Peer) (moment : ℕ) (before : List Write) (w : Write) (rest : List Write) (status : Status) : Type 0 where
  pub left : write_all s peer moment (before ++ w ∷ rest) ≡ record (write_all s peer moment before) { refusal = Some status }
  pub done : (write_all s peer moment before).done ≡ length before

abbrev pub RefusedWriteEnds : Camera → Peer → ℕ → List Write → Write → List Write → Status → Type 0
RefusedWriteEnds s peer moment before w rest status =
    (write_all s peer moment before).refusal ≡ None → refusal_of (write_all s peer moment before).camera peer w ≡ Some status
    → IsEndedAt s peer moment before w rest status

-- ---- repeats

-- the header of the command that the bytes are, also of one whose body hasn't the form of its code
abbrev pub head_in : Result (CommandHead × PlainCommand) ControlError → Option CommandHead
head_in (Ok x) = Some x.0
head_in (Err (Form head)) = Some head
head_in (Err (Short len)) = None
head_in (Err (Key key)) = None
head_in (Err ZeroReq) = None
head_in (Err (Length field real)) = None

-- the bytes have the header of a register or memory command with this request number
pub record IsAccess (bytes : List ℕ) (req : ℕ) : Type 0 where
  pub head : CommandHead
  pub read : head_in (command_reading bytes) ≡ Some head
  pub access : IsTrue (is_access head.code)
  pub req_is : head.req ≡ req

-- the primary's heartbeat hasn't run out, and this command was kept
pub record IsHeld (s : Camera) (kept : Kept) (peer : Peer) (moment : ℕ) : Type 0 where
  pub kept_is : s.kept ≡ Some kept
  pub primary : IsTrue (is_primary s.holder peer)
  pub alive : has_lost s moment ≡ false

-- A repeat of the kept command gets the kept acknowledge, and nothing else happens but that the
-- moment is the primary's last one.
abbrev pub RepeatIsAnswered : ℕ → Shape → ℕ → List Event → Type 0
RepeatIsAnswered seed shape room es =
    (kept : Kept) (peer : Peer) (moment : ℕ) → IsHeld (after (new_camera seed shape room) es) kept peer moment
    → commanded (after (new_camera seed shape room) es) peer kept.bytes moment
    ≡ only_answered (renewed (after (new_camera seed shape room) es) peer moment) kept.ack

-- A register or memory command of the primary that is behind the kept one is dropped: nothing is
-- answered, and nothing else happens.
abbrev pub BehindIsDropped : Camera → Type 0
BehindIsDropped s =
    (kept : Kept) (peer : Peer) (bytes : List ℕ) (moment req : ℕ) → IsHeld s kept peer moment → IsAccess bytes req
    → bytes ≢ kept.bytes → IsTrue (is_behind kept.req req) → commanded s peer bytes moment ≡ silent (renewed s peer moment)
