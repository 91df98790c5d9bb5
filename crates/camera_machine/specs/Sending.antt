-- The laws of the frames and packets of a camera over lists of events, which `src/laws.rt` proves.
use Rattle.std.specs.Prelude.{◌≡◌, ℕ, ◌+◌, ◌≤◌, Bool, false, List, [], ◌∷◌, Option, Some, None, Result, Ok, Err, All, IfSome, drop, slice_get}
use Rattle.gev_types.specs.declared.frame.Frame.{Frame}
use Rattle.gev_types.specs.declared.frame.Shape.{Shape}
use Rattle.gev_types.specs.FrameSize.{IsImageSize}
use Rattle.gev_frames.specs.Frames.{shape_size, rows_of, camera_frame, MayBeShort}
use Rattle.stream_packets.specs.Sent.{AreFrames, IsSent}
use Rattle.gvcp_wire.specs.declared.message.CommandHead.{CommandHead}
use Rattle.gvcp_wire.specs.declared.message.ControlError.{ControlError}
use Rattle.gvcp_wire.specs.Messages.{PlainCommand}
use Rattle.gvcp_wire.specs.Reading.{command_reading}
use Rattle.gvcp_wire.specs.declared.resend.Resend.{Resend}
use Rattle.resend_store.specs.Pushes.{reply_of}
use Rattle.resend_store.specs.Shelf.{reply_in}
use Rattle.camera_machine.specs.Camera.{Camera, new_camera}
use Rattle.camera_machine.specs.Stream.{next_frame, all_waiting, waiting_count, first_waiting, given, packets_given, after_given, emptied}
use Rattle.camera_machine.specs.Commands.{resend_in}
use Rattle.camera_machine.specs.Events.{Event, command, tick, make_frame, next_packet, set_short, Deed, changed, executed, made, after, past, last_short, frames_since_opening, frames_made}

-- ---- frames

-- each frame was made with this shortness: it has so many lines as a frame of its id then has
abbrev pub HaveRows : Bool → Shape → List Deed → Type 0
HaveRows short shape [] = Unit {0}
HaveRows short shape (changed c ∷ ds) = HaveRows short shape ds
HaveRows short shape (executed x ∷ ds) = HaveRows short shape ds
HaveRows short shape (made sent ∷ ds) = (sent.frame.rows ≡ rows_of short sent.frame.block shape) × HaveRows short shape ds

-- The frames that were made are the generator's, all whole or all short, each under its own id: valid
-- ones, where the shape has a size that a frame may have, and lines enough for short ones.
pub record AreGenerated (short : Bool) (seed : ℕ) (shape : Shape) (frames : ℕ → Option Frame) : Type 0 where
  pub same : (b : ℕ) (f : Frame) → frames b ≡ Some f → f ≡ camera_frame short seed b shape
  pub valid : IsImageSize (shape_size shape) → MayBeShort short shape → AreFrames frames

-- Each of these frames is the generator's, whole or short, under its own id; where all were made with one
-- shortness, it's of that.
pub record AreOfGenerator (seed : ℕ) (shape : Shape) (deeds : List Deed) : Type 0 where
  pub each : (b : ℕ) (f : Frame) → frames_made deeds b ≡ Some f → (short : Bool) × (f ≡ camera_frame short seed b shape)
  pub valid : IsImageSize (shape_size shape) → 8 ≤ shape.size_y → AreFrames (frames_made deeds)
  pub all : (short : Bool) → HaveRows short shape deeds → AreGenerated short seed shape (frames_made deeds)

abbrev pub FramesAreGenerated : ℕ → Shape → ℕ → List Event → Type 0
FramesAreGenerated seed shape room es = AreOfGenerator seed shape (past (new_camera seed shape room) es)

-- ---- short frames

-- no event sets whether frames are short
abbrev pub IsNeverSet : List Event → Type 0
IsNeverSet [] = Unit {0}
IsNeverSet (command peer bytes moment ∷ es) = IsNeverSet es
IsNeverSet (tick moment ∷ es) = IsNeverSet es
IsNeverSet (make_frame ∷ es) = IsNeverSet es
IsNeverSet (next_packet ∷ es) = IsNeverSet es
IsNeverSet (set_short short ∷ es) = ⊥

-- the first event sets it to this, and no other sets it
abbrev pub IsSetFirst : Bool → List Event → Type 0
IsSetFirst short [] = ⊥
IsSetFirst short (command peer bytes moment ∷ es) = IsSetFirst short es
IsSetFirst short (tick moment ∷ es) = IsSetFirst short es
IsSetFirst short (make_frame ∷ es) = IsSetFirst short es
IsSetFirst short (next_packet ∷ es) = IsSetFirst short es
IsSetFirst short (set_short to ∷ es) = (to ≡ short) × (es ≡ [])

-- The frame that is made after these events is short exactly where the latest event that sets it said so.
-- So all frames are whole where no event sets it, and of one shortness where the first alone does.
pub record FramesAreShort (seed : ℕ) (shape : Shape) (room : ℕ) (es : List Event) : Type 0 where
  pub next : (next_frame (after (new_camera seed shape room) es)).frame
      ≡ camera_frame (last_short es) seed ((after (new_camera seed shape room) es).shelf.count + 1) shape
  pub never : IsNeverSet es → HaveRows false shape (past (new_camera seed shape room) es)
  pub first : (short : Bool) → IsSetFirst short es → HaveRows short shape (past (new_camera seed shape room) es)

-- ---- packets

-- each frame was made with payloads of p bytes
abbrev pub HaveSize : ℕ → List Deed → Type 0
HaveSize p [] = Unit {0}
HaveSize p (changed c ∷ ds) = HaveSize p ds
HaveSize p (executed x ∷ ds) = HaveSize p ds
HaveSize p (made sent ∷ ds) = (sent.payload_size ≡ p) × HaveSize p ds

-- what a PACKETRESEND asks for
abbrev pub asked_in : Result (CommandHead × PlainCommand) ControlError → Option Resend
asked_in (Ok x) = resend_in x.0 (Some x.1)
asked_in (Err e) = None

-- No command asks for packets of block 0, which a notice would have to name.
abbrev pub AskFromOne : List Event → Type 0
AskFromOne [] = Unit {0}
AskFromOne (command peer bytes moment ∷ es) = IfSome (asked_in (command_reading bytes)) (λ r. 1 ≤ r.block) × AskFromOne es
AskFromOne (tick moment ∷ es) = AskFromOne es
AskFromOne (make_frame ∷ es) = AskFromOne es
AskFromOne (next_packet ∷ es) = AskFromOne es
AskFromOne (set_short short ∷ es) = AskFromOne es

-- All packets that wait, and so the next that is given, are ones that a camera of these frames may send.
pub record GivesSent (frames : ℕ → Option Frame) (p : ℕ) (s : Camera) : Type 0 where
  pub waiting : All (IsSent frames p) (all_waiting s.waiting)
  pub next : IfSome (first_waiting s.waiting) (IsSent frames p)

-- So it is after any events of a new camera, of the map of frames that it made, where each was made with
-- payloads of p bytes and this shortness.
abbrev pub PacketsAreSent : ℕ → Shape → ℕ → ℕ → Bool → List Event → Type 0
PacketsAreSent seed shape room p short es =
    AskFromOne es → HaveSize p (past (new_camera seed shape room) es) → HaveRows short shape (past (new_camera seed shape room) es)
    → GivesSent (frames_made (past (new_camera seed shape room) es)) p (after (new_camera seed shape room) es)

-- ---- replies

-- The reply to a range of packets is that of the list of the frames that were made since the channel
-- last opened.
abbrev pub RepliesSayThePast : ℕ → Shape → ℕ → List Event → Type 0
RepliesSayThePast seed shape room es =
    1 ≤ room → (first last b : ℕ)
    → reply_in (after (new_camera seed shape room) es).shelf first last b
    ≡ reply_of room (frames_since_opening (past (new_camera seed shape room) es)) first last b

-- ---- the order of packets

-- A call gives the first packet that waits, and the others go on waiting; as many calls as packets wait
-- give them all.
pub record GivesInOrder (s : Camera) : Type 0 where
  pub first : first_waiting s.waiting ≡ slice_get (all_waiting s.waiting) 0
  pub rest : all_waiting (given s).waiting ≡ drop 1 (all_waiting s.waiting)
  pub all : packets_given (waiting_count s) s ≡ all_waiting s.waiting
  pub emptied : after_given (waiting_count s) s ≡ emptied s

abbrev pub PacketsComeInOrder : ℕ → Shape → ℕ → List Event → Type 0
PacketsComeInOrder seed shape room es = GivesInOrder (after (new_camera seed shape room) es)
