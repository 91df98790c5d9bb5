-- What happens to a camera, what it is after it, and what was done by then.
use Rattle.std.specs.Prelude.{ℕ, ◌+◌, ◌==◌, ◌&&◌, not, Bool, true, false, if◌then◌else◌, List, [], ◌∷◌, ◌++◌, Option, Some, None}
use Rattle.gev_types.specs.declared.frame.Frame.{Frame}
use Rattle.gev_types.specs.declared.peer.Peer.{Peer}
use Rattle.stream_packets.specs.Packets.{StreamPacket}
use Rattle.bootstrap_regs.specs.Addresses.{SCP0}
use Rattle.bootstrap_regs.specs.Changes as changes
use Rattle.bootstrap_regs.specs.Changes.{Change, value_after}
use Rattle.resend_store.specs.declared.sent.SentFrame.{SentFrame}
use Rattle.camera_machine.specs.Camera.{Kept, Camera, is_open, has_lost, looked}
use Rattle.camera_machine.specs.Stream.{next_frame, framed, given, emptied, all_waiting}
use Rattle.camera_machine.specs.Commands.{Execution, Answered, commanded}

pub data Event : Type 0 where
  -- a datagram of a peer reaches the control port at a moment
  command : Peer → List ℕ → ℕ → Event
  -- time has come to a moment
  tick : ℕ → Event
  -- the camera is to make a frame
  make_frame : Event
  -- the packet that waits first is given
  next_packet : Event
  -- the frames that are made from here on are short ones, or whole ones
  set_short : Bool → Event

abbrev pub step : Camera → Event → Camera
step s (command peer bytes moment) = (commanded s peer bytes moment).camera
step s (tick moment) = looked s moment
step s make_frame = framed s
step s next_packet = given s
step s (set_short short) = record s { short = short }

-- the camera after these events, the latest of which comes first
abbrev pub after : Camera → List Event → Camera
after start [] = start
after start (e ∷ es) = step (after start es) e

-- whether frames are short after these events: as the latest one that sets it says
abbrev pub last_short : List Event → Bool
last_short [] = false
last_short (command peer bytes moment ∷ es) = last_short es
last_short (tick moment ∷ es) = last_short es
last_short (make_frame ∷ es) = last_short es
last_short (next_packet ∷ es) = last_short es
last_short (set_short short ∷ es) = short

-- ---- steps with all that waits

-- What a step leaves, what is answered, and the packets that are sent.
pub record Turn : Type 0 where
  pub camera : Camera
  pub ack : Option (List ℕ)
  pub packets : List StreamPacket

abbrev pub turn_of : Camera → Option (List ℕ) → Turn
turn_of s ack = record { camera = emptied s; ack = ack; packets = all_waiting s.waiting }

-- a datagram, its acknowledge, and all that waits after it
abbrev pub command_turn : Camera → Peer → List ℕ → ℕ → Turn
command_turn s peer bytes moment = turn_of (commanded s peer bytes moment).camera (commanded s peer bytes moment).ack

-- a moment, and all that waits after it
abbrev pub tick_turn : Camera → ℕ → Turn
tick_turn s moment = turn_of (looked s moment) None

-- a frame, and all that waits after it
abbrev pub frame_turn : Camera → Turn
frame_turn s = turn_of (framed s) None

-- ---- what was done

pub data Deed : Type 0 where
  -- a write was executed, or control was released
  changed : Change → Deed
  -- a register or memory command was executed
  executed : Execution → Deed
  -- a frame was made
  made : SentFrame → Deed

abbrev pub with_execution : Option Execution → List Deed → List Deed
with_execution None ds = ds
with_execution (Some x) ds = executed x ∷ ds

abbrev pub with_changes : List Change → List Deed → List Deed
with_changes [] ds = ds
with_changes (c ∷ cs) ds = changed c ∷ with_changes cs ds

-- what a look at the heartbeat does
abbrev pub with_look : Camera → ℕ → List Deed → List Deed
with_look s moment ds = if has_lost s moment then changed changes.released ∷ ds else ds

-- what a datagram did, after what was done before
abbrev pub with_answer : Answered → List Deed → List Deed
with_answer a ds = with_execution a.execution (with_changes a.changes ds)

-- what an event does to a camera, after what was done before
abbrev pub past_with : Camera → Event → List Deed → List Deed
past_with s (command peer bytes moment) ds = with_answer (commanded s peer bytes moment) (with_look s moment ds)
past_with s (tick moment) ds = with_look s moment ds
past_with s make_frame ds = if is_open s then made (next_frame s) ∷ ds else ds
past_with s next_packet ds = ds
past_with s (set_short short) ds = ds

-- all that these events did from a camera on, the latest first
abbrev pub past : Camera → List Event → List Deed
past start [] = []
past start (e ∷ es) = past_with (after start es) e (past start es)

-- ---- what the past says

-- the writes and releases
abbrev pub changes_in : List Deed → List Change
changes_in [] = []
changes_in (changed c ∷ ds) = c ∷ changes_in ds
changes_in (executed x ∷ ds) = changes_in ds
changes_in (made sent ∷ ds) = changes_in ds

abbrev pub is_release : Change → Bool
is_release changes.released = true
is_release (changes.written address value) = false

-- the last command since the last release that was executed and whose sender had control after it
abbrev pub last_kept : List Deed → Option Kept
last_kept [] = None
last_kept (changed c ∷ ds) = if is_release c then None else last_kept ds
last_kept (executed x ∷ ds) = if x.is_primary then Some x.kept else last_kept ds
last_kept (made sent ∷ ds) = last_kept ds

-- how many of the executed commands count
abbrev pub counted_in : List Deed → ℕ
counted_in [] = 0
counted_in (changed c ∷ ds) = counted_in ds
counted_in (executed x ∷ ds) = if x.counts then counted_in ds + 1 else counted_in ds
counted_in (made sent ∷ ds) = counted_in ds

-- whether a change opens the stream channel, whose host port was this
abbrev pub opens : Change → ℕ → Bool
opens changes.released port = false
opens (changes.written address value) port = (address == SCP0) && (port == 0) && not (value == 0)

-- the frames that were made since the channel last opened, first first
abbrev pub frames_since_opening : List Deed → List SentFrame
frames_since_opening [] = []
frames_since_opening (changed c ∷ ds) = if opens c (value_after (changes_in ds) SCP0) then [] else frames_since_opening ds
frames_since_opening (executed x ∷ ds) = frames_since_opening ds
frames_since_opening (made sent ∷ ds) = frames_since_opening ds ++ sent ∷ []

-- the frames that were made, by block id; the same ids again stand for the latest ones
abbrev pub frames_made : List Deed → ℕ → Option Frame
frames_made [] b = None
frames_made (changed c ∷ ds) b = frames_made ds b
frames_made (executed x ∷ ds) b = frames_made ds b
frames_made (made sent ∷ ds) b = if sent.frame.block == b then Some sent.frame else frames_made ds b
