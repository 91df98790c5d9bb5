-- Which frames stand behind the packets that a camera gave, and what a buffer holds of them.
use Rattle.std.specs.Prelude.{◌≡◌, ◌⊎◌, ℕ, ◌<◌, ◌^◌, Bool, true, List, ◌++◌, take, Option, Some, IfSome}
use Rattle.std.specs.List.{AllByRecursion, Contains}
use Rattle.gev_types.specs.declared.frame.Frame.{Frame}
use Rattle.gev_types.specs.declared.frame.Shape.{Shape}
use Rattle.gev_types.specs.FrameSize.{IsImageSize}
use Rattle.gev_types.specs.Filling.{empty_record}
use Rattle.gev_frames.specs.Frames.{shape_size, camera_frame, MayBeShort}
use Rattle.stream_packets.specs.Packets.{StreamPacket}
use Rattle.stream_packets.specs.FramePackets.{leader_info}
use Rattle.stream_packets.specs.Sent.{AreFrames, IsSent}
use Rattle.gvsp_wire.specs.Plain.{AreBytes, InfoFits}
use Rattle.gvsp_wire.specs.Reading.{packet_of}
use Rattle.block_image.specs.Sizes.{IsPayloadSize}
use Rattle.block_image.specs.OneBlock.{AreSent}
use Rattle.board_machine.specs.Machine.{Item, item}
use Rattle.board_machine.specs.Handout.{handed_items}
use Rattle.acquisition_machine.specs.declared.config.AcqConfig.{AcqConfig}
use Rattle.acquisition_machine.specs.Blocks.{Given, Retirement, filling_in}
use Rattle.acquisition_machine.specs.Machine.{Input}
use Rattle.acquisition_machine.specs.FrameLaws.{IsSince, HoldsOfFrame}
use Rattle.script_trace.specs.Trace.{Trace, board}
use Rattle.script_trace.specs.Fills.{tried_blocks}
use Rattle.camera_machine.specs.Camera.{new_camera}
use Rattle.camera_machine.specs.Events.{past, frames_made}
use Rattle.camera_machine.specs.Sending.{AreGenerated, AskFromOne, HaveRows, HaveSize}
use Rattle.world_machine.specs.Schedule.{camera_events}
use Rattle.world_laws.specs.Schedule.{WorldEvent, hears, session_acts}

-- ---- frames

-- The frame's numbers are as wide as packets have them, and its pixels are bytes.
pub record FitsPackets (frame : Frame) : Type 0 where
  pub block : frame.block < 2 ^ 64
  pub info : InfoFits (leader_info frame)
  pub pixels : AreBytes frame.pixels

-- The packets are sent ones of these frames, with payloads of p bytes.
pub record AreOfFrames (frames : ℕ → Option Frame) (p : ℕ) (packets : List StreamPacket) : Type 0 where
  pub sent : AreSent frames p packets
  pub fit : (b : ℕ) (f : Frame) → frames b ≡ Some f → FitsPackets f

-- what the bytes are read as, if as a packet, is a sent one of these frames
abbrev pub IsReadAsSent : (ℕ → Option Frame) → ℕ → List ℕ → Type 0
IsReadAsSent frames p bytes = IfSome (packet_of bytes) (IsSent frames p)

-- Each datagram that the receiver hears is so.
pub record HearsFrames (frames : ℕ → Option Frame) (p : ℕ) (es : List WorldEvent) : Type 0 where
  pub are_frames : AreFrames frames
  pub payload_size : IsPayloadSize p
  pub heard : (bytes : List ℕ) → Contains es (hears bytes) → IsReadAsSent frames p bytes

-- ---- buffers

-- The buffer was filled with a block, and holds the packets of its id that came since the buffer was claimed
-- for it. Of the block's frame it holds what `HoldsOfFrame` says: where it's marked complete, the frame; in
-- every case each received byte in place, and 0 elsewhere, and no other image told than that frame's; and in a
-- large enough buffer, where all packets came, it's marked complete.
pub record HoldsBlock (frames : ℕ → Option Frame) (c : AcqConfig) (inputs : List Input) (x : Item) : Type 0 where
  pub front : List Input
  pub rest : List Input
  pub parts : inputs ≡ front ++ rest
  pub block : Retirement
  pub came : IsSince c front block.was
  pub given : Given
  pub has : block.was.given ≡ Some given
  pub is : x ≡ item given.place (filling_in c.p block given)
  pub holds : HoldsOfFrame frames c.p block given

-- the same, or the buffer has the empty record
abbrev pub IsTrueImage : (ℕ → Option Frame) → AcqConfig → List Input → Item → Type 0
IsTrueImage frames c inputs x = HoldsBlock frames c inputs x ⊎ (x.filling.rec ≡ empty_record)

-- Each block that the acquisition filled, or tried to fill where the stream was closed, is so; and so is each
-- buffer that was handed out or waits in the output, but for those with the empty record.
pub record HasTrueImages (frames : ℕ → Option Frame) (c : AcqConfig) (t : Trace) : Type 0 where
  pub blocks : AllByRecursion (HoldsBlock frames c t.inputs) (tried_blocks t)
  pub handed : AllByRecursion (IsTrueImage frames c t.inputs) (handed_items t.entries)
  pub waiting : AllByRecursion (IsTrueImage frames c t.inputs) (board t).out

-- ---- a camera that sends such frames

-- the frames that the camera made, by block id
abbrev pub made_in : ℕ → Shape → ℕ → List WorldEvent → ℕ → Option Frame
made_in seed shape room es = frames_made (past (new_camera seed shape room) (camera_events (session_acts es)))

-- the numbers of a shape are as wide as packets have them
pub record ShapeFits (shape : Shape) : Type 0 where
  pub pixel : shape.pixel < 2 ^ 32
  pub size_x : shape.size_x < 2 ^ 32
  pub size_y : shape.size_y < 2 ^ 32

-- The camera's frames have a size that a frame may have, lines enough where they are short, and ids of 64 bits; each
-- was made with payloads of p bytes, and all are short ones or none is; and no command asked for packets of block 0,
-- which a notice would have to name.
pub record SendsFrames (seed : ℕ) (shape : Shape) (room p : ℕ) (short : Bool) (es : List WorldEvent) : Type 0 where
  pub size : IsImageSize (shape_size shape)
  pub lines : MayBeShort short shape
  pub fits : ShapeFits shape
  pub payload_size : IsPayloadSize p
  pub ids : (b : ℕ) (f : Frame) → made_in seed shape room es b ≡ Some f → b < 2 ^ 64
  pub one_size : HaveSize p (past (new_camera seed shape room) (camera_events (session_acts es)))
  pub one_shortness : HaveRows short shape (past (new_camera seed shape room) (camera_events (session_acts es)))
  pub from_one : AskFromOne (camera_events (session_acts es))

-- The frames that were made stand behind the packets, and are the generator's: short ones, or whole ones.
pub record AreOfMade (seed : ℕ) (shape : Shape) (room p : ℕ) (short : Bool) (es : List WorldEvent) (packets : List StreamPacket) : Type 0 where
  pub generated : AreGenerated short seed shape (made_in seed shape room es)
  pub frames : AreOfFrames (made_in seed shape room es) p packets

-- Where the buffer is marked complete, its first bytes, as many as its record says, are the image that the
-- generator makes under the block's id: of all lines, or where frames are short, of those that a short one has.
abbrev pub IsGenerated : Bool → ℕ → Shape → Item → Type 0
IsGenerated short seed shape x =
    x.filling.rec.complete ≡ true
    → take x.filling.rec.data_len x.filling.bytes ≡ (camera_frame short seed x.filling.rec.block shape).pixels

-- The buffers hold what came of these frames; and where one that was handed out or waits in the output is
-- marked complete, it's the generator's image.
pub record HasGeneratedImages (short : Bool) (seed : ℕ) (shape : Shape) (frames : ℕ → Option Frame) (c : AcqConfig) (t : Trace) : Type 0 where
  pub images : HasTrueImages frames c t
  pub handed : AllByRecursion (IsGenerated short seed shape) (handed_items t.entries)
  pub waiting : AllByRecursion (IsGenerated short seed shape) (board t).out
