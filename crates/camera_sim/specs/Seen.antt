-- How the camera's fields stand for the machine's state.
use Rattle.std.specs.Prelude.{◌≡◌, ℕ, ◌^◌, ◌<◌, ◌≤◌, Bool, true, List, [], length, take, Option, Some, None, option_map, IfSome}
use Rattle.gev_types.specs.declared.frame.Shape.{Shape}
use Rattle.gev_types.specs.FrameSize.{IsImageSize}
use Rattle.bootstrap_regs.specs.Addresses.{SCP0, SCPS0, WORDS}
use Rattle.bootstrap_regs.specs.Registers.{is_packet_size}
use Rattle.bootstrap_regs.specs.Words.{word_at}
use Rattle.gev_frames.specs.Frames.{shape_size, MayBeShort}
use Rattle.camera_machine.specs.Camera.{Kept, Job}
use Rattle.camera_sim.specs.declared.acknowledge.TheConstants.{MESSAGE_SIZE}
use Rattle.camera_sim.specs.declared.kept.Kept.{Kept as KeptSizes}

-- the kept command, whose bytes and acknowledge are the first ones of these
abbrev pub kept_of : Option KeptSizes → List ℕ → List ℕ → Option Kept
kept_of None command answer = None
kept_of (Some k) command answer = Some (record {
  bytes = take k.len command;
  req = k.req;
  ack = option_map (λ len. take len answer) k.ack;
})

-- The command and its acknowledge are within their messages.
pub record IsKept (k : KeptSizes) : Type 0 where
  pub len : k.len ≤ MESSAGE_SIZE
  pub ack : IfSome k.ack (λ len. len ≤ MESSAGE_SIZE)

-- All words are there, the stream's port is one, and packets have a size that they may have.
pub record AreRegisters (words : List ℕ) : Type 0 where
  pub size : length words ≡ WORDS
  pub port : word_at words SCP0 < 2 ^ 16
  pub packet_size : is_packet_size (word_at words SCPS0) ≡ true

-- What each camera keeps.
pub record IsCamera (shape : Shape) (short : Bool) (words : List ℕ) (waiting : List Job) (kept : Option KeptSizes) (command answer : List ℕ) : Type 0 where
  pub image : IsImageSize (shape_size shape)
  pub lines : MayBeShort short shape
  pub registers : AreRegisters words
  -- nothing waits while the channel is closed
  pub closed : word_at words SCP0 ≡ 0 → waiting ≡ []
  pub keeps : IfSome kept IsKept
  pub command_size : length command ≡ MESSAGE_SIZE
  pub answer_size : length answer ≡ MESSAGE_SIZE
