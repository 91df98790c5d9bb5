-- What a camera is at a moment (GigE Vision 2.0, device with one stream channel).
use Rattle.std.specs.Prelude.{ℕ, Bool, false, not, ◌==◌, if◌then◌else◌, List, [], Option, None}
use Rattle.gev_types.specs.declared.frame.Shape.{Shape}
use Rattle.gev_types.specs.declared.peer.Peer.{Peer}
use Rattle.stream_packets.specs.Packets.{StreamPacket}
use Rattle.control_privilege.specs.declared.holder.Holder.{Holder}
use Rattle.bootstrap_regs.specs.Addresses.{HEARTBEAT_TIMEOUT, SCP0, SCDA0}
use Rattle.bootstrap_regs.specs.Words.{word_at, with_word, released_words}
use Rattle.control_privilege.specs.Control.{is_lost}
use Rattle.resend_store.specs.Shelf.{Shelf, empty_shelf}
use Rattle.camera_machine.specs.Words.{initial_words}

-- the latest executed register or memory command of the primary
pub record Kept : Type 0 where
  pub bytes : List ℕ
  pub req : ℕ
  -- the acknowledge's bytes, where one was asked for
  pub ack : Option (List ℕ)

-- Packets that wait to be sent, in order: those of a new frame, or the reply to one PACKETRESEND.
pub record Job : Type 0 where
  pub is_reply : Bool
  pub packets : List StreamPacket

pub record Camera : Type 0 where
  -- what its frames are made of
  pub seed : ℕ
  pub shape : Shape
  -- the bootstrap registers
  pub words : List ℕ
  -- who has control
  pub holder : Option Holder
  pub kept : Option Kept
  -- the frames that can be sent again
  pub shelf : Shelf
  pub waiting : List Job
  -- how many register and memory commands of the primary were executed
  pub executed : ℕ
  -- whether the frames that it makes are short ones
  pub short : Bool

-- a camera that holds at most so many frames
abbrev pub new_camera : ℕ → Shape → ℕ → Camera
new_camera seed shape room = record {
  seed = seed;
  shape = shape;
  words = initial_words;
  holder = None;
  kept = None;
  shelf = empty_shelf room;
  waiting = [];
  executed = 0;
  short = false;
}

-- the register of the current IP address (GigE Vision 2.0, bootstrap registers)
abbrev pub CURRENT_ADDRESS : ℕ
CURRENT_ADDRESS = 0x0024

-- the camera with this address in that register
abbrev pub standing_at : ℕ → Camera → Camera
standing_at address s = record s { words = with_word s.words CURRENT_ADDRESS address }

-- the stream channel is open while its host port isn't 0
abbrev pub is_open : Camera → Bool
is_open s = not (word_at s.words SCP0 == 0)

-- where the stream's packets go
abbrev pub stream_peer : Camera → Peer
stream_peer s = record { address = word_at s.words SCDA0; port = word_at s.words SCP0 }

-- Control is released: nobody has it, the channel is closed, and what waits is dropped.
abbrev pub released : Camera → Camera
released s = record s { words = released_words s.words; holder = None; kept = None; waiting = [] }

-- whether the primary's heartbeat has run out at this moment
abbrev pub has_lost : Camera → ℕ → Bool
has_lost s moment = is_lost s.holder moment (word_at s.words HEARTBEAT_TIMEOUT)

-- the camera after a look at the heartbeat
abbrev pub looked : Camera → ℕ → Camera
looked s moment = if has_lost s moment then released s else s
