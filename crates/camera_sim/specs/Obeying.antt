-- What the code says of acknowledges and of the commands that it can keep.
use Rattle.std.specs.Prelude.{◌≡◌, ℕ, ◌≤◌, List, length, take, Option, option_map, IfSome}
use Rattle.gvcp_wire.specs.Messages.{PlainCommand}
use Rattle.camera_machine.specs.Camera.{Camera}
use Rattle.camera_machine.specs.Commands.{Answered}
use Rattle.camera_sim.specs.declared.acknowledge.TheConstants.{MESSAGE_SIZE}
use Rattle.camera_sim.specs.Doing.{HasRoom}

-- the acknowledge of this length at the front of a message, where one goes out
abbrev pub ack_of : Option ℕ → List ℕ → Option (List ℕ)
ack_of len message = option_map (λ n. take n message) len

abbrev pub FitsMessage : Option ℕ → Type 0
FitsMessage len = IfSome len (λ n. n ≤ MESSAGE_SIZE)

-- The camera after a command, and the message of this length that goes out, if one does, are what the machine answers.
pub record IsAnswered (after : Camera) (len : Option ℕ) (message : List ℕ) (a : Answered) : Type 0 where
  pub state : after ≡ a.camera
  pub ack : ack_of len message ≡ a.ack
  pub fits : FitsMessage len

-- The bytes of a command have the size that a message may have.
pub record IsMessage (bytes : List ℕ) (c : PlainCommand) : Type 0 where
  pub bytes_fit : length bytes ≤ MESSAGE_SIZE
  pub room : HasRoom c

-- a command, if it is one, that can be kept
abbrev pub CanKeep : List ℕ → Option PlainCommand → Type 0
CanKeep bytes command = IfSome command (IsMessage bytes)
