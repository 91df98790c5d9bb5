-- What the code says of a register or memory command.
use Rattle.std.specs.Prelude.{◌≡◌, ℕ, ◌/◌, ◌≤◌, Bool, ◌||◌, List, [], length, take}
use Rattle.gev_types.specs.declared.peer.Peer.{Peer}
use Rattle.gvcp_wire.specs.Codes.{MAX_BODY_SIZE}
use Rattle.gvcp_wire.specs.declared.message.CommandHead.{CommandHead}
use Rattle.gvcp_wire.specs.declared.status.Status.{Status}
use Rattle.gvcp_wire.specs.declared.status.Status.TheVariants.{NotImplemented}
use Rattle.gvcp_wire.specs.Messages.{PlainCommand, read_reg, write_reg, read_mem, write_mem, other}
use Rattle.control_privilege.specs.Control.{is_primary}
use Rattle.camera_machine.specs.Camera.{Camera}
use Rattle.camera_machine.specs.Access.{read_all, write_all, addresses_in, pairs_in, words_in}
use Rattle.camera_machine.specs.Commands.{Executed, answered, read_answer, write_answer, read_memory, ack_for, counted, remembered}
use Rattle.camera_sim.specs.declared.done.Done.{Done}

-- what executing it leaves and answers
abbrev pub execution_of : Camera → Peer → ℕ → PlainCommand → Executed
execution_of s peer moment (read_reg addresses) = read_answer s [] (read_all s peer (addresses_in (length addresses / 4) addresses))
execution_of s peer moment (write_reg pairs) = write_answer 1 (write_all s peer moment (pairs_in (length pairs / 8) pairs))
execution_of s peer moment (read_mem address count) = read_memory s peer address count
execution_of s peer moment (write_mem address data_bytes) =
    write_answer 4 (write_all s peer moment (words_in (length data_bytes / 4) address data_bytes))
execution_of s peer moment (other code body) = answered s NotImplemented []

-- what such a command holds is no longer than a body
abbrev pub HasRoom : PlainCommand → Type 0
HasRoom (read_reg addresses) = length addresses ≤ MAX_BODY_SIZE
HasRoom (write_reg pairs) = length pairs ≤ MAX_BODY_SIZE
HasRoom (read_mem address count) = Unit {0}
HasRoom (write_mem address data_bytes) = length data_bytes ≤ MAX_BODY_SIZE
HasRoom (other code body) = Unit {0}

-- The code's answer, the camera after it and the front of a buffer are what the execution says.
pub record IsDone (done : Done) (s : Camera) (buffer : List ℕ) (e : Executed) : Type 0 where
  pub camera : s ≡ e.camera
  pub status : done.status ≡ e.status
  pub body : take done.len buffer ≡ e.body
  pub has_granted : done.has_granted ≡ e.has_granted
  pub fits : done.len ≤ MAX_BODY_SIZE

-- the camera after a command was executed that is counted and kept
abbrev pub finished_camera : Bool → Peer → List ℕ → CommandHead → Camera → Status → List ℕ → Bool → Camera
finished_camera was_primary peer bytes head s status body has_granted =
    remembered (counted s (was_primary || has_granted)) (is_primary s.holder peer) (record { bytes = bytes; req = head.req; ack = ack_for head status body })
