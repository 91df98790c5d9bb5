-- What the commands of the peer that has control do, and what those of all others come to.
use Rattle.std.specs.Prelude.{◌≡◌, ◌≢◌, ℕ, false, List, Option, Some}
use Rattle.std.specs.Option.{option_or}
use Rattle.gev_types.specs.declared.peer.Peer.{Peer}
use Rattle.gvcp_wire.specs.declared.message.CommandHead.{CommandHead}
use Rattle.gvcp_wire.specs.declared.status.Status.TheVariants.{AccessDenied}
use Rattle.gvcp_wire.specs.Reading.{command_reading}
use Rattle.bootstrap_regs.specs.Registers.{address_refusal}
use Rattle.control_privilege.specs.declared.holder.Holder.{Holder}
use Rattle.camera_machine.specs.Camera.{Camera, has_lost}
use Rattle.camera_machine.specs.Access.{Write, refusal_of}
use Rattle.camera_machine.specs.Commands.{commanded}
use Rattle.camera_machine.specs.Events.{Event}
use Rattle.camera_machine.specs.Primary.{head_in, ControlPasses, StrangerChangesNothing}

-- who has control, if any peer has, is this one, and this is the moment of its last command
abbrev pub IsRenewed : Option Holder → Peer → ℕ → Type 0
IsRenewed o peer moment = (h : Holder) → o ≡ Some h → (h.peer ≡ peer) × (h.last ≡ moment)

-- Each command of the peer that has control renews its heartbeat, whatever it asks for: also one whose body hasn't the
-- form of its code, one that is refused, and a repeat.
abbrev pub CommandsRenew : Camera → Type 0
CommandsRenew s =
    (h : Holder) (bytes : List ℕ) (moment : ℕ) (head : CommandHead) → s.holder ≡ Some h → has_lost s moment ≡ false
    → head_in (command_reading bytes) ≡ Some head → IsRenewed (commanded s h.peer bytes moment).camera.holder h.peer moment

-- While a peer has control, each write of another peer is refused: where no register is at its address, for that, and else
-- since access is denied.
abbrev pub StrangersAreRefused : Camera → Type 0
StrangersAreRefused s =
    (h : Holder) (peer : Peer) (w : Write) → s.holder ≡ Some h → peer ≢ h.peer
    → refusal_of s peer w ≡ option_or (address_refusal w.address) (Some AccessDenied)

-- Whoever has control keeps it until it is released or its heartbeat runs out, and until then the writes of all others are
-- refused and their datagrams change nothing.
pub record OneControls (s : Camera) : Type 0 where
  pub keeps : (e : Event) → ControlPasses s e
  pub refused : StrangersAreRefused s
  pub unchanged : StrangerChangesNothing s
