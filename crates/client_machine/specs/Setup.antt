-- The commands that make a camera send its stream (GigE Vision 2.0, bootstrap registers: control channel
-- privilege, stream channel).
use Rattle.std.specs.Prelude.{◌≡◌, ℕ, List, [], ◌∷◌, ◌++◌, slice_get, Some}
use Rattle.byteorder.specs.Endian.{big_bytes}
use Rattle.gev_types.specs.declared.peer.Peer.{Peer}
use Rattle.gvcp_wire.specs.Messages.{PlainCommand, write_reg}
use Rattle.bootstrap_regs.specs.Addresses.{CCP, SCP0, SCPS0, SCDA0}
use Rattle.client_machine.specs.Commands.{MaySubmit}

-- the privilege that the setup asks for: control access
abbrev pub CONTROL_ACCESS : ℕ
CONTROL_ACCESS = 2

-- the packet size that the setup asks for, in bytes with the headers of IP, UDP and GVSP
abbrev pub SETUP_PACKET_SIZE : ℕ
SETUP_PACKET_SIZE = 1500

-- WRITEREG of one register
abbrev pub write_of : ℕ → ℕ → PlainCommand
write_of address value = write_reg (big_bytes 4 address ++ big_bytes 4 value)

-- What makes a camera send its stream to a peer: control, the packets' size, the address, and the port,
-- which opens the channel.
abbrev pub setup_commands : Peer → List PlainCommand
setup_commands peer =
    write_of CCP CONTROL_ACCESS ∷ write_of SCPS0 SETUP_PACKET_SIZE ∷ write_of SCDA0 peer.address ∷ write_of SCP0 peer.port ∷ []

-- how many commands the setup has
abbrev pub SETUP_SIZE : ℕ
SETUP_SIZE = 4

-- Each command of the setup may be submitted.
abbrev pub SetupIsSubmitted : Peer → Type 0
SetupIsSubmitted peer = (place : ℕ) (c : PlainCommand) → slice_get (setup_commands peer) place ≡ Some c → MaySubmit c
