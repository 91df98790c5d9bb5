-- Commands that leave the packet size of the stream as it is: 1500 bytes, of which a payload carries 1452.
use Rattle.std.specs.Prelude.{◌≡◌, ℕ, ◌/◌, length, Result, Ok, Err}
use Rattle.std.specs.List.{AllByRecursion}
use Rattle.gvcp_wire.specs.declared.message.CommandHead.{CommandHead}
use Rattle.gvcp_wire.specs.declared.message.ControlError.{ControlError}
use Rattle.gvcp_wire.specs.Messages.{PlainCommand, read_reg, write_reg, read_mem, write_mem, other}
use Rattle.bootstrap_regs.specs.Addresses.{SCPS0}
use Rattle.client_machine.specs.Setup.{SETUP_PACKET_SIZE}
use Rattle.camera_machine.specs.Access.{Write, pairs_in, words_in}

-- what the register of the packet size holds at first, and what the setup writes
abbrev pub PACKET_SIZE : ℕ
PACKET_SIZE = SETUP_PACKET_SIZE

-- a write to that register writes that value
abbrev pub KeepsSize : Write → Type 0
KeepsSize w = w.address ≡ SCPS0 → w.value ≡ PACKET_SIZE

-- so does each write of the command
abbrev pub WritesSize : PlainCommand → Type 0
WritesSize (read_reg addresses) = Unit {0}
WritesSize (write_reg pairs) = AllByRecursion KeepsSize (pairs_in (length pairs / 8) pairs)
WritesSize (read_mem address count) = Unit {0}
WritesSize (write_mem address data_bytes) = AllByRecursion KeepsSize (words_in (length data_bytes / 4) address data_bytes)
WritesSize (other code body) = Unit {0}

-- what was read as a command is such a one
abbrev pub ReadsSize : Result (CommandHead × PlainCommand) ControlError → Type 0
ReadsSize (Ok x) = WritesSize x.1
ReadsSize (Err e) = Unit {0}
