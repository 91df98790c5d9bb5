-- The commands that a control client submits (GigE Vision 2.0, GVCP: READREG, WRITEREG, READMEM, WRITEMEM).
use Rattle.std.specs.Prelude.{ℕ, ◌+◌, ◌≤◌, ◌==◌, Bool, ◌&&◌, nat_le, if◌then◌else◌, length}
use Rattle.byteorder.specs.Endian.{big_bytes}
use Rattle.gvcp_wire.specs.Codes.{MAX_BODY_SIZE, READREG_CMD, WRITEREG_CMD, READMEM_CMD, WRITEMEM_CMD}
use Rattle.gvcp_wire.specs.declared.message.CommandHead.{CommandHead}
use Rattle.gvcp_wire.specs.Messages.{PlainCommand, read_reg, write_reg, read_mem, write_mem, other, PlainAck}
use Rattle.gvcp_wire.specs.Control.{IsCommand}
use Rattle.bootstrap_regs.specs.Addresses.{CCP}

-- the flag that asks for an acknowledge
abbrev pub acknowledge_flag : ℕ
acknowledge_flag = 0x01

abbrev pub code_of : PlainCommand → ℕ
code_of (read_reg addresses) = READREG_CMD
code_of (write_reg pairs) = WRITEREG_CMD
code_of (read_mem address count) = READMEM_CMD
code_of (write_mem address bytes) = WRITEMEM_CMD
code_of (other code body) = code

abbrev pub head_for : ℕ → PlainCommand → CommandHead
head_for req c = record { flags = acknowledge_flag; code = code_of c; req = req }

-- it reads or writes registers or memory
abbrev pub IsAccess : PlainCommand → Type 0
IsAccess (read_reg addresses) = Unit {0}
IsAccess (write_reg pairs) = Unit {0}
IsAccess (read_mem address count) = Unit {0}
IsAccess (write_mem address bytes) = Unit {0}
IsAccess (other code body) = ⊥

-- The command may be submitted: it's an access, and can be written under each request number.
pub record MaySubmit (c : PlainCommand) : Type 0 where
  pub access : IsAccess c
  pub command : (req : ℕ) → 1 ≤ req → IsCommand (head_for req c) c

-- Request numbers go from 1 to 65,535 and then from 1 again. None is 0.
abbrev pub next_req : ℕ → ℕ
next_req req = if req == 65535 then 1 else req + 1

-- the command that keeps the control: it reads the control channel privilege
abbrev pub heartbeat : PlainCommand
heartbeat = read_reg (big_bytes 4 CCP)

-- whether an acknowledge answers the command with this code and request number
abbrev pub is_match : ℕ → ℕ → PlainAck → Bool
is_match code req ack = (ack.req == req) && (ack.code == code + 1) && nat_le (length ack.body) MAX_BODY_SIZE
