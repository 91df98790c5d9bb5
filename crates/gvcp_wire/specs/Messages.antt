-- Commands and acknowledges as plain values, which hold their bodies.
use Rattle.std.specs.Prelude.{ℕ, List}
use Rattle.gvcp_wire.specs.declared.message.Ack.{Ack}
use Rattle.gvcp_wire.specs.declared.message.Command.{Command}
use Rattle.gvcp_wire.specs.declared.message.Command.TheVariants as asks

pub data PlainCommand : Type 0 where
  -- the addresses
  read_reg : List ℕ → PlainCommand
  -- the pairs of an address and a value
  write_reg : List ℕ → PlainCommand
  -- an address and a number of bytes
  read_mem : ℕ → ℕ → PlainCommand
  -- an address and the bytes that go there
  write_mem : ℕ → List ℕ → PlainCommand
  -- a code and what follows the header
  other : ℕ → List ℕ → PlainCommand

pub record PlainAck : Type 0 where
  pub status : ℕ
  pub code : ℕ
  pub req : ℕ
  pub body : List ℕ

-- a command without where its body lies in memory
abbrev pub view : Command → PlainCommand
view (asks.ReadReg addresses) = read_reg addresses.now
view (asks.WriteReg pairs) = write_reg pairs.now
view (asks.ReadMem address count) = read_mem address count
view (asks.WriteMem address bytes) = write_mem address bytes.now
view (asks.Other code body) = other code body.now

-- an acknowledge without where its body lies in memory
abbrev pub ack_view : Ack → PlainAck
ack_view a = record { status = a.status; code = a.code; req = a.req; body = a.body.now }
