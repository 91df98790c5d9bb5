-- What is heard of a link over which registers and memory are read (GigE Vision 2.0, READREG_ACK and READMEM_ACK): an
-- acknowledge with success that hasn't what was asked for is none.
use Rattle.std.specs.Prelude.{◌≡◌, ⊤, ℕ, ◌+◌, ◌≤◌, ◌==◌, ◌&&◌, nat_le, not, Bool, false, if◌then◌else◌, List, ◌++◌, length, take, drop, map, Option, Some, None, Result, Ok, Err}
use Rattle.wire_fields.specs.Fields.{number_at}
use Rattle.gvcp_wire.specs.Codes.{READREG_ACK, READMEM_ACK}
use Rattle.gvcp_wire.specs.declared.message.ControlError.{ControlError}
use Rattle.gvcp_wire.specs.declared.status.Status.TheVariants.{Success}
use Rattle.gvcp_wire.specs.Status.{status_code}
use Rattle.gvcp_wire.specs.Messages.{PlainAck}
use Rattle.gvcp_wire.specs.Reading.{ack_reading}
use Rattle.gev_links.specs.Links.{Answer, nothing, failed, came}

-- ---- READREG of one register

-- one of READREG with success whose body isn't the value of one register
abbrev pub lacks_register : Result PlainAck ControlError → Bool
lacks_register (Ok ack) = (ack.status == status_code Success) && (ack.code == READREG_ACK) && not (length ack.body == 4)
lacks_register (Err e) = false

abbrev pub with_register : Answer → Answer
with_register nothing = nothing
with_register failed = failed
with_register (came bytes peer) = if lacks_register (ack_reading bytes) then nothing else came bytes peer

-- what is heard where one register is read at a time
abbrev pub with_registers : List Answer → List Answer
with_registers answers = map with_register answers

-- ---- READMEM

-- the body is the address that was asked for and at least so many bytes
abbrev pub has_memory : ℕ → ℕ → List ℕ → Bool
has_memory address count body = nat_le (4 + count) (length body) && (number_at 0 4 body == address)

-- one of READMEM with success whose body isn't
abbrev pub lacks_memory : ℕ → ℕ → Result PlainAck ControlError → Bool
lacks_memory address count (Ok ack) = (ack.status == status_code Success) && (ack.code == READMEM_ACK) && not (has_memory address count ack.body)
lacks_memory address count (Err e) = false

abbrev pub with_memory : ℕ → ℕ → Answer → Answer
with_memory address count nothing = nothing
with_memory address count failed = failed
with_memory address count (came bytes peer) = if lacks_memory address count (ack_reading bytes) then nothing else came bytes peer

-- ---- from some answer on

-- the first so many answers as they came, and of each later one what the filter hears of it
abbrev pub heard_since : ℕ → (Answer → Answer) → List Answer → List Answer
heard_since before filter answers = take before answers ++ map filter (drop before answers)

-- So many answers were told, where the link tells them.
abbrev pub HasTold : ℕ → Option (List Answer) → Type 0
HasTold before None = ⊤
HasTold before (Some answers) = length answers ≡ before

-- at least so many
abbrev pub HasToldSome : ℕ → Option (List Answer) → Type 0
HasToldSome before None = ⊤
HasToldSome before (Some answers) = before ≤ length answers

-- how many were told
abbrev pub told_count : Option (List Answer) → ℕ
told_count None = 0
told_count (Some answers) = length answers

-- what a link is seen as that stands on another one
pub record FilterState (L : Type 0) : Type 0 where
  -- the link it stands on
  pub inner : L
