-- A piece of a camera's memory, read by one READMEM (GigE Vision 2.0, READMEM).
use Rattle.std.specs.Prelude.{◌≡◌, ⊤, ℕ, ◌+◌, ◌*◌, ◌/◌, min, IsTrue, List, [], ◌∷◌, ◌++◌, take, drop, Option, Some, None, option_map, Ok}
use Rattle.gvcp_wire.specs.Codes.{READMEM_ACK}
use Rattle.gvcp_wire.specs.declared.status.Status.TheVariants.{Success}
use Rattle.gvcp_wire.specs.Status.{status_code}
use Rattle.gvcp_wire.specs.Messages.{PlainAck, read_mem}
use Rattle.gvcp_wire.specs.Reading.{ack_reading}
use Rattle.gev_links.specs.Links.{Address, Answer, came}
use Rattle.client_machine.specs.Machine.{IsIdle}
use Rattle.gev_control.specs.declared.acq_end.AcqEnd.{AcqEnd}
use Rattle.gev_control.specs.declared.acq_end.AcqEnd.TheVariants as how
use Rattle.gev_control.specs.declared.carried.Carried.{Carried}
use Rattle.gev_control.specs.CarriesOut.{ControlSide, CarriesTo}
use Rattle.link_filters.specs.Reads.{has_memory, with_memory, heard_since, told_count}

-- the most bytes of one READMEM
abbrev pub PIECE_SIZE : ℕ
PIECE_SIZE = 512

-- how many bytes are asked for where so many are left: a multiple of 4
abbrev pub asked_count : ℕ → ℕ
asked_count rest = (min rest PIECE_SIZE + 3) / 4 * 4

-- what the body of its acknowledge tells: so many bytes behind the address
abbrev pub memory_in : ℕ → List ℕ → List ℕ
memory_in count body = take count (drop 4 body)

-- what the client heard while it read this: acknowledges that lack it were passed over
abbrev pub heard_of : Option (List Answer) → ℕ → ℕ → Option (List Answer) → Option (List Answer)
heard_of before address count answers = option_map (heard_since (told_count before) (with_memory address count)) answers

-- The READMEM was carried out so.
abbrev pub Reads : Address → ControlSide → ℕ → ℕ → ControlSide → AcqEnd → Type 0
Reads camera o address count n end =
    (begun : ℕ)
    × CarriesTo camera (read_mem address count ∷ []) o (record n { heard = heard_of o.heard address count n.heard }) (record { end = end; begun = begun })

-- The last of these answers is an acknowledge of READMEM with success, of this address and at least so many bytes,
-- and this is its body.
pub record TellsMemory (old new : List Answer) (address count : ℕ) (body : List ℕ) : Type 0 where
  pub answers : List Answer
  pub bytes : List ℕ
  pub peer : Address
  pub ack : PlainAck
  pub last : new ≡ old ++ (answers ++ came bytes peer ∷ [])
  pub read : ack_reading bytes ≡ Ok ack
  pub status : ack.status ≡ status_code Success
  pub code : ack.code ≡ READMEM_ACK
  pub has : IsTrue (has_memory address count ack.body)
  pub body_is : body ≡ ack.body

-- so it is where the link tells its receives
abbrev pub IsToldMemory : Option (List Answer) → Option (List Answer) → ℕ → ℕ → List ℕ → Type 0
IsToldMemory None new address count body = ⊤
IsToldMemory (Some old) None address count body = ⊤
IsToldMemory (Some old) (Some new) address count body = TellsMemory old new address count body

-- It was read: an acknowledge came that has it, and nothing is outstanding.
pub record HasRead (camera : Address) (o : ControlSide) (address count : ℕ) (n : ControlSide) : Type 0 where
  pub reads : Reads camera o address count n how.Stopped
  pub told : IsToldMemory o.heard n.heard address count n.client.body
  pub idle : IsIdle n.client
