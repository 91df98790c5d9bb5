-- Why a run of `receive` ended as it did, by what came over its links and by its clock.
use Rattle.std.specs.Prelude.{◌≡◌, ◌≢◌, ◌⊎◌, ℕ, ◌+◌, ◌≤◌, ◌==◌, ◌||◌, Bool, false, if◌then◌else◌, List, [], ◌∷◌, ◌++◌, length, Option, Some, None}
use Rattle.gvcp_wire.specs.Messages.{PlainCommand, PlainAck}
use Rattle.client_machine.specs.Commands.{heartbeat}
use Rattle.client_machine.specs.Machine.{Asked, Client}
use Rattle.client_machine.specs.Events.{request_of, new_request}
use Rattle.client_machine.specs.Setup.{write_of}
use Rattle.control_client.specs.Values.{value_of}
use Rattle.camera_control.specs.Steps.{ACCESS_DENIED, read_of, is_held}
use Rattle.live_promises.specs.Moves.{later_moves}
use Rattle.live_promises.specs.ClientCauses.{IsUnanswered}
use Rattle.live_promises.specs.Acts.{Act, turns, with_given, behind_all, moves_in, Ended}

-- ---- no answer

-- The client gave a command up: at a moment that lies the limit of its last send behind that send. Up to then the link had
-- sent it three times, and no acknowledge that matches it had come since the first of these.
pub record HadNoAnswer (req : ℕ) (o : Client) (acts : List Act) : Type 0 where
  pub before : List Act
  pub given : Option PlainCommand
  pub moment : ℕ
  pub sent : Bool
  pub later : List Act
  pub are : acts ≡ before ++ turns given moment sent ∷ later
  pub asked : Asked
  pub outstanding : (with_given given (behind_all o before) moment).asked ≡ Some asked
  pub req_is : asked.req ≡ req
  pub waited : asked.sent + asked.limit ≤ moment
  pub unanswered : IsUnanswered req (later_moves [] (moves_in o before))

-- ---- acknowledges

-- the acknowledge ended this command
abbrev pub Answers : PlainCommand → Ended → Type 0
Answers c e = request_of e.asked ≡ new_request e.asked.req c

-- READREG or WRITEREG of this register
abbrev pub Accesses : ℕ → PlainCommand → Type 0
Accesses register c = (c ≡ read_of register) ⊎ ((value : ℕ) × (c ≡ write_of register value))

-- Among these acknowledges one refused a command of this register, with this status.
pub record IsRefused (register status : ℕ) (all : List Ended) : Type 0 where
  pub before : List Ended
  pub ended : Ended
  pub later : List Ended
  pub are : all ≡ before ++ ended ∷ later
  pub command : PlainCommand
  pub of_register : Accesses register command
  pub answers : Answers command ended
  pub status_is : ended.ack.status ≡ status
  pub refused : status ≢ 0

-- the value that an acknowledge with success tells
abbrev pub value_in : PlainAck → Option ℕ
value_in ack = if ack.status == 0 then value_of ack.body else None

abbrev pub is_held_if : Option ℕ → Bool
is_held_if None = false
is_held_if (Some privilege) = is_held privilege

-- The acknowledge tells that another application controls the camera: by the value, or by its status.
abbrev pub tells_held : Ended → Bool
tells_held e = (e.ack.status == ACCESS_DENIED) || is_held_if (value_in e.ack)

-- the first of these acknowledges does
abbrev pub first_tells_held : List Ended → Bool
first_tells_held [] = false
first_tells_held (e ∷ rest) = tells_held e

-- The acknowledge tells that no application controls the camera.
abbrev pub IsLost : Ended → Type 0
IsLost e = (privilege : ℕ) × ((value_in e.ack ≡ Some privilege) × (is_held privilege ≡ false))

-- Behind so many acknowledges one of a heartbeat told that no application controls the camera any more.
pub record HasLost (first : ℕ) (all : List Ended) : Type 0 where
  pub before : List Ended
  pub ended : Ended
  pub later : List Ended
  pub are : all ≡ before ++ ended ∷ later
  pub behind : first ≤ length before
  pub beats : Answers heartbeat ended
  pub lost : IsLost ended
