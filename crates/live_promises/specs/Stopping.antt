-- The stop of a camera: which of its commands were submitted, and why not all.
use Rattle.std.specs.Prelude.{◌≡◌, ◌⊎◌, ⊤, ℕ, Bool, List, [], ◌∷◌, ◌++◌, map, Result, Ok, Err}
use Rattle.bootstrap_regs.specs.Addresses.{CCP, SCP0}
use Rattle.gvcp_wire.specs.Messages.{PlainCommand}
use Rattle.client_machine.specs.Setup.{write_of}
use Rattle.gev_links.specs.Links.{Address}
use Rattle.gev_control.specs.CarriesOut.{ControlSide}
use Rattle.camera_control.specs.declared.register_write.RegisterWrite.{RegisterWrite}
use Rattle.camera_control.specs.declared.control_end.ControlEnd.{ControlEnd}
use Rattle.camera_control.specs.declared.control_end.ControlEnd.TheVariants as causes
use Rattle.camera_control.specs.Steps.{leave_steps}
use Rattle.camera_control.specs.Taking.{Made, Passes, Halts, Leaves}
use Rattle.camera_control.specs.Laws.{passes_submitted, halts_submitted}

abbrev pub command_of : RegisterWrite → PlainCommand
command_of write = write_of write.register write.value

-- the commands of the stop: the writes that the words give, then the stream's port and control, each with 0
abbrev pub stop_commands : List RegisterWrite → List PlainCommand
stop_commands stops = map command_of stops ++ write_of SCP0 0 ∷ write_of CCP 0 ∷ []

-- what cuts a stop short: the link failed, a command had no answer, or the heartbeat that was outstanding told that the
-- camera had let its controller go
abbrev pub Cuts : ControlEnd → Type 0
Cuts causes.LinkFault = ⊤
Cuts (causes.NoAnswer req) = ⊤
Cuts (causes.RefusedAt register status) = ⊥
Cuts causes.Controlled = ⊥
Cuts causes.ControlLost = ⊤

-- All commands of the stop were submitted, in order, each once, and nothing else.
pub record StopsAll (camera : Address) (stops : List RegisterWrite) (o n : ControlSide) : Type 0 where
  pub log : List Made
  pub passes : Passes camera o log n
  pub submitted : passes_submitted passes ≡ stop_commands stops

-- A front of them was, and this cut the stop short.
pub record StopsFront (camera : Address) (heartbeat : Bool) (stops : List RegisterWrite) (o n : ControlSide) (cause : ControlEnd) : Type 0 where
  pub done : ℕ
  pub halts : Halts camera (leave_steps o.client.asked heartbeat stops) done o n cause
  pub rest : List PlainCommand
  pub submitted : stop_commands stops ≡ halts_submitted halts ++ rest
  pub cut : Cuts cause

abbrev pub MakesStop : Address → Bool → List RegisterWrite → ControlSide → ControlSide → Result (Unit {0}) ControlEnd → Type 0
MakesStop camera heartbeat stops o n (Ok done) = StopsAll camera stops o n
MakesStop camera heartbeat stops o n (Err cause) = StopsAll camera stops o n ⊎ StopsFront camera heartbeat stops o n cause

-- Whoever lets a camera go submits the commands of the stop.
abbrev pub LeavingMakesTheStop : Type 0
LeavingMakesTheStop =
    (camera : Address) (heartbeat : Bool) (stops : List RegisterWrite) (o n : ControlSide) (result : Result (Unit {0}) ControlEnd)
    → Leaves camera heartbeat stops o n result → MakesStop camera heartbeat stops o n result
