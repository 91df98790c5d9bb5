-- Steps that were made, one after the other, and how a camera was taken and let go by them.
use Rattle.std.specs.Prelude.{◌≡◌, ◌⊎◌, ℕ, nat_le, Bool, true, false, List, [], ◌∷◌, ◌++◌, length, IsSome, Option, Some, None, Result, Ok, Err}
use Rattle.gvcp_wire.specs.Messages.{PlainCommand}
use Rattle.client_machine.specs.Machine.{Client, IsIdle}
use Rattle.control_client.specs.Values.{value_of}
use Rattle.gev_links.specs.Links.{Address}
use Rattle.gev_control.specs.declared.acq_end.AcqEnd.{AcqEnd}
use Rattle.gev_control.specs.CarriesOut.{ControlSide, CarriesOut}
use Rattle.gev_control.specs.Sends.{Fails}
use Rattle.camera_control.specs.declared.step.Step.{Step}
use Rattle.camera_control.specs.declared.step.Step.TheVariants as step
use Rattle.camera_control.specs.declared.control_end.ControlEnd.{ControlEnd}
use Rattle.camera_control.specs.declared.control_end.ControlEnd.TheVariants as ends
use Rattle.camera_control.specs.declared.register_write.RegisterWrite.{RegisterWrite}
use Rattle.camera_control.specs.declared.stream_wish.StreamWish.{StreamWish}
use Rattle.camera_control.specs.declared.taken.Taken.{Taken}
use Rattle.camera_control.specs.declared.taken.NotTaken.{NotTaken}
use Rattle.camera_control.specs.Steps.{commands_in, cause_of, refusal_in, readings_of, take_steps, leave_steps, allows_resends, size_held}

-- ---- one step

-- A command is submitted to a client that has none outstanding, and one that is outstanding is waited for.
abbrev pub IsReady : Step → Client → Type 0
IsReady step.Ask s = IsIdle s
IsReady (step.Read register) s = IsIdle s
IsReady (step.Write register value) s = IsIdle s
IsReady (step.Stop register value) s = IsIdle s
IsReady (step.Await heartbeat) s = IsSome s.asked

-- A step was made, and its command ended so.
pub record Makes (camera : Address) (s : Step) (o n : ControlSide) (end : AcqEnd) : Type 0 where
  pub ready : IsReady s o.client
  pub carried : CarriesOut camera (commands_in s) o n end

-- the next step came after it, or it ended all
abbrev pub MakesStep : Address → Step → ControlSide → ControlSide → Result AcqEnd ControlEnd → Type 0
MakesStep camera s o n (Ok end) = Makes camera s o n end × (cause_of s end (value_of n.client.body) ≡ None)
MakesStep camera s o n (Err cause) = (end : AcqEnd) × (Makes camera s o n end × (cause_of s end (value_of n.client.body) ≡ Some cause))

-- ---- steps one after the other

-- a step that was made: how its command ended, and the value of the last acknowledge
pub record Made : Type 0 where
  pub step : Step
  pub end : AcqEnd
  pub told : Option ℕ

abbrev pub made_so : Step → AcqEnd → ControlSide → Made
made_so s end n = record { step = s; end = end; told = value_of n.client.body }

-- These steps were made, each behind the one before it, and none of them ended all.
pub data Passes (camera : Address) (o : ControlSide) : List Made → ControlSide → Type 0 where
  begins : Passes camera o [] o
  goes_on : (log : List Made) (m n : ControlSide) (s : Step) (end : AcqEnd) → Passes camera o log m → Makes camera s m n end
      → cause_of s end (value_of n.client.body) ≡ None → Passes camera o (log ++ made_so s end n ∷ []) n

-- which steps they are
abbrev pub steps_in : List Made → List Step
steps_in [] = []
steps_in (m ∷ ms) = m.step ∷ steps_in ms

-- what was read
abbrev pub readings_in : List Made → List (Option ℕ)
readings_in [] = []
readings_in (m ∷ ms) = readings_of m.step m.end m.told ++ readings_in ms

-- the earlier of two refusals
abbrev pub earlier : Option ControlEnd → Option ControlEnd → Option ControlEnd
earlier None later = later
earlier (Some first) later = Some first

-- the first refusal behind which the next step came
abbrev pub refusal_among : List Made → Option ControlEnd
refusal_among [] = None
refusal_among (m ∷ ms) = earlier (refusal_in m.step m.end) (refusal_among ms)

-- All these steps were made. This was read, and this was the first refusal.
pub record Goes (camera : Address) (steps : List Step) (readings : List (Option ℕ)) (refused : Option ControlEnd) (o n : ControlSide) : Type 0 where
  pub log : List Made
  pub passes : Passes camera o log n
  pub are : steps_in log ≡ steps
  pub read : readings_in log ≡ readings
  pub first : refusal_among log ≡ refused

-- So many of these steps were made, and the one behind them ended all.
pub record Halts (camera : Address) (steps : List Step) (done : ℕ) (o n : ControlSide) (cause : ControlEnd) : Type 0 where
  pub log : List Made
  pub last : Step
  pub rest : List Step
  pub are : steps ≡ steps_in log ++ last ∷ rest
  pub count : length log ≡ done
  pub m : ControlSide
  pub passes : Passes camera o log m
  pub end : AcqEnd
  pub makes : Makes camera last m n end
  pub ended : cause_of last end (value_of n.client.body) ≡ Some cause

-- how all ended, by the first refusal
abbrev pub end_by : Option ControlEnd → Result (Unit {0}) ControlEnd
end_by None = Ok tt
end_by (Some refusal) = Err refusal

-- ---- a camera

-- What is known of the stream, by the two registers that were read: the camera's capability and the packet size.
pub record Tells (wish : StreamWish) (readings : List (Option ℕ)) (taken : Taken) : Type 0 where
  pub capability : Option ℕ
  pub size : Option ℕ
  pub read : readings ≡ capability ∷ size ∷ []
  pub resends : taken.resends ≡ allows_resends capability
  pub packet_size : taken.packet_size ≡ size_held wish.packet_size size

-- The camera was taken: all steps were made, and this is known of its stream. Or one of them ended all. The camera is
-- held where the first two were made.
abbrev pub Takes : Address → StreamWish → List RegisterWrite → List RegisterWrite → ControlSide → ControlSide → Result Taken NotTaken → Type 0
Takes camera wish sets starts o n (Ok taken) =
    (readings : List (Option ℕ)) × (Goes camera (take_steps wish sets starts) readings None o n × Tells wish readings taken)
Takes camera wish sets starts o n (Err fault) =
    (done : ℕ) × (Halts camera (take_steps wish sets starts) done o n fault.end × (fault.held ≡ nat_le 2 done))

-- The camera was let go: all steps were made, and none was refused, or this was the first refusal. Or one of them ended
-- all.
abbrev pub Leaves : Address → Bool → List RegisterWrite → ControlSide → ControlSide → Result (Unit {0}) ControlEnd → Type 0
Leaves camera heartbeat stops o n (Ok done) = Goes camera (leave_steps o.client.asked heartbeat stops) [] None o n
Leaves camera heartbeat stops o n (Err cause) =
    Goes camera (leave_steps o.client.asked heartbeat stops) [] (Some cause) o n
    ⊎ ((done : ℕ) × Halts camera (leave_steps o.client.asked heartbeat stops) done o n cause)

-- All these steps were made, and gave so much, or one of them ended all.
abbrev pub Runs : Address → List Step → ControlSide → ControlSide → Result (Unit {0}) ControlEnd → Type 0
Runs camera steps o n (Ok done) = Goes camera steps [] None o n
Runs camera steps o n (Err cause) = (done : ℕ) × Halts camera steps done o n cause

-- the same of steps of which one reads
abbrev pub RunsAndReads : Address → List Step → ControlSide → ControlSide → Result (Option ℕ) ControlEnd → Type 0
RunsAndReads camera steps o n (Ok reading) = Goes camera steps (reading ∷ []) None o n
RunsAndReads camera steps o n (Err cause) = (done : ℕ) × Halts camera steps done o n cause

-- the same of steps behind a refusal of which the next one comes
abbrev pub RunsOn : Address → List Step → ControlSide → ControlSide → Result (Option ControlEnd) ControlEnd → Type 0
RunsOn camera steps o n (Ok refused) = Goes camera steps [] refused o n
RunsOn camera steps o n (Err cause) = (done : ℕ) × Halts camera steps done o n cause

-- the same of the steps behind control
abbrev pub Opens : Address → List Step → StreamWish → ControlSide → ControlSide → Result Taken ControlEnd → Type 0
Opens camera steps wish o n (Ok taken) = (readings : List (Option ℕ)) × (Goes camera steps readings None o n × Tells wish readings taken)
Opens camera steps wish o n (Err cause) = (done : ℕ) × Halts camera steps done o n cause

-- ---- faults

abbrev pub is_fault : ControlEnd → Bool
is_fault ends.LinkFault = true
is_fault (ends.NoAnswer req) = false
is_fault (ends.RefusedAt register status) = false
is_fault ends.Controlled = false
is_fault ends.ControlLost = false

-- the count of faults of the link, by how a call ended
abbrev pub FailsAs : {A : Type 0} → Result A ControlEnd → ℕ → ℕ → Type 0
FailsAs (Ok given) old new = new ≡ old
FailsAs (Err end) old new = Fails false (is_fault end) old new

abbrev pub TakeFails : Result Taken NotTaken → ℕ → ℕ → Type 0
TakeFails (Ok taken) old new = new ≡ old
TakeFails (Err fault) old new = Fails false (is_fault fault.end) old new
