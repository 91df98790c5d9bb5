-- The steps by which a camera is taken and let go, and how each of them ends (GigE Vision 2.0, GVCP: READREG, WRITEREG;
-- bootstrap registers: control channel privilege, GVCP capability, stream channel).
use Rattle.std.specs.Prelude.{◌≡◌, ℕ, ◌+◌, ◌^◌, ◌%◌, ◌==◌, ◌&&◌, nat_le, nat_lt, not, Bool, true, false, if◌then◌else◌, List, [], ◌∷◌, ◌++◌, map, Option, Some, None}
use Rattle.byteorder.specs.Endian.{big_bytes}
use Rattle.bootstrap_regs.specs.Addresses.{CCP, SCP0, SCPS0, SCDA0}
use Rattle.gvcp_wire.specs.Messages.{PlainCommand, read_reg}
use Rattle.client_machine.specs.Machine.{Asked}
use Rattle.client_machine.specs.Setup.{write_of, CONTROL_ACCESS}
use Rattle.gev_control.specs.declared.acq_end.AcqEnd.{AcqEnd}
use Rattle.gev_control.specs.declared.acq_end.AcqEnd.TheVariants as how
use Rattle.camera_control.specs.declared.step.Step.{Step}
use Rattle.camera_control.specs.declared.step.Step.TheVariants as step
use Rattle.camera_control.specs.declared.control_end.ControlEnd.{ControlEnd}
use Rattle.camera_control.specs.declared.control_end.ControlEnd.TheVariants as ends
use Rattle.camera_control.specs.declared.register_write.RegisterWrite.{RegisterWrite}
use Rattle.camera_control.specs.declared.stream_wish.StreamWish.{StreamWish}

-- the register that tells what a camera can do on its control channel
abbrev pub CAPABILITY : ℕ
CAPABILITY = 0x0934

-- the status of a command that only the controlling application may send
abbrev pub ACCESS_DENIED : ℕ
ACCESS_DENIED = 0x8006

-- READREG of one register
abbrev pub read_of : ℕ → PlainCommand
read_of register = read_reg (big_bytes 4 register)

-- what a step submits
abbrev pub commands_in : Step → List PlainCommand
commands_in step.Ask = read_of CCP ∷ []
commands_in (step.Read register) = read_of register ∷ []
commands_in (step.Write register value) = write_of register value ∷ []
commands_in (step.Stop register value) = write_of register value ∷ []
commands_in (step.Await heartbeat) = []

-- ---- how a step ends

-- an application controls the camera: one of the two lowest bits of the control channel privilege is set
abbrev pub is_held : ℕ → Bool
is_held privilege = not (privilege % 4 == 0)

-- another application does, by what was read
abbrev pub held_cause : Option ℕ → Option ControlEnd
held_cause None = None
held_cause (Some privilege) = if is_held privilege then Some ends.Controlled else None

-- none does any more, by what a heartbeat read
abbrev pub lost_cause : Bool → Option ℕ → Option ControlEnd
lost_cause false told = None
lost_cause true None = None
lost_cause true (Some privilege) = if is_held privilege then None else Some ends.ControlLost

-- how a step that was acknowledged with success ends all, if it does
abbrev pub told_cause : Step → Option ℕ → Option ControlEnd
told_cause step.Ask told = held_cause told
told_cause (step.Read register) told = None
told_cause (step.Write register value) told = None
told_cause (step.Stop register value) told = None
told_cause (step.Await heartbeat) told = lost_cause heartbeat told

-- how one that was refused does
abbrev pub refused_cause : Step → ℕ → Option ControlEnd
refused_cause step.Ask status = if status == ACCESS_DENIED then Some ends.Controlled else Some (ends.RefusedAt CCP status)
refused_cause (step.Read register) status = None
refused_cause (step.Write register value) status = Some (ends.RefusedAt register status)
refused_cause (step.Stop register value) status = None
refused_cause (step.Await heartbeat) status = None

-- how a step that ended so, and told this, ends all, if it does
abbrev pub cause_of : Step → AcqEnd → Option ℕ → Option ControlEnd
cause_of step how.Stopped told = told_cause step told
cause_of step how.Spent told = Some ends.LinkFault
cause_of step how.Fault told = Some ends.LinkFault
cause_of step (how.NoAnswer req) told = Some (ends.NoAnswer req)
cause_of step (how.Refused status) told = refused_cause step status

-- the refusal that is told although the next step came
abbrev pub passed_refusal : Step → ℕ → Option ControlEnd
passed_refusal step.Ask status = None
passed_refusal (step.Read register) status = None
passed_refusal (step.Write register value) status = None
passed_refusal (step.Stop register value) status = Some (ends.RefusedAt register status)
passed_refusal (step.Await false) status = None
passed_refusal (step.Await true) status = Some (ends.RefusedAt CCP status)

abbrev pub refusal_in : Step → AcqEnd → Option ControlEnd
refusal_in step how.Stopped = None
refusal_in step how.Spent = None
refusal_in step how.Fault = None
refusal_in step (how.NoAnswer req) = None
refusal_in step (how.Refused status) = passed_refusal step status

-- what was read, where it was acknowledged
abbrev pub value_read : AcqEnd → Option ℕ → Option ℕ
value_read how.Stopped told = told
value_read how.Spent told = None
value_read how.Fault told = None
value_read (how.NoAnswer req) told = None
value_read (how.Refused status) told = None

-- the same of the steps that read a register for its value
abbrev pub readings_of : Step → AcqEnd → Option ℕ → List (Option ℕ)
readings_of step.Ask end told = []
readings_of (step.Read register) end told = value_read end told ∷ []
readings_of (step.Write register value) end told = []
readings_of (step.Stop register value) end told = []
readings_of (step.Await heartbeat) end told = []

-- ---- which steps there are

abbrev pub write_step : RegisterWrite → Step
write_step write = step.Write write.register write.value

abbrev pub stop_step : RegisterWrite → Step
stop_step write = step.Stop write.register write.value

-- control is asked for where no other application has it
abbrev pub gain_steps : List Step
gain_steps = step.Ask ∷ step.Write CCP CONTROL_ACCESS ∷ []

-- the packet size is agreed on, the stream is opened by its address and port, and the camera is started
abbrev pub agree_steps : StreamWish → List RegisterWrite → List Step
agree_steps wish starts =
    step.Write SCPS0 wish.packet_size ∷ step.Read SCPS0 ∷ step.Write SCDA0 wish.receiver.address ∷ step.Write SCP0 wish.receiver.port
    ∷ map write_step starts

-- what is done with control: it's read whether packets may be asked for again, the writes before the stream opens are
-- made, and the stream is opened
abbrev pub open_steps : StreamWish → List RegisterWrite → List RegisterWrite → List Step
open_steps wish sets starts = step.Read CAPABILITY ∷ (map write_step sets ++ agree_steps wish starts)

-- the steps by which a camera is taken
abbrev pub take_steps : StreamWish → List RegisterWrite → List RegisterWrite → List Step
take_steps wish sets starts = gain_steps ++ open_steps wish sets starts

-- the command that is outstanding is waited for
abbrev pub await_steps : Option Asked → Bool → List Step
await_steps None heartbeat = []
await_steps (Some asked) heartbeat = step.Await heartbeat ∷ []

-- the steps by which a camera is let go: the writes that stop it, the stream's port, control
abbrev pub leave_steps : Option Asked → Bool → List RegisterWrite → List Step
leave_steps asked heartbeat stops =
    await_steps asked heartbeat ++ (map stop_step stops ++ step.Stop SCP0 0 ∷ step.Stop CCP 0 ∷ [])

-- ---- what was read

-- packets may be asked for again
abbrev pub allows_resends : Option ℕ → Bool
allows_resends None = false
allows_resends (Some capability) = nat_le 4 (capability % 8)

-- the size of the stream's packets: what the camera holds where it's one that may be, else what was asked for
abbrev pub size_held : ℕ → Option ℕ → ℕ
size_held wanted None = wanted
size_held wanted (Some register) =
    let size = register % (2 ^ 16) in if nat_le 576 size && nat_le size 9000 then size else wanted
