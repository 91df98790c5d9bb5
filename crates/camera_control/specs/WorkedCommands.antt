-- How a camera is taken and let go, byte by byte, and what is made of some of its answers (GigE Vision 2.0, GVCP: READREG,
-- WRITEREG; bootstrap registers: control channel privilege, GVCP capability, stream channel).
use Rattle.std.specs.Prelude.{◌≡◌, ℕ, ◌+◌, true, false, List, [], ◌∷◌, ◌++◌, Some, None}
use Rattle.gvcp_wire.specs.Messages.{PlainCommand}
use Rattle.client_machine.specs.Events.{new_request}
use Rattle.gev_control.specs.declared.acq_end.AcqEnd.TheVariants as how
use Rattle.camera_control.specs.declared.step.Step.{Step}
use Rattle.camera_control.specs.declared.step.Step.TheVariants as step
use Rattle.camera_control.specs.declared.control_end.ControlEnd.TheVariants as ends
use Rattle.camera_control.specs.declared.register_write.RegisterWrite.{RegisterWrite}
use Rattle.camera_control.specs.declared.stream_wish.StreamWish.{StreamWish}
use Rattle.camera_control.specs.Steps.{cause_of, refusal_in, take_steps, leave_steps, allows_resends, size_held}
use Rattle.camera_control.specs.Laws.{commands_of}

-- the commands as a client sends them that numbers them from here on
abbrev pub numbered : ℕ → List PlainCommand → List (List ℕ)
numbered n [] = []
numbered n (c ∷ cs) = (new_request n c).bytes ∷ numbered (n + 1) cs

abbrev pub sent_by : List Step → List (List ℕ)
sent_by steps = numbered 1 (commands_of steps)

abbrev pub writes : ℕ → ℕ → RegisterWrite
writes register value = record { register = register; value = value }

-- a stream of packets of 576 bytes to a port of the machine itself
abbrev pub small_packets : StreamWish
small_packets = record { receiver = record { address = 0x7f000001; port = 49152 }; packet_size = 576 }

-- One register is written to start the camera, and to stop it.
abbrev pub run_steps : List Step
run_steps = take_steps small_packets [] (writes 0x124 1 ∷ []) ++ leave_steps None false (writes 0x124 0 ∷ [])

-- Control is read and taken, the capability is read, the packet size is written and read, the stream's address and then its
-- port are written, the camera is started; it is stopped, its port is closed, and control is given back.
abbrev pub run_commands : List (List ℕ)
run_commands =
    (0x42 ∷ 0x01 ∷ 0x00 ∷ 0x80 ∷ 0x00 ∷ 0x04 ∷ 0x00 ∷ 0x01
    ∷ 0x00 ∷ 0x00 ∷ 0x0a ∷ 0x00 ∷ [])
    ∷ (0x42 ∷ 0x01 ∷ 0x00 ∷ 0x82 ∷ 0x00 ∷ 0x08 ∷ 0x00 ∷ 0x02
    ∷ 0x00 ∷ 0x00 ∷ 0x0a ∷ 0x00 ∷ 0x00 ∷ 0x00 ∷ 0x00 ∷ 0x02 ∷ [])
    ∷ (0x42 ∷ 0x01 ∷ 0x00 ∷ 0x80 ∷ 0x00 ∷ 0x04 ∷ 0x00 ∷ 0x03
    ∷ 0x00 ∷ 0x00 ∷ 0x09 ∷ 0x34 ∷ [])
    ∷ (0x42 ∷ 0x01 ∷ 0x00 ∷ 0x82 ∷ 0x00 ∷ 0x08 ∷ 0x00 ∷ 0x04
    ∷ 0x00 ∷ 0x00 ∷ 0x0d ∷ 0x04 ∷ 0x00 ∷ 0x00 ∷ 0x02 ∷ 0x40 ∷ [])
    ∷ (0x42 ∷ 0x01 ∷ 0x00 ∷ 0x80 ∷ 0x00 ∷ 0x04 ∷ 0x00 ∷ 0x05
    ∷ 0x00 ∷ 0x00 ∷ 0x0d ∷ 0x04 ∷ [])
    ∷ (0x42 ∷ 0x01 ∷ 0x00 ∷ 0x82 ∷ 0x00 ∷ 0x08 ∷ 0x00 ∷ 0x06
    ∷ 0x00 ∷ 0x00 ∷ 0x0d ∷ 0x18 ∷ 0x7f ∷ 0x00 ∷ 0x00 ∷ 0x01 ∷ [])
    ∷ (0x42 ∷ 0x01 ∷ 0x00 ∷ 0x82 ∷ 0x00 ∷ 0x08 ∷ 0x00 ∷ 0x07
    ∷ 0x00 ∷ 0x00 ∷ 0x0d ∷ 0x00 ∷ 0x00 ∷ 0x00 ∷ 0xc0 ∷ 0x00 ∷ [])
    ∷ (0x42 ∷ 0x01 ∷ 0x00 ∷ 0x82 ∷ 0x00 ∷ 0x08 ∷ 0x00 ∷ 0x08
    ∷ 0x00 ∷ 0x00 ∷ 0x01 ∷ 0x24 ∷ 0x00 ∷ 0x00 ∷ 0x00 ∷ 0x01 ∷ [])
    ∷ (0x42 ∷ 0x01 ∷ 0x00 ∷ 0x82 ∷ 0x00 ∷ 0x08 ∷ 0x00 ∷ 0x09
    ∷ 0x00 ∷ 0x00 ∷ 0x01 ∷ 0x24 ∷ 0x00 ∷ 0x00 ∷ 0x00 ∷ 0x00 ∷ [])
    ∷ (0x42 ∷ 0x01 ∷ 0x00 ∷ 0x82 ∷ 0x00 ∷ 0x08 ∷ 0x00 ∷ 0x0a
    ∷ 0x00 ∷ 0x00 ∷ 0x0d ∷ 0x00 ∷ 0x00 ∷ 0x00 ∷ 0x00 ∷ 0x00 ∷ [])
    ∷ (0x42 ∷ 0x01 ∷ 0x00 ∷ 0x82 ∷ 0x00 ∷ 0x08 ∷ 0x00 ∷ 0x0b
    ∷ 0x00 ∷ 0x00 ∷ 0x0a ∷ 0x00 ∷ 0x00 ∷ 0x00 ∷ 0x00 ∷ 0x00 ∷ [])
    ∷ []

-- a stream of packets of 1,500 bytes to another machine, for which two registers are written before it opens
abbrev pub set_steps : List Step
set_steps =
    take_steps (record { receiver = record { address = 0xc0a80714; port = 50001 }; packet_size = 1500 })
    (writes 0x10300 0x12345678 ∷ writes 0x0d08 9 ∷ []) []

abbrev pub set_commands : List (List ℕ)
set_commands =
    (0x42 ∷ 0x01 ∷ 0x00 ∷ 0x80 ∷ 0x00 ∷ 0x04 ∷ 0x00 ∷ 0x01
    ∷ 0x00 ∷ 0x00 ∷ 0x0a ∷ 0x00 ∷ [])
    ∷ (0x42 ∷ 0x01 ∷ 0x00 ∷ 0x82 ∷ 0x00 ∷ 0x08 ∷ 0x00 ∷ 0x02
    ∷ 0x00 ∷ 0x00 ∷ 0x0a ∷ 0x00 ∷ 0x00 ∷ 0x00 ∷ 0x00 ∷ 0x02 ∷ [])
    ∷ (0x42 ∷ 0x01 ∷ 0x00 ∷ 0x80 ∷ 0x00 ∷ 0x04 ∷ 0x00 ∷ 0x03
    ∷ 0x00 ∷ 0x00 ∷ 0x09 ∷ 0x34 ∷ [])
    ∷ (0x42 ∷ 0x01 ∷ 0x00 ∷ 0x82 ∷ 0x00 ∷ 0x08 ∷ 0x00 ∷ 0x04
    ∷ 0x00 ∷ 0x01 ∷ 0x03 ∷ 0x00 ∷ 0x12 ∷ 0x34 ∷ 0x56 ∷ 0x78 ∷ [])
    ∷ (0x42 ∷ 0x01 ∷ 0x00 ∷ 0x82 ∷ 0x00 ∷ 0x08 ∷ 0x00 ∷ 0x05
    ∷ 0x00 ∷ 0x00 ∷ 0x0d ∷ 0x08 ∷ 0x00 ∷ 0x00 ∷ 0x00 ∷ 0x09 ∷ [])
    ∷ (0x42 ∷ 0x01 ∷ 0x00 ∷ 0x82 ∷ 0x00 ∷ 0x08 ∷ 0x00 ∷ 0x06
    ∷ 0x00 ∷ 0x00 ∷ 0x0d ∷ 0x04 ∷ 0x00 ∷ 0x00 ∷ 0x05 ∷ 0xdc ∷ [])
    ∷ (0x42 ∷ 0x01 ∷ 0x00 ∷ 0x80 ∷ 0x00 ∷ 0x04 ∷ 0x00 ∷ 0x07
    ∷ 0x00 ∷ 0x00 ∷ 0x0d ∷ 0x04 ∷ [])
    ∷ (0x42 ∷ 0x01 ∷ 0x00 ∷ 0x82 ∷ 0x00 ∷ 0x08 ∷ 0x00 ∷ 0x08
    ∷ 0x00 ∷ 0x00 ∷ 0x0d ∷ 0x18 ∷ 0xc0 ∷ 0xa8 ∷ 0x07 ∷ 0x14 ∷ [])
    ∷ (0x42 ∷ 0x01 ∷ 0x00 ∷ 0x82 ∷ 0x00 ∷ 0x08 ∷ 0x00 ∷ 0x09
    ∷ 0x00 ∷ 0x00 ∷ 0x0d ∷ 0x00 ∷ 0x00 ∷ 0x00 ∷ 0xc3 ∷ 0x51 ∷ [])
    ∷ []

pub record CommandsAreWorked : Type 0 where
  pub run : sent_by run_steps ≡ run_commands
  pub set : sent_by set_steps ≡ set_commands

pub record AnswersAreWorked : Type 0 where
  -- the camera's packet size, of which the highest bits are flags, where it is from 576 to 9,000 bytes
  pub its_size : size_held 1500 (Some 0x40000240) ≡ 576
  pub largest : size_held 1500 (Some 9000) ≡ 9000
  pub too_small : size_held 1500 (Some 575) ≡ 1500
  pub too_large : size_held 1500 (Some 9001) ≡ 1500
  pub not_told : size_held 1500 None ≡ 1500
  -- the bit of PACKETRESEND among the capability's
  pub resends : allows_resends (Some 7) ≡ true
  pub no_resends : allows_resends (Some 0xfffffff3) ≡ false
  pub unknown : allows_resends None ≡ false
  -- control is free, or another application has it, by what is read or since it can't be read
  pub free : cause_of step.Ask how.Stopped (Some 0) ≡ None
  pub exclusive : cause_of step.Ask how.Stopped (Some 1) ≡ Some ends.Controlled
  pub controlled : cause_of step.Ask how.Stopped (Some 2) ≡ Some ends.Controlled
  pub unreadable : cause_of step.Ask (how.Refused 0x8006) None ≡ Some ends.Controlled
  pub busy : cause_of step.Ask (how.Refused 0x8007) None ≡ Some (ends.RefusedAt 0x0a00 0x8007)
  -- a refused write ends the taking; a refused reading and a refused write of the letting go don't, and the write is told
  pub refused : cause_of (step.Write 0x124 1) (how.Refused 0x8006) None ≡ Some (ends.RefusedAt 0x124 0x8006)
  pub unread : cause_of (step.Read 0x0934) (how.Refused 0x8001) None ≡ None
  pub passed : cause_of (step.Stop 0x124 0) (how.Refused 0x8006) None ≡ None
  pub told : refusal_in (step.Stop 0x124 0) (how.Refused 0x8006) ≡ Some (ends.RefusedAt 0x124 0x8006)
  pub silent : cause_of (step.Stop 0x124 0) (how.NoAnswer 9) None ≡ Some (ends.NoAnswer 9)
  -- a heartbeat tells that control was lost
  pub lost : cause_of (step.Await true) how.Stopped (Some 0) ≡ Some ends.ControlLost
  pub kept : cause_of (step.Await true) how.Stopped (Some 2) ≡ None
