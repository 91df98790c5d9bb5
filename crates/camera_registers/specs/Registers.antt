-- Registers that are read and written, one after the other (GigE Vision 2.0, GVCP: READREG, WRITEREG; bootstrap registers:
-- control channel privilege).
use Rattle.std.specs.Prelude.{◌≡◌, ◌≢◌, ℕ, Bool, true, false, if◌then◌else◌, List, [], ◌∷◌, ◌++◌, Option, Some, None, option_map, Result, Ok, Err}
use Rattle.std.specs.List.{list_any}
use Rattle.bootstrap_regs.specs.Addresses.{CCP}
use Rattle.gvcp_wire.specs.Messages.{PlainCommand}
use Rattle.client_machine.specs.Machine.{Client, IsIdle}
use Rattle.client_machine.specs.Setup.{write_of}
use Rattle.control_client.specs.Values.{value_of}
use Rattle.gev_links.specs.Links.{Address, Answer}
use Rattle.gev_links.specs.Told.{Appends, WritesPart}
use Rattle.gev_links.specs.Given.{ToldOfThree}
use Rattle.link_filters.specs.Strangers.{all_from}
use Rattle.link_filters.specs.Reads.{with_registers}
use Rattle.gev_control.specs.declared.acq_end.AcqEnd.{AcqEnd}
use Rattle.gev_control.specs.declared.acq_end.AcqEnd.TheVariants as how
use Rattle.gev_control.specs.CarriesOut.{ControlSide, CarriesOut}
use Rattle.camera_words.specs.declared.access.Access.{Access}
use Rattle.camera_words.specs.declared.access.Access.TheVariants.{Read, Write}
use Rattle.camera_control.specs.declared.control_end.ControlEnd.{ControlEnd}
use Rattle.camera_control.specs.declared.control_end.ControlEnd.TheVariants as ends
use Rattle.camera_control.specs.Steps.{read_of, gain_steps}
use Rattle.camera_control.specs.Taking.{Runs}
use Rattle.camera_description.specs.Describing.{control_peer, IsNewSide}
use Rattle.camera_registers.specs.declared.register_fault.RegisterFault.{RegisterFault}
use Rattle.camera_registers.specs.declared.register_fault.RegisterFault.TheVariants.{LinkFault, WriteFault, NoAnswer, RefusedAt, Controlled}
use Rattle.camera_registers.specs.Lines.{line_of}

-- ---- one access

-- READREG or WRITEREG of one register
abbrev pub access_command : Access → PlainCommand
access_command (Read register) = read_of register
access_command (Write register value) = write_of register value

abbrev pub register_in : Access → ℕ
register_in (Read register) = register
register_in (Write register value) = register

-- how an access whose command ended so ends all, if it does
abbrev pub end_by : Access → AcqEnd → Option RegisterFault
end_by access how.Stopped = None
end_by access how.Spent = Some LinkFault
end_by access how.Fault = Some LinkFault
end_by access (how.NoAnswer req) = Some (NoAnswer req)
end_by access (how.Refused status) = Some (RefusedAt (register_in access) status)

-- Its command was submitted where none was outstanding, and ended so.
pub record Carries (camera : Address) (access : Access) (o n : ControlSide) (end : AcqEnd) : Type 0 where
  pub idle : IsIdle o.client
  pub carried : CarriesOut camera (access_command access ∷ []) o n end

-- How accesses went: to their end, or not.
abbrev pub Outcome : Type 0
Outcome = Result (Unit {0}) RegisterFault

-- It was acknowledged with success, or it ended all.
abbrev pub MakesAccess : Address → Access → ControlSide → ControlSide → Outcome → Type 0
MakesAccess camera access o n (Ok done) = Carries camera access o n how.Stopped
MakesAccess camera access o n (Err fault) = (end : AcqEnd) × (Carries camera access o n end × (end_by access end ≡ Some fault))

-- An access that ended all: its command did, and nothing was written of it, or of its line a part was.
pub data EndsAll (camera : Address) (access : Access) (o n : ControlSide) (fault : RegisterFault) (written written_after : Option (List ℕ)) : Type 0 where
  failed : (end : AcqEnd) → Carries camera access o n end → end_by access end ≡ Some fault → written_after ≡ written
      → EndsAll camera access o n fault written written_after
  unwritten : Carries camera access o n how.Stopped → fault ≡ WriteFault → WritesPart written written_after (line_of access (value_of n.client.body))
      → EndsAll camera access o n fault written written_after

-- An access with its line, which is written before another command is sent.
abbrev pub MakesOne : Address → Access → ControlSide → ControlSide → Outcome → Option (List ℕ) → Option (List ℕ) → Type 0
MakesOne camera access o n (Ok done) written written_after =
    Carries camera access o n how.Stopped × Appends written written_after (line_of access (value_of n.client.body))
MakesOne camera access o n (Err fault) written written_after = EndsAll camera access o n fault written written_after

-- ---- one after the other

-- These were acknowledged with success, in order, each behind the one before it, and this is the text of their lines.
pub data HasMade (camera : Address) (o : ControlSide) : List Access → ControlSide → List ℕ → Type 0 where
  nothing_yet : HasMade camera o [] o []
  one_more : (done : List Access) (m n : ControlSide) (text : List ℕ) (access : Access) → HasMade camera o done m text
      → Carries camera access m n how.Stopped → HasMade camera o (done ++ access ∷ []) n (text ++ line_of access (value_of n.client.body))

-- The access behind these ended all.
pub record Halts (camera : Address) (accesses : List Access) (o n : ControlSide) (fault : RegisterFault) (written written_after : Option (List ℕ)) : Type 0 where
  pub done : List Access
  pub access : Access
  pub rest : List Access
  pub are : accesses ≡ done ++ access ∷ rest
  pub m : ControlSide
  pub text : List ℕ
  pub so : HasMade camera o done m text
  pub written_by : Option (List ℕ)
  pub wrote : Appends written written_by text
  pub ended : EndsAll camera access m n fault written_by written_after

abbrev pub MakesEach : Address → List Access → ControlSide → ControlSide → Outcome → Option (List ℕ) → Option (List ℕ) → Type 0
MakesEach camera accesses o n (Ok done) written written_after =
    (text : List ℕ) × (HasMade camera o accesses n text × Appends written written_after text)
MakesEach camera accesses o n (Err fault) written written_after = Halts camera accesses o n fault written written_after

-- ---- control

abbrev pub is_write : Access → Bool
is_write (Read register) = false
is_write (Write register value) = true

-- any of them is a write
abbrev pub writes_any : List Access → Bool
writes_any accesses = list_any is_write accesses

-- Why control wasn't gained. No heartbeat is sent, which alone tells that it was lost.
abbrev pub fault_by : ControlEnd → RegisterFault
fault_by ends.LinkFault = LinkFault
fault_by (ends.NoAnswer req) = NoAnswer req
fault_by (ends.RefusedAt register status) = RefusedAt register status
fault_by ends.Controlled = Controlled
fault_by ends.ControlLost = Controlled

abbrev pub is_link_fault : RegisterFault → Bool
is_link_fault LinkFault = true
is_link_fault WriteFault = false
is_link_fault (NoAnswer req) = false
is_link_fault (RefusedAt register status) = false
is_link_fault Controlled = false

abbrev pub is_fault : Outcome → Bool
is_fault (Ok done) = false
is_fault (Err fault) = is_link_fault fault

-- how all ended, by how the accesses did and how control was given away: a link that failed goes before the rest
abbrev pub behind : Outcome → Outcome → Outcome
behind (Ok done) gave = gave
behind (Err fault) gave = if is_fault gave then gave else Err fault

-- the access that gives control away
abbrev pub give_away : Access
give_away = Write CCP 0

-- Control is given away, whichever way the accesses went, where no call of the link failed.
pub data GivesAway (camera : Address) (made : Outcome) (o n : ControlSide) (end : Outcome) : Type 0 where
  failed : is_fault made ≡ true → n ≡ o → end ≡ made → GivesAway camera made o n end
  given : is_fault made ≡ false → (gave : Outcome) → MakesAccess camera give_away o n gave → end ≡ behind made gave → GivesAway camera made o n end

-- Without a write the accesses alone were made. Else control was gained before them and given away behind them, or it
-- wasn't gained, and none was made.
pub data Accesses (camera : Address) (accesses : List Access) (o n : ControlSide) (end : Outcome) (written written_after : Option (List ℕ)) : Type 0 where
  read_alone : writes_any accesses ≡ false → MakesEach camera accesses o n end written written_after
      → Accesses camera accesses o n end written written_after
  not_gained : writes_any accesses ≡ true → (cause : ControlEnd) → Runs camera gain_steps o n (Err cause) → end ≡ Err (fault_by cause)
      → written_after ≡ written → Accesses camera accesses o n end written written_after
  gained : writes_any accesses ≡ true → (m k : ControlSide) (made : Outcome) → Runs camera gain_steps o m (Ok tt)
      → MakesEach camera accesses m k made written written_after → GivesAway camera made k n end
      → Accesses camera accesses o n end written written_after

-- ---- over ports

-- what is heard: what comes from the camera's address, and of READREG one register at a time
abbrev pub heard_of : ℕ → Option (List Answer) → Option (List Answer)
heard_of address answers = option_map with_registers (option_map (all_from address) answers)

-- The ports bound a link towards the camera, over which the accesses were made, and got it back with the clock; or they
-- bound none.
pub data Registers {L C : Type 0} (heard : L → Option (List Answer)) (sent : L → Option (List (Address × List ℕ))) (told : C → Option (List ℕ))
    (address : ℕ) (accesses : List Access) (end : Outcome) (links links_after : Option (List L)) (clocks clocks_after : Option (List C))
    (written written_after : Option (List ℕ)) : Type 0 where
  unbound : end ≡ Err LinkFault → links_after ≡ links → clocks_after ≡ clocks → written_after ≡ written
      → Registers heard sent told address accesses end links links_after clocks clocks_after written written_after
  accessed : (link : L) (clock : C) → ToldOfThree links links_after link → ToldOfThree clocks clocks_after clock
      → (o : ControlSide) (client : Client) → IsNewSide o
      → Accesses (control_peer address) accesses o
      (record { heard = heard_of address (heard link); sent = sent link; told = told clock; client = client }) end written written_after
      → Registers heard sent told address accesses end links links_after clocks clocks_after written written_after
