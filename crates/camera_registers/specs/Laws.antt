-- What the accesses submit.
use Rattle.std.specs.Prelude.{◌≡◌, ℕ, List, [], ◌∷◌, ◌++◌, map, Some}
use Rattle.gvcp_wire.specs.Messages.{PlainCommand}
use Rattle.control_client.specs.Values.{value_of}
use Rattle.gev_links.specs.Links.{Address, Answer}
use Rattle.link_filters.specs.Reads.{with_registers}
use Rattle.gev_control.specs.declared.acq_end.AcqEnd.{AcqEnd}
use Rattle.gev_control.specs.declared.acq_end.AcqEnd.TheVariants as how
use Rattle.gev_control.specs.CarriesOut.{ControlSide}
use Rattle.gev_control.specs.ThroughLaws.{list_submitted}
use Rattle.camera_words.specs.declared.access.Access.{Access}
use Rattle.camera_words.specs.declared.access.Access.TheVariants.{Read}
use Rattle.camera_registers.specs.Registers.{access_command, Carries, HasMade, nothing_yet, one_more}

-- the command that was submitted by an access
abbrev pub access_submitted : {camera : Address} → {access : Access} → {o n : ControlSide} → {end : AcqEnd} → Carries camera access o n end → List PlainCommand
access_submitted {access = access} {o = o} carries = list_submitted (access_command access ∷ []) o carries.carried

-- the commands that were submitted while these were made
abbrev pub made_submitted : {camera : Address} → {o : ControlSide} → {done : List Access} → {n : ControlSide} → {text : List ℕ} → HasMade camera o done n text
    → List PlainCommand
made_submitted nothing_yet = []
made_submitted (one_more done m n text access so carries) = made_submitted so ++ access_submitted carries

-- Accesses that were made submitted their commands, in order, each once, and nothing else; so did one that ended all, its
-- one.
pub record AccessesInOrder : Type 0 where
  pub made : (camera : Address) (o : ControlSide) (done : List Access) (n : ControlSide) (text : List ℕ) (so : HasMade camera o done n text)
      → made_submitted so ≡ map access_command done
  pub one : (camera : Address) (access : Access) (o n : ControlSide) (end : AcqEnd) (carries : Carries camera access o n end)
      → access_submitted carries ≡ access_command access ∷ []

-- Over a link that tells its receives each read that was acknowledged told a value, and so it has its line.
abbrev pub ReadsAreTold : Type 0
ReadsAreTold =
    (camera : Address) (register : ℕ) (o n : ControlSide) (heard : List Answer)
    → Carries camera (Read register) o n how.Stopped → n.heard ≡ Some (with_registers heard) → (value : ℕ) × (value_of n.client.body ≡ Some value)
