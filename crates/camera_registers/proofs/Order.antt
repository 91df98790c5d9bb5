-- What accesses submit.
use Rattle.std.proofs.Common.{◌≡◌, ℕ, List, [], ◌∷◌, ◌++◌, map, refl, sym, ap, ◌∙◌}
use Rattle.gvcp_wire.specs.Messages.{PlainCommand}
use Rattle.gev_links.specs.Links.{Address}
use Rattle.gev_control.specs.declared.acq_end.AcqEnd.{AcqEnd}
use Rattle.gev_control.specs.CarriesOut.{ControlSide}
use Rattle.gev_control.specs.ThroughLaws.{list_submitted}
use Rattle.camera_words.specs.declared.access.Access.{Access}
use Rattle.camera_control.proofs.Fronts.{one_submitted}
use Rattle.camera_registers.specs.Registers.{access_command, Carries, HasMade, nothing_yet, one_more}
use Rattle.camera_registers.specs.Laws.{access_submitted, made_submitted, AccessesInOrder}

map_more : (xs : List Access) (x : Access) → map access_command xs ++ access_command x ∷ [] ≡ map access_command (xs ++ x ∷ [])
map_more [] x = refl
map_more (y ∷ ys) x = ap (λ (l : List PlainCommand). access_command y ∷ l) (map_more ys x)

one : (camera : Address) (access : Access) (o n : ControlSide) (end : AcqEnd) (carries : Carries camera access o n end)
    → access_submitted carries ≡ access_command access ∷ []
one camera access o n end carries = one_submitted camera (access_command access) o n end carries.carried carries.idle

all : (camera : Address) (o : ControlSide) (done : List Access) (n : ControlSide) (text : List ℕ) (so : HasMade camera o done n text)
    → made_submitted so ≡ map access_command done
all camera o _ _ _ nothing_yet = refl
all camera o _ _ _ (one_more done m n text access so carries) =
    ap (λ (l : List PlainCommand). l ++ list_submitted (access_command access ∷ []) m carries.carried) (all camera o done m text so)
    ∙ (ap (λ (l : List PlainCommand). map access_command done ++ l) (one_submitted camera (access_command access) m n _ carries.carried carries.idle)
    ∙ map_more done access)

pub accesses_in_order : AccessesInOrder
accesses_in_order = record { made = all; one = one }
