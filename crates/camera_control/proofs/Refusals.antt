-- The refusals behind which the next step comes are no faults.
use Rattle.std.proofs.Common.{◌≡◌, ℕ, Bool, true, false, List, [], ◌∷◌, Option, Some, None, refl, sym, subst}
use Rattle.bootstrap_regs.specs.Addresses.{CCP}
use Rattle.gev_links.specs.Links.{Address}
use Rattle.gev_control.specs.declared.acq_end.AcqEnd.{AcqEnd}
use Rattle.gev_control.specs.declared.acq_end.AcqEnd.TheVariants as how
use Rattle.gev_control.specs.Sends.{Fails}
use Rattle.gev_control.specs.CarriesOut.{ControlSide}
use Rattle.camera_control.specs.declared.step.Step.{Step}
use Rattle.camera_control.specs.declared.step.Step.TheVariants as step
use Rattle.camera_control.specs.declared.control_end.ControlEnd.{ControlEnd}
use Rattle.camera_control.specs.declared.control_end.ControlEnd.TheVariants as ends
use Rattle.camera_control.specs.Steps.{passed_refusal, refusal_in}
use Rattle.camera_control.specs.Taking.{Made, earlier, refusal_among, Goes, end_by, FailsAs}
use Rattle.camera_control.proofs.OneStep.{IsPlain, none_plain, some_plain}

passed_plain : (s : Step) (status : ℕ) → IsPlain (passed_refusal s status)
passed_plain step.Ask status = none_plain
passed_plain (step.Read register) status = none_plain
passed_plain (step.Write register value) status = none_plain
passed_plain (step.Stop register value) status = some_plain (ends.RefusedAt register status) refl
passed_plain (step.Await false) status = none_plain
passed_plain (step.Await true) status = some_plain (ends.RefusedAt CCP status) refl

refusal_plain : (s : Step) (end : AcqEnd) → IsPlain (refusal_in s end)
refusal_plain s how.Stopped = none_plain
refusal_plain s how.Spent = none_plain
refusal_plain s how.Fault = none_plain
refusal_plain s (how.NoAnswer req) = none_plain
refusal_plain s (how.Refused status) = passed_plain s status

earlier_plain : (p q : Option ControlEnd) → IsPlain p → IsPlain q → IsPlain (earlier p q)
earlier_plain None q a b = b
earlier_plain (Some e) q a b = a

among_plain : (log : List Made) → IsPlain (refusal_among log)
among_plain [] = none_plain
among_plain (m ∷ ms) = earlier_plain (refusal_in m.step m.end) (refusal_among ms) (refusal_plain m.step m.end) (among_plain ms)

goes_plain : (camera : Address) (steps : List Step) (r : List (Option ℕ)) (p : Option ControlEnd) (o n : ControlSide) → Goes camera steps r p o n → IsPlain p
goes_plain camera steps r p o n goes = subst IsPlain goes.first (among_plain goes.log)

plain_fails : (p : Option ControlEnd) (x y : ℕ) → IsPlain p → y ≡ x → FailsAs (end_by p) x y
plain_fails None x y plain same = same
plain_fails (Some cause) x y plain same = subst (λ (b : Bool). Fails false b x y) (sym (plain cause refl)) same

pub leave_fails : (camera later : Address) (xs ys : List Step) (p q : Option ControlEnd) (o m k n : ControlSide) (x y : ℕ) → Goes camera xs [] p o m
    → Goes later ys [] q k n → y ≡ x → FailsAs (end_by (earlier p q)) x y
leave_fails camera later xs ys p q o m k n x y first second same =
    plain_fails (earlier p q) x y (earlier_plain p q (goes_plain camera xs [] p o m first) (goes_plain later ys [] q k n second)) same
