-- What the bytes of a capture decide, and what an answer stands for.
use Rattle.std.proofs.Common.{◌≡◌, ℕ, List, true, false, Option, Some, None, refl, subst, sym}
use Rattle.script_runs.specs.Verdicts.{IfTold}
use Rattle.capture_runs.specs.declared.ending.Ending.{Ending}
use Rattle.capture_runs.specs.declared.ending.Ending.TheVariants as endings
use Rattle.capture_runs.specs.Ends.{IsWhole, AnswersContent}
use Rattle.capture_streams.specs.Texts.{always}
use Rattle.capture_script.specs.Script.{has_datagram}
use Rattle.gev_status.specs.declared.status.Status.{Status}
use Rattle.gev_top.specs.Capturing.{status_from, script_status, IfCaptured, IfScripted, IsCaptureRead, IsScriptRead, AnswersCapture, AnswersScript}

by : (P : Ending → Type 0) (ending : Ending) → P ending → IfCaptured P (status_from ending)
by P (endings.Done told) h = (told, h)
by P (endings.BadCapture number kind) h = h
by P endings.ReadFault h = h
by P endings.WriteFault h = h
by P endings.NoMemory h = h

script_by : (port : ℕ) (P : Ending → Type 0) (ending : Ending) → P ending → IfScripted port P (script_status port ending)
script_by port P (endings.Done true) h = h
script_by port P (endings.Done false) h = (refl, h)
script_by port P (endings.BadCapture number kind) h = h
script_by port P endings.ReadFault h = h
script_by port P endings.WriteFault h = h
script_by port P endings.NoMemory h = h

pub stands_by : (P : Ending → Type 0) (ending : Ending) (status : Status) → status ≡ status_from ending → P ending → IfCaptured P status
stands_by P ending status e h = subst (IfCaptured P) (sym e) (by P ending h)

pub script_stands_by : (port : ℕ) (P : Ending → Type 0) (ending : Ending) (status : Status) → status ≡ script_status port ending → P ending → IfScripted port P status
script_stands_by port P ending status e h = subst (IfScripted port P) (sym e) (script_by port P ending h)

pub is_whole : (ending : Ending) (status : Status) → status ≡ status_from ending → IsCaptureRead status → IsWhole ending
is_whole ending status e h = go ending (subst IsCaptureRead e h) where
  go : (x : Ending) → IsCaptureRead (status_from x) → IsWhole x
  go (endings.Done told) k = tt
  go (endings.BadCapture number kind) k = tt
  go endings.ReadFault k = k
  go endings.WriteFault k = k
  go endings.NoMemory k = k

pub script_is_whole : (port : ℕ) (ending : Ending) (status : Status) → status ≡ script_status port ending → IsScriptRead port status → IsWhole ending
script_is_whole port ending status e h = go ending (subst (IsScriptRead port) e h) where
  go : (x : Ending) → IsScriptRead port (script_status port x) → IsWhole x
  go (endings.Done told) k = tt
  go (endings.BadCapture number kind) k = tt
  go endings.ReadFault k = k
  go endings.WriteFault k = k
  go endings.NoMemory k = k

pub capture_told : (ending : Ending) (status : Status) (left : Option (List ℕ)) → status ≡ status_from ending → IfTold left (λ content. AnswersContent always ending content)
    → IfTold left (λ content. AnswersCapture status content)
capture_told ending status None e h = tt
capture_told ending status (Some content) e h = stands_by (λ x. AnswersContent always x content) ending status e h

pub script_told : (port : ℕ) (ending : Ending) (status : Status) (left : Option (List ℕ)) → status ≡ script_status port ending → IfTold left (λ content. AnswersContent (has_datagram port) ending content)
    → IfTold left (λ content. AnswersScript port status content)
script_told port ending status None e h = tt
script_told port ending status (Some content) e h = script_stands_by port (λ x. AnswersContent (has_datagram port) x content) ending status e h
