-- What the bytes of a script decide of a picture.
use Rattle.std.proofs.Common.{◌≡◌, ℕ, List, Option, Some, None, subst, sym}
use Rattle.script_runs.specs.Verdicts.{Outcome, IfTold}
use Rattle.script_image.specs.declared.image_end.ImageEnd.{ImageEnd}
use Rattle.script_image.specs.declared.image_end.ImageEnd.TheVariants as ends
use Rattle.script_image.specs.declared.wanted.Wanted.{Wanted}
use Rattle.script_image.specs.Ends.{AnswersContent}
use Rattle.gev_status.specs.declared.status.Status.{Status}
use Rattle.gev_top.specs.Imaging.{status_for, IfImaged, AnswersImage}

imaged : (P : ImageEnd → Type 0) (ending : ImageEnd) → P ending → IfImaged P (status_for ending)
imaged P ends.Done h = h
imaged P (ends.NoPicture why) h = h
imaged P (ends.BadLine line kind) h = h
imaged P ends.ReadFault h = h
imaged P ends.WriteFault h = h
imaged P ends.NoMemory h = h

pub image_caused : (P : ImageEnd → Type 0) (ending : ImageEnd) (status : Status) → status ≡ status_for ending → P ending → IfImaged P status
image_caused P ending status e h = subst (λ (s : Status). IfImaged P s) (sym e) (imaged P ending h)

pub image_told : (wanted : Wanted) (ending : ImageEnd) (status : Status) (left : Option (List ℕ)) (v : List ℕ → Outcome) → status ≡ status_for ending
    → IfTold left (λ content. AnswersContent wanted ending (v content)) → IfTold left (λ content. AnswersImage wanted status (v content))
image_told wanted ending status None v e h = tt
image_told wanted ending status (Some content) v e h =
    subst (λ (s : Status). AnswersImage wanted s (v content)) (sym e) (imaged (λ (x : ImageEnd). AnswersContent wanted x (v content)) ending h)
