-- The line of one step of the board.
use Rattle.std.specs.Prelude.{ℕ, List, [], ◌∷◌, codes}
use Rattle.std.specs.List.{concat}
use Rattle.std.specs.Fmt.{decimal}
use Rattle.gev_report.specs.declared.step_text.StepText.{StepText}
use Rattle.gev_report.specs.declared.step_text.StepText.TheVariants.{Done, Number, None, Closed, NotHeld, Vacant, Away}

abbrev pub step_text : StepText → List ℕ
step_text Done = codes "ok"
step_text (Number number) = decimal number
step_text None = codes "none"
step_text Closed = codes "closed"
step_text NotHeld = codes "not-held"
step_text Vacant = codes "vacant"
step_text Away = codes "away"

-- the actor, the act, and what it was answered
abbrev pub step_line : ℕ → List ℕ → StepText → List ℕ
step_line actor act answer = concat (
    codes "step " ∷ decimal actor ∷ codes " " ∷ act ∷ codes " " ∷ step_text answer ∷ codes "\n" ∷ [])
