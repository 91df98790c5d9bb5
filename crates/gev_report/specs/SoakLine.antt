-- The last line of a soak run, with its line feed.
use Rattle.std.specs.Prelude.{ℕ, List, [], ◌∷◌, codes}
use Rattle.std.specs.List.{concat}
use Rattle.std.specs.Fmt.{decimal}
use Rattle.gev_report.specs.declared.soak_numbers.SoakNumbers.{SoakNumbers}

abbrev pub soak_line : SoakNumbers → List ℕ
soak_line numbers = concat (
    codes "soak frames=" ∷ decimal numbers.frames
    ∷ codes " taken=" ∷ decimal numbers.taken
    ∷ codes " complete=" ∷ decimal numbers.complete
    ∷ codes " incomplete=" ∷ decimal numbers.incomplete
    ∷ codes " underrun=" ∷ decimal numbers.underrun
    ∷ codes " requests=" ∷ decimal numbers.requests
    ∷ codes " commands=" ∷ decimal numbers.commands ∷ codes "\n" ∷ [])
