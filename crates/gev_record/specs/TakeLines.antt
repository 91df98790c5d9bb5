-- The take lines in a report, and of which contents they tell.
use Rattle.std.specs.Prelude.{◌≡◌, ⊤, ℕ, ◌==◌, ◌&&◌, Bool, true, false, List, [], ◌∷◌, ◌++◌, codes}
use Rattle.std.specs.List.{filter}
use Rattle.gev_types.specs.Filling.{Filling}
use Rattle.gentl_types.specs.declared.buffer_id.BufferId.{BufferId}
use Rattle.gev_report.specs.ReplayLines.{take_line}
use Rattle.gev_script.specs.Words.{parts_of}

abbrev pub begins_with : List ℕ → List ℕ → Bool
begins_with [] bytes = true
begins_with (c ∷ cs) [] = false
begins_with (c ∷ cs) (b ∷ bytes) = c == b && begins_with cs bytes

-- the line's first word is `take`, whatever the take came to
abbrev pub is_take_line : List ℕ → Bool
is_take_line line = begins_with (codes "take ") line

-- the take lines of a report, in order, each without its line feed
abbrev pub take_lines : List ℕ → List (List ℕ)
take_lines report = filter is_take_line (parts_of 10 report)

-- The line tells of a buffer with this content, whatever its id is.
abbrev pub IsTakeOf : List ℕ → Filling → Type 0
IsTakeOf line filling = (id : BufferId) × (line ++ 10 ∷ [] ≡ take_line id filling)

-- Each line tells of the content at the same position, and there are as many of both.
abbrev pub AreTakesOf : List (List ℕ) → List Filling → Type 0
AreTakesOf [] [] = ⊤
AreTakesOf [] (filling ∷ fillings) = ⊥
AreTakesOf (line ∷ lines) [] = ⊥
AreTakesOf (line ∷ lines) (filling ∷ fillings) = IsTakeOf line filling × AreTakesOf lines fillings
