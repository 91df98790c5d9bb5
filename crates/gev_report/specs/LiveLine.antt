-- The last line of a live run, with its line feed.
use Rattle.std.specs.Prelude.{ℕ, List, [], ◌∷◌, codes}
use Rattle.std.specs.List.{concat}
use Rattle.std.specs.Fmt.{decimal}

-- how many frames were asked for, and how many buffers were taken
abbrev pub live_line : ℕ → ℕ → List ℕ
live_line asked taken = concat (codes "live frames=" ∷ decimal asked ∷ codes " taken=" ∷ decimal taken ∷ codes "\n" ∷ [])
