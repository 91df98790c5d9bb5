-- What the application's worker does beside its turns: it stops the run.
use Rattle.std.specs.Prelude.{ℕ, ◌==◌, Bool, true, List, Option, Result, Ok, Err}
use Rattle.buffer_words.specs.Passes.{Token}
use Rattle.live_crew.specs.Stops.{StopsIf}
use Rattle.gev_apply.specs.Applied.{Applies}

-- it took as many buffers as were asked for, or memory was wanting
abbrev pub has_enough : {E : Type 0} → ℕ → Result ℕ E → Bool
has_enough frames (Ok taken) = taken == frames
has_enough frames (Err error) = true

-- It took buffers and told them, and stopped the run where it had enough.
pub record AppliesAndStops {E : Type 0} (frames : ℕ) (told now : Option (List ℕ)) (old new : List ℕ) (answer : Result ℕ E) (p q : Token) : Type 0 where
  pub middle : Token
  pub applies : Applies frames told now old new answer p middle
  pub stops : StopsIf (has_enough frames answer) middle q
