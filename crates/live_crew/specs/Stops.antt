-- A worker stops the run.
use Rattle.std.specs.Prelude.{◌≡◌, ℕ, Bool, true, false, Result}
use Rattle.board_machine.specs.declared.events.Event.TheVariants.{Stop}
use Rattle.buffer_words.specs.Passes.{Token, Enters}

-- the run was stopped, or had been before
abbrev pub Stops : Token → Token → Type 0
Stops s t = (answer : Result (Unit {0}) ℕ) × Enters s (Stop false answer) t

-- The run was stopped, where it had to be.
abbrev pub StopsIf : Bool → Token → Token → Type 0
StopsIf true s t = Stops s t
StopsIf false s t = t ≡ s
