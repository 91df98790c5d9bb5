-- A wait for a filled buffer (EMVA GenTL: EventGetData): the moments that it reads, its answer by them, and
-- its events.
use Rattle.std.specs.Prelude.{◌≡◌, ℕ, List, [], ◌∷◌, ◌++◌, Option, Result, Ok, Err}
use Rattle.gentl_types.specs.declared.errors.GcError.{GcError}
use Rattle.gentl_types.specs.declared.errors.GcError.TheVariants.{InvalidHandle, Abort, Timeout}
use Rattle.gentl_types.specs.declared.errors.Shown.TheVariants as shown
use Rattle.board_machine.specs.declared.events.Event.{Event}
use Rattle.buffer_words.specs.Loans.{Lent}
use Rattle.gev_links.specs.Moments.{TellsEach}
use Rattle.gentl_events.specs.Readings.{IsLate, AreEarly}
use Rattle.gentl_events.specs.Turns.{idle_turns, last_turn}

-- The last of these moments is the first late one.
pub record EndsLate (timeout first last : ℕ) (moments : List ℕ) : Type 0 where
  pub before : List ℕ
  pub is : moments ≡ before ++ last ∷ []
  pub early : AreEarly timeout first before
  pub late : IsLate timeout first last

-- The answer by the moments that were read after the first one. A Timeout comes with the first late moment,
-- and each other answer while there was none.
abbrev pub AnswersBy : ℕ → ℕ → List ℕ → Result Lent GcError → Type 0
AnswersBy timeout first moments (Ok loan) = AreEarly timeout first moments
AnswersBy timeout first moments (Err (InvalidHandle shown.Closed)) = AreEarly timeout first moments
AnswersBy timeout first moments (Err Abort) = AreEarly timeout first moments
AnswersBy timeout first moments (Err (Timeout begun last)) = (begun ≡ first) × EndsLate timeout first last moments
AnswersBy timeout first moments (Err error) = ⊥

-- These are the events of a wait with this answer. The clock was read once, and once more after each turn
-- that found neither a buffer nor the close mark nor a kill.
pub record Waits (timeout : ℕ) (told now : Option (List ℕ)) (answer : Result Lent GcError) (events : List Event) : Type 0 where
  pub first : ℕ
  pub moments : List ℕ
  pub tells : TellsEach told now (first ∷ moments)
  pub answers : AnswersBy timeout first moments answer
  pub is : events ≡ idle_turns moments ++ last_turn answer
