-- What a call adds to a tape.
use Rattle.std.specs.Prelude.{◌≡◌, ⊤, not, Bool, List, ◌++◌, Option, Some, None}
use Rattle.board_machine.specs.Machine.{Board}
use Rattle.acquisition_machine.specs.declared.config.AcqConfig.{AcqConfig}
use Rattle.acquisition_machine.specs.Blocks.{Given, Open, Cause}
use Rattle.script_trace.specs.Notes.{Note, done, unbuffered}
use Rattle.script_trace.specs.Inputs.{outcome_of}
pub use Rattle.script_trace.specs.Inputs.{buffer_of}
use Rattle.note_tape.specs.declared.told.Told.{Told}
use Rattle.note_tape.specs.Telling.{AreNoted}

-- The tape got more, which these are the notes of.
pub record Tells (old new : List Told) (ns : List Note) : Type 0 where
  pub more : List Told
  pub is : new ≡ old ++ more
  pub noted : AreNoted more ns

-- a block's own note, by what it was given
abbrev pub own_note_of : AcqConfig → Board → Open → Cause → Option Given → Note
own_note_of c b o cause None = unbuffered o.block cause
own_note_of c b o cause (Some g) = done (outcome_of c b o cause g)

abbrev pub own_note : AcqConfig → Board → Open → Cause → Note
own_note c b o cause = own_note_of c b o cause o.given

-- a buffer goes into the output unless the close mark stands
abbrev pub IsFilledOn : Board → Option Given → Bool → Type 0
IsFilledOn b None filled = ⊤
IsFilledOn b (Some g) filled = filled ≡ not b.closed
