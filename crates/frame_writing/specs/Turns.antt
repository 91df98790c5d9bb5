-- One turn of the application.
use Rattle.std.specs.Prelude.{◌≡◌, ◌≢◌, ℕ, Bool, List, [], ◌∷◌, Option, Result, Ok, Err}
use Rattle.buffer_words.specs.Passes.{Token}
use Rattle.buffer_words.specs.Loans.{Lent}
use Rattle.gev_links.specs.Faults.{Rose}
use Rattle.gev_links.specs.Told.{Appends, WritesFront}
use Rattle.gev_apply.specs.Looks.{Looked}
use Rattle.gev_apply.specs.Applied.{Looks, GotNothing}
use Rattle.camera_words.specs.declared.settings.Output.{Output}
use Rattle.frame_writing.specs.declared.write_stop.WriteStop.{WriteStop}
use Rattle.frame_writing.specs.declared.write_stop.WriteStop.TheVariants as stops
use Rattle.frame_writing.specs.declared.turn_end.TurnEnd.{TurnEnd}
use Rattle.frame_writing.specs.declared.turn_end.TurnEnd.TheVariants.{Handed, WriteFault, NoMemory, Idle, Over}
use Rattle.frame_writing.specs.Texts.{text_of}

-- The text was written, or a front of it where a write failed, or nothing.
abbrev pub WritesBy : Result (Unit {0}) WriteStop → List ℕ → Option (List ℕ) → Option (List ℕ) → ℕ → ℕ → Type 0
WritesBy (Ok done) text written written_after faults faults_after = Appends written written_after text × (faults_after ≡ faults)
WritesBy (Err stops.WriteFault) text written written_after faults faults_after = WritesFront written written_after text × Rose faults faults_after
WritesBy (Err stops.NoMemory) text written written_after faults faults_after = (written_after ≡ written) × (faults_after ≡ faults)

-- A turn was made that got this buffer, and gave it back and queued it.
pub record GotOne (told now : Option (List ℕ)) (loan : Lent) (s t : Token) : Type 0 where
  pub turn : Looked
  pub looks : Looks told now (turn ∷ []) s t
  pub got : turn.answer ≡ Ok loan

-- A turn was made that got none, with this of the run word.
pub record GotNone (told now : Option (List ℕ)) (P : ℕ → Type 0) (s t : Token) : Type 0 where
  pub turn : Looked
  pub looks : Looks told now (turn ∷ []) s t
  pub nothing : GotNothing turn.answer
  pub word : P turn.run

-- It got a buffer that is complete or not, whose text was written so.
pub record HandsOne (output : Output) (told now : Option (List ℕ)) (complete : Bool) (wrote : Result (Unit {0}) WriteStop) (written written_after : Option (List ℕ)) (faults faults_after : ℕ) (s t : Token) : Type 0 where
  pub loan : Lent
  pub one : GotOne told now loan s t
  pub flag : complete ≡ loan.filling.rec.complete
  pub wrote_it : WritesBy wrote (text_of output loan.id loan.filling) written written_after faults faults_after

-- how a turn with a buffer ended, by how its text was written
abbrev pub end_by : Bool → Result (Unit {0}) WriteStop → TurnEnd
end_by complete (Ok done) = Handed complete
end_by complete (Err stops.WriteFault) = WriteFault complete
end_by complete (Err stops.NoMemory) = NoMemory complete

-- What a turn did, by how it ended.
abbrev pub TurnsTo : TurnEnd → Output → Option (List ℕ) → Option (List ℕ) → Option (List ℕ) → Option (List ℕ) → ℕ → ℕ → Token → Token → Type 0
TurnsTo (Handed complete) output told now written written_after faults faults_after s t =
    HandsOne output told now complete (Ok tt) written written_after faults faults_after s t
TurnsTo (WriteFault complete) output told now written written_after faults faults_after s t =
    HandsOne output told now complete (Err stops.WriteFault) written written_after faults faults_after s t
TurnsTo (NoMemory complete) output told now written written_after faults faults_after s t =
    HandsOne output told now complete (Err stops.NoMemory) written written_after faults faults_after s t
TurnsTo Idle output told now written written_after faults faults_after s t =
    GotNone told now (λ run. run ≡ 1) s t × (written_after ≡ written) × (faults_after ≡ faults)
TurnsTo Over output told now written written_after faults faults_after s t =
    GotNone told now (λ run. run ≢ 1) s t × (written_after ≡ written) × (faults_after ≡ faults)
