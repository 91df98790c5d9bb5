-- The script of a tape and its marks, and what writing a text to a sink did.
use Rattle.std.specs.Prelude.{◌≡◌, ℕ, List, [], ◌∷◌, Option, None, Result, Ok, Err}
use Rattle.gev_links.specs.Faults.{Rose}
use Rattle.gev_links.specs.Told.{Appends, WritesFront}
use Rattle.acquisition_machine.specs.declared.mark.Mark.{Mark}
use Rattle.acquisition_machine.specs.Turns.{Noted}
pub use Rattle.take_lines.specs.Texts.{text_of}
use Rattle.gev_record.specs.declared.record_end.RecordEnd.{RecordEnd}
use Rattle.gev_record.specs.declared.record_end.RecordEnd.TheVariants.{WriteFault, NoMemory}

-- the turns of these marks, with what the receives gave; a mark behind the last receive has no datagram
abbrev pub noted : List (Option (List ℕ)) → List Mark → List Noted
noted kept [] = []
noted [] (m ∷ ms) = record { received = None; mark = m } ∷ noted [] ms
noted (k ∷ kept) (m ∷ ms) = record { received = k; mark = m } ∷ noted kept ms

-- The whole text was written, or a front of it, the sink failing in one case alone.
abbrev pub Writes : Result (Unit {0}) RecordEnd → Option (List ℕ) → Option (List ℕ) → ℕ → ℕ → List ℕ → Type 0
Writes (Ok done) written written_after faults faults_after text = Appends written written_after text × (faults_after ≡ faults)
Writes (Err WriteFault) written written_after faults faults_after text = WritesFront written written_after text × Rose faults faults_after
Writes (Err NoMemory) written written_after faults faults_after text = WritesFront written written_after text × (faults_after ≡ faults)
