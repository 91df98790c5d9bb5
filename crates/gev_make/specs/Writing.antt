-- What writing a text to a sink did, by its answer.
use Rattle.std.specs.Prelude.{◌≡◌, ℕ, List, Option, Result, Ok, Err}
use Rattle.gev_links.specs.Faults.{Rose}
use Rattle.gev_links.specs.Told.{Appends, WritesFront}
use Rattle.gev_make.specs.declared.stop.Stop.{Stop}
use Rattle.gev_make.specs.declared.stop.Stop.TheVariants.{WriteFault, NoMemory}

-- The whole text was written, or a front of it, the sink failing in one case alone.
abbrev pub Writes : Result (Unit {0}) Stop → Option (List ℕ) → Option (List ℕ) → ℕ → ℕ → List ℕ → Type 0
Writes (Ok done) written written_after faults faults_after text = Appends written written_after text × (faults_after ≡ faults)
Writes (Err WriteFault) written written_after faults faults_after text = WritesFront written written_after text × Rose faults faults_after
Writes (Err NoMemory) written written_after faults faults_after text = WritesFront written written_after text × (faults_after ≡ faults)
