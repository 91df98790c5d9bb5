-- What writing a picture did, by its answer.
use Rattle.std.specs.Prelude.{◌≡◌, ℕ, zero, suc, ◌+◌, List, [], ◌++◌, Option, Result, Ok, Err}
use Rattle.gev_links.specs.Faults.{Rose}
use Rattle.gev_links.specs.Told.{Appends, WritesFront}
use Rattle.frame_pictures.specs.Pictures.{pixel_text}
use Rattle.frame_pictures.specs.declared.samples.Samples.{Samples}
use Rattle.frame_pictures.specs.declared.no_picture.NoPicture.{NoPicture}
use Rattle.picture_report.specs.declared.stop.PictureStop.{PictureStop}
use Rattle.picture_report.specs.declared.stop.PictureStop.TheVariants as stops

-- The picture was written.
pub record Draws (shown : Result (List ℕ) NoPicture) (written written_after : Option (List ℕ)) : Type 0 where
  pub text : List ℕ
  pub is : shown ≡ Ok text
  pub appended : Appends written written_after text

-- A front of it was.
pub record DrawsFront (shown : Result (List ℕ) NoPicture) (written written_after : Option (List ℕ)) : Type 0 where
  pub text : List ℕ
  pub is : shown ≡ Ok text
  pub front : WritesFront written written_after text

abbrev pub DrawsBy : Result (Unit {0}) PictureStop → Result (List ℕ) NoPicture → Option (List ℕ) → Option (List ℕ) → ℕ → ℕ → Type 0
DrawsBy (Ok done) shown written written_after faults faults_after = Draws shown written written_after × (faults_after ≡ faults)
DrawsBy (Err (stops.NoPicture why)) shown written written_after faults faults_after =
    (shown ≡ Err why) × (written_after ≡ written) × (faults_after ≡ faults)
DrawsBy (Err stops.WriteFault) shown written written_after faults faults_after =
    DrawsFront shown written written_after × Rose faults faults_after
DrawsBy (Err stops.NoMemory) shown written written_after faults faults_after =
    (written_after ≡ written) × (faults_after ≡ faults)

-- Of this text a front was written, and the rest is still held back.
pub record HoldsBack (written written_after : Option (List ℕ)) (text held : List ℕ) : Type 0 where
  pub front : List ℕ
  pub parts : text ≡ front ++ held
  pub appended : Appends written written_after front

-- n pixels of the row that begins with these bytes, from pixel x on
abbrev pub pixels_text : Samples → List ℕ → ℕ → ℕ → List ℕ
pixels_text s row x zero = []
pixels_text s row x (suc n) = pixels_text s row x n ++ pixel_text s row (x + n)
