-- What was drawn of a buffer that was taken, by the answer.
use Rattle.std.specs.Prelude.{◌≡◌, ℕ, List, Option, Some, Result, Ok, Err}
use Rattle.gev_types.specs.Filling.{Filling}
use Rattle.gev_links.specs.Faults.{Rose}
use Rattle.board_model.specs.Plain.{PlainState, content_at}
use Rattle.frame_pictures.specs.declared.no_picture.NoPicture.{NoPicture}
use Rattle.frame_pictures.specs.Pictures.{picture_of}
use Rattle.picture_report.specs.Writing.{Draws, DrawsFront}
use Rattle.picture_report.specs.declared.stop.PictureStop.{PictureStop}
use Rattle.picture_report.specs.declared.stop.PictureStop.TheVariants as stops
use Rattle.script_image.specs.declared.image_end.ImageEnd.{ImageEnd}
use Rattle.script_image.specs.declared.image_end.ImageEnd.TheVariants as ends

-- This picture was written, or a front of it, or there is none.
abbrev pub DrawsTo : ImageEnd → Result (List ℕ) NoPicture → Option (List ℕ) → Option (List ℕ) → ℕ → ℕ → Type 0
DrawsTo ends.Done shown written written_after writes writes_after = Draws shown written written_after × (writes_after ≡ writes)
DrawsTo (ends.NoPicture why) shown written written_after writes writes_after = (shown ≡ Err why) × (written_after ≡ written) × (writes_after ≡ writes)
DrawsTo ends.WriteFault shown written written_after writes writes_after = DrawsFront shown written written_after × Rose writes writes_after
DrawsTo ends.NoMemory shown written written_after writes writes_after = (written_after ≡ written) × (writes_after ≡ writes)
DrawsTo ends.ReadFault shown written written_after writes writes_after = ⊥
DrawsTo (ends.BadLine line kind) shown written written_after writes writes_after = ⊥

-- the ending by the answer of writing a picture
abbrev pub end_by : Result (Unit {0}) PictureStop → ImageEnd
end_by (Ok done) = ends.Done
end_by (Err (stops.NoPicture why)) = ends.NoPicture why
end_by (Err stops.WriteFault) = ends.WriteFault
end_by (Err stops.NoMemory) = ends.NoMemory

-- The buffer at this place was drawn.
pub record DrawsThere (end : ImageEnd) (s : PlainState) (place : ℕ) (written written_after : Option (List ℕ)) (writes writes_after : ℕ) : Type 0 where
  pub filling : Filling
  pub lies : content_at s place ≡ Some filling
  pub drawn : DrawsTo end (picture_of filling) written written_after writes writes_after
