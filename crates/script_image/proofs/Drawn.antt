-- What writing a picture did, as what was drawn.
use Rattle.std.proofs.Common.{◌≡◌, ℕ, List, Option, Some, Result, Ok, Err, sym, subst}
use Rattle.gev_types.specs.Filling.{Filling}
use Rattle.board_model.specs.Plain.{PlainState, content_at}
use Rattle.frame_pictures.specs.declared.no_picture.NoPicture.{NoPicture}
use Rattle.frame_pictures.specs.Pictures.{picture_of}
use Rattle.picture_report.specs.declared.stop.PictureStop.{PictureStop}
use Rattle.picture_report.specs.declared.stop.PictureStop.TheVariants as stops
use Rattle.picture_report.specs.Writing.{DrawsBy}
use Rattle.script_image.specs.declared.image_end.ImageEnd.{ImageEnd}
use Rattle.script_image.specs.Drawing.{DrawsTo, end_by, DrawsThere}

draws_to : (answer : Result (Unit {0}) PictureStop) (shown : Result (List ℕ) NoPicture) (written written_after : Option (List ℕ)) (writes writes_after : ℕ)
    → DrawsBy answer shown written written_after writes writes_after → DrawsTo (end_by answer) shown written written_after writes writes_after
draws_to (Ok done) shown written written_after writes writes_after h = h
draws_to (Err (stops.NoPicture why)) shown written written_after writes writes_after h = h
draws_to (Err stops.WriteFault) shown written written_after writes writes_after h = h
draws_to (Err stops.NoMemory) shown written written_after writes writes_after h = h

pub draws_there : (end : ImageEnd) (answer : Result (Unit {0}) PictureStop) (s : PlainState) (place : ℕ) (filling : Filling) (written written_after : Option (List ℕ)) (writes writes_after : ℕ)
    → content_at s place ≡ Some filling → end ≡ end_by answer → DrawsBy answer (picture_of filling) written written_after writes writes_after
    → DrawsThere end s place written written_after writes writes_after
draws_there end answer s place filling written written_after writes writes_after lies is drawn = record {
  filling = filling;
  lies = lies;
  drawn =
      subst (λ e. DrawsTo e (picture_of filling) written written_after writes writes_after) (sym is)
      (draws_to answer (picture_of filling) written written_after writes writes_after drawn);
}
