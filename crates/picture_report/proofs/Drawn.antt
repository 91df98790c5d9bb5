-- When an image has a picture.
use Rattle.std.proofs.Common.{◌≡◌, ℕ, List, take, true, false, Bool, ap, ◌∙◌}
use Rattle.std.specs.Prelude.{◌==◌, ◌||◌, Option, Some, Ok, Err, if◌then◌else◌}
use Rattle.std.proofs.lemmas.Bool.{cond-true, cond-false}
use Rattle.gev_types.specs.declared.block_record.Record.{Record}
use Rattle.gev_types.specs.declared.image_info.ImageInfo.{ImageInfo}
use Rattle.frame_pictures.specs.declared.no_picture.NoPicture.TheVariants.{NoPixels, PartBytes}
use Rattle.frame_pictures.specs.declared.samples.Samples.{Samples}
use Rattle.frame_pictures.specs.Formats.{samples_of, fills_bytes}
use Rattle.frame_pictures.specs.Pictures.{drawing, drawn_as, drawn, picture}

neither : (a b : Bool) → a ≡ false → b ≡ false → (a || b) ≡ false
neither true b e f = cc
neither false b e f = f

-- an image of a format that is drawn, with a column and a row, whose rows are whole bytes
pub picture_is : (rec : Record) (info : ImageInfo) (bytes : List ℕ) (s : Samples) → rec.image ≡ Some info → samples_of info.pixel ≡ Some s
    → (info.size_x == 0) ≡ false → (info.rows == 0) ≡ false → fills_bytes s info.size_x ≡ true
    → picture rec bytes ≡ Ok (drawing s rec info (take rec.data_len bytes))
picture_is rec info bytes s is format column row whole =
    let image : List ℕ = take rec.data_len bytes in
    ap (λ (t : Option ImageInfo). drawn t rec image) is
    ∙ ap (λ (o : Option Samples). drawn_as o rec info image) format
    ∙ cond-false (info.size_x == 0 || info.rows == 0) (Err NoPixels) (if fills_bytes s info.size_x then Ok (drawing s rec info image) else Err PartBytes)
    (neither (info.size_x == 0) (info.rows == 0) column row)
    ∙ cond-true (fills_bytes s info.size_x) (Ok (drawing s rec info image)) (Err PartBytes) whole
