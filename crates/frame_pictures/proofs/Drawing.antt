-- The picture of a frame without padding.
use Rattle.std.proofs.Common.{◌≡◌, ◌⊎◌, inl, inr, ℕ, zero, suc, ◌+◌, ◌*◌, ◌/◌, ◌<◌, ◌≤◌, List, [], ◌∷◌, ◌++◌, length, take, drop, true, false, refl, ap, sym, ◌∙◌, arith}
use Rattle.std.specs.Prelude.{◌==◌, ◌||◌, ◌%◌, Ok, Err, if◌then◌else◌}
use Rattle.std.proofs.lemmas.Bool.{or_cases, eqb-true, eq-eqb, cond-true, cond-false, false_from_ne_true}
use Rattle.std.proofs.lemmas.List.{take_all, length-drop}
use Rattle.std.proofs.Math.Seq.{take-suc, take-add}
use Rattle.gev_types.specs.declared.image_info.ImageInfo.{ImageInfo}
use Rattle.gev_types.specs.FrameSize.{bits_per_pixel}
use Rattle.block_image.specs.Infos.{frame_info}
use Rattle.frame_pictures.specs.declared.samples.Samples.TheVariants.{Grey8}
use Rattle.frame_pictures.specs.declared.no_picture.NoPicture.TheVariants.{NoPixels, PartBytes}
use Rattle.frame_pictures.specs.Pictures.{head_text, byte_at, row_text, row_step, rows_text, drawing, drawn_as}
use Rattle.frame_pictures.specs.Laws.{PlainFramesAreTheirPixels}
use Rattle.frame_pictures.proofs.Widths.{wide_as_format}

whole_bytes : (m : ℕ) → (m * 8 + 7) / 8 ≡ m
whole_bytes m = omega arith

add-mul-one : (n w : ℕ) → suc n * w ≡ n * w + w
add-mul-one n w = omega arith

step_of : (info : ImageInfo) → info.padding_x ≡ 0 → row_step Grey8 info ≡ info.size_x
step_of info tight = let eighth : info.size_x * 8 / 8 ≡ info.size_x = omega arith in omega (arith, eighth, tight)

-- a row of grey bytes is what lies there
grey_row : (row : List ℕ) (n : ℕ) → n ≤ length row → row_text Grey8 row n ≡ take n row
grey_row row zero fits = refl
grey_row row (suc n) fits =
    let same : n * 8 / 8 ≡ n = omega arith in
    ap (λ t. t ++ byte_at row (n * 8 / 8) ∷ []) (grey_row row n (omega arith))
    ∙ ap (λ j. take n row ++ byte_at row j ∷ []) same
    ∙ sym (take-suc row n 0 (omega arith))

-- and so are rows without padding
grey_rows : (info : ImageInfo) (image : List ℕ) (n : ℕ) → info.padding_x ≡ 0 → n * info.size_x ≤ length image → rows_text Grey8 info image n ≡ take (n * info.size_x) image
grey_rows info image zero tight fits = let none : 0 * info.size_x ≡ 0 = omega arith in ap (λ m. take m image) (sym none)
grey_rows info image (suc n) tight fits =
    let step : n * row_step Grey8 info ≡ n * info.size_x = ap (λ m. n * m) (step_of info tight) in
    let more : suc n * info.size_x ≡ n * info.size_x + info.size_x = add-mul-one n info.size_x in
    let left : info.size_x ≤ length (drop (n * info.size_x) image) = omega (arith, length-drop (n * info.size_x) image, more) in
    ap (λ t. t ++ row_text Grey8 (drop (n * row_step Grey8 info) image) info.size_x) (grey_rows info image n tight (omega (arith, more)))
    ∙ ap (λ m. take (n * info.size_x) image ++ row_text Grey8 (drop m image) info.size_x) step
    ∙ ap (λ t. take (n * info.size_x) image ++ t) (grey_row (drop (n * info.size_x) image) info.size_x left)
    ∙ sym (take-add (n * info.size_x) info.size_x image)
    ∙ ap (λ m. take m image) (sym more)

-- how long the pixels are
length_of : (width rows bits padding_x padding_y len : ℕ) → bits ≡ 8 → padding_x ≡ 0 → padding_y ≡ 0
    → len ≡ (width * rows * bits + 7) / 8 + padding_x * rows + padding_y → len ≡ rows * width
length_of width rows bits padding_x padding_y len wide tight_x tight_y is =
    let pixels : ℕ = width * rows in
    let eights : pixels * bits ≡ pixels * 8 = ap (λ m. pixels * m) wide in
    let none : padding_x * rows ≡ 0 * rows = ap (λ m. m * rows) tight_x in
    let whole : (pixels * 8 + 7) / 8 ≡ pixels = whole_bytes pixels in
    let bytes : (pixels * bits + 7) / 8 ≡ pixels = ap (λ m. (m + 7) / 8) eights ∙ whole in
    let swapped : width * rows ≡ rows * width = omega arith in
    omega (arith, is, bytes, none, tight_y, swapped)

-- A frame with a pixel has a column and a row.
some_pixels : (width rows : ℕ) → 0 < rows * width → (width == 0 || rows == 0) ≡ false
some_pixels width rows some = false_from_ne_true (width == 0 || rows == 0) (λ e. go (or_cases (width == 0) (rows == 0) e)) where
  go : ((width == 0) ≡ true) ⊎ ((rows == 0) ≡ true) → ⊥
  go (inl e) = let none : rows * width ≡ rows * 0 = ap (λ m. rows * m) (eqb-true width 0 e) in omega (arith, none)
  go (inr e) = let none : rows * width ≡ 0 * width = ap (λ m. m * width) (eqb-true rows 0 e) in omega (arith, none)

pub plain_frames_are_their_pixels : PlainFramesAreTheirPixels
plain_frames_are_their_pixels rec frame valid tight_x tight_y format =
    let info : ImageInfo = frame_info frame frame.rows in
    let len : length frame.pixels ≡ frame.rows * frame.size_x = length_of frame.size_x frame.rows (bits_per_pixel frame.pixel) frame.padding_x frame.padding_y (length frame.pixels)
    (wide_as_format frame.pixel Grey8 format) tight_x tight_y valid.size in
    let some : (frame.size_x == 0 || frame.rows == 0) ≡ false = some_pixels frame.size_x frame.rows (omega (arith, len, valid.in_limits.0)) in
    let image : List ℕ = frame.pixels in
    let whole : frame.size_x * 8 % 8 ≡ 0 = omega arith in
    ap (λ o. drawn_as o rec info image) format
    ∙ cond-false (frame.size_x == 0 || frame.rows == 0) (Err NoPixels) (if frame.size_x * 8 % 8 == 0 then Ok (drawing Grey8 rec info image) else Err PartBytes) some
    ∙ cond-true (frame.size_x * 8 % 8 == 0) (Ok (drawing Grey8 rec info image)) (Err PartBytes) (eq-eqb (frame.size_x * 8 % 8) 0 whole)
    ∙ ap (λ (t : List ℕ). Ok (head_text Grey8 rec info ++ t))
    (grey_rows info frame.pixels frame.rows tight_x (omega (arith, len))
    ∙ ap (λ m. take m frame.pixels) (sym len)
    ∙ take_all (length frame.pixels) frame.pixels (omega arith))
