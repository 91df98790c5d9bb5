-- Rows whose pixels are bytes, one behind the other.
use Rattle.std.proofs.Common.{◌≡◌, ℕ, zero, suc, ◌+◌, ◌*◌, ◌/◌, ◌≤◌, List, [], ◌∷◌, ◌++◌, length, take, drop, get_or, refl, ap, sym, ◌∙◌, arith}
use Rattle.std.proofs.Math.Seq.{take-suc, take-add}
use Rattle.std.proofs.lemmas.List.{length-drop}
use Rattle.gev_types.specs.declared.image_info.ImageInfo.{ImageInfo}
use Rattle.frame_pictures.specs.declared.samples.Samples.{Samples}
use Rattle.frame_pictures.specs.declared.samples.Samples.TheVariants.{Grey8}
use Rattle.frame_pictures.specs.Pictures.{pixel_text, row_text, row_step, rows_text}

eighth : (n : ℕ) → n * 8 / 8 ≡ n
eighth n = omega arith

-- such a row is the front of its bytes
pub plain_row : (row : List ℕ) (n : ℕ) → n ≤ length row → row_text Grey8 row n ≡ take n row
plain_row row zero few = refl
plain_row row (suc n) few =
    ap (λ (t : List ℕ). t ++ pixel_text Grey8 row n) (plain_row row n (omega arith))
    ∙ ap (λ j. take n row ++ get_or row j 0 ∷ []) (eighth n)
    ∙ sym (take-suc row n 0 (omega arith))

plain_step : (info : ImageInfo) → info.padding_x ≡ 0 → row_step Grey8 info ≡ info.size_x
plain_step info none = omega (arith, eighth info.size_x, none)

-- and such an image the front of its
plain_rows_of : (info : ImageInfo) (image : List ℕ) (n : ℕ) → info.padding_x ≡ 0 → n * info.size_x ≤ length image → rows_text Grey8 info image n ≡ take (n * info.size_x) image
plain_rows_of info image zero none few = ap (λ m. take m image) (sym nothing) where
  nothing : 0 * info.size_x ≡ 0
  nothing = omega arith
plain_rows_of info image (suc n) none few =
    let w = info.size_x in
    let all : suc n * w ≡ n * w + w = omega arith in
    let fewer : n * w ≤ length image = omega (arith, all, few) in
    let there : w ≤ length (drop (n * w) image) = omega (arith, length-drop (n * w) image, all, few) in
    ap (λ (t : List ℕ). t ++ row_text Grey8 (drop (n * row_step Grey8 info) image) w) (plain_rows_of info image n none fewer)
    ∙ ap (λ s. take (n * w) image ++ row_text Grey8 (drop (n * s) image) w) (plain_step info none)
    ∙ ap (λ (t : List ℕ). take (n * w) image ++ t) (plain_row (drop (n * w) image) w there)
    ∙ sym (take-add (n * w) w image)
    ∙ ap (λ m. take m image) (sym all)

pub plain_rows : (s : Samples) (info : ImageInfo) (image : List ℕ) → s ≡ Grey8 → info.padding_x ≡ 0 → info.rows * info.size_x ≤ length image
    → take (info.rows * info.size_x) image ≡ rows_text s info image info.rows
plain_rows s info image is none few = sym (ap (λ (v : Samples). rows_text v info image info.rows) is ∙ plain_rows_of info image info.rows none few)
