-- Where the pixels of a picture stand.
use Rattle.std.proofs.Common.{◌≡◌, ◌⊎◌, inl, inr, ℕ, zero, suc, ◌+◌, ◌*◌, ◌/◌, ◌<◌, ◌≤◌, List, [], ◌∷◌, ◌++◌, length, take, drop, true, false, Bool, refl, ap, sym, ◌∙◌, subst, arith}
use Rattle.std.specs.Prelude.{◌==◌, ◌||◌, ◌%◌, ◌^◌, min, slice_index, Option, Some, Ok, Err, if◌then◌else◌}
use Rattle.std.proofs.lemmas.Bool.{cases_lt}
use Rattle.std.proofs.lemmas.List.{length-append, take_all, take-append-le, drop-append-le, length-drop, get_or-drop}
use Rattle.std.proofs.Math.Seq.{drop-append-add, take-append_seam}
use Rattle.std.proofs.Math.Nat.{mul-le-mul_right, div-one}
use Rattle.byteorder.specs.Endian.{big_bytes}
use Rattle.gev_types.specs.declared.block_record.Record.{Record}
use Rattle.gev_types.specs.declared.image_info.ImageInfo.{ImageInfo}
use Rattle.frame_pictures.specs.declared.samples.Samples.{Samples}
use Rattle.frame_pictures.specs.declared.samples.Samples.TheVariants.{Grey8, Grey16, Rgb, Bgr, Rgba, Bgra, Yuyv, Uyvy, Packed10, Packed12, Lsb10, Lsb12}
use Rattle.frame_pictures.specs.declared.no_picture.NoPicture.TheVariants.{NoPixels, PartBytes}
use Rattle.frame_pictures.specs.Formats.{samples_of, fills_bytes}
use Rattle.frame_pictures.specs.Pictures.{head_text, byte_at, shared_value, running_value, text_at, pixel_text, row_text, row_step, rows_text, drawing, drawn_as, drawn}
use Rattle.frame_pictures.specs.Pixels.{written_bytes, pair_value, bits_from, pixel_in, row_byte, ShowsPixels}
use Rattle.frame_pictures.specs.Laws.{PicturesAreTheirPixels}
use Rattle.frame_pictures.proofs.Widths.{wide_as_format}
use Rattle.frame_pictures.proofs.Bits.{byte_bits, across}

-- ---- parts of two lists end to end

-- a part of the first
first_part : (a b : List ℕ) (i k : ℕ) → i + k ≤ length a → take k (drop i (a ++ b)) ≡ take k (drop i a)
first_part a b i k within =
    ap (λ (t : List ℕ). take k t) (drop-append-le i a b (omega (arith, within)))
    ∙ take-append-le k (drop i a) b (omega (arith, within, length-drop i a))

-- a part of the second
second_part : (a b : List ℕ) (n i k : ℕ) → n ≡ length a + i → take k (drop n (a ++ b)) ≡ take k (drop i b)
second_part a b n i k at = ap (λ m. take k (drop m (a ++ b))) at ∙ ap (λ (t : List ℕ). take k t) (drop-append-add a b i)

-- ---- lengths

pixel_len : (s : Samples) (row : List ℕ) (x : ℕ) → length (pixel_text s row x) ≡ written_bytes s
pixel_len Grey8 row x = refl
pixel_len (Grey16 greatest) row x = refl
pixel_len Rgb row x = refl
pixel_len Bgr row x = refl
pixel_len Rgba row x = refl
pixel_len Bgra row x = refl
pixel_len Yuyv row x = refl
pixel_len Uyvy row x = refl
pixel_len Packed10 row x = refl
pixel_len Packed12 row x = refl
pixel_len Lsb10 row x = refl
pixel_len Lsb12 row x = refl

row_len : (s : Samples) (row : List ℕ) (n : ℕ) → length (row_text s row n) ≡ n * written_bytes s
row_len s row zero = let none : 0 * written_bytes s ≡ 0 = omega arith in sym none
row_len s row (suc n) =
    omega (arith, length-append (row_text s row n) (pixel_text s row n), row_len s row n, pixel_len s row n)

rows_len : (s : Samples) (info : ImageInfo) (image : List ℕ) (n : ℕ) → length (rows_text s info image n) ≡ n * (info.size_x * written_bytes s)
rows_len s info image zero = let none : 0 * (info.size_x * written_bytes s) ≡ 0 = omega arith in sym none
rows_len s info image (suc n) =
    omega (
      arith,
      length-append (rows_text s info image n) (row_text s (drop (n * row_step s info) image) info.size_x),
      rows_len s info image n,
      row_len s (drop (n * row_step s info) image) info.size_x,
    )

-- so many whole steps stand below a greater count of them
below_by : (i n k : ℕ) → i < n → i * k + k ≤ n * k
below_by i n k less =
    let more : suc i * k ≤ n * k = mul-le-mul_right k less in
    let step : suc i * k ≡ i * k + k = omega arith in
    omega (arith, more, step)

last_or : (x n : ℕ) → x < suc n → (x < n) ⊎ (x ≡ n)
last_or x n less = go (cases_lt x n) where
  go : (x < n) ⊎ (n ≤ x) → (x < n) ⊎ (x ≡ n)
  go (inl below) = inl below
  go (inr past) = inr (omega (arith, less, past))

-- ---- a pixel in its row, and a part of a row among the rows

pixel_there : (s : Samples) (row : List ℕ) (n x : ℕ) → x < n → take (written_bytes s) (drop (x * written_bytes s) (row_text s row n)) ≡ pixel_text s row x
pixel_there s row zero x less = absurd (omega (arith, less))
pixel_there s row (suc n) x less = go (last_or x n less) (λ below. pixel_there s row n x below) where
  go : (x < n) ⊎ (x ≡ n) → (x < n → take (written_bytes s) (drop (x * written_bytes s) (row_text s row n)) ≡ pixel_text s row x)
      → take (written_bytes s) (drop (x * written_bytes s) (row_text s row n ++ pixel_text s row n)) ≡ pixel_text s row x
  go (inl below) front =
      first_part (row_text s row n) (pixel_text s row n) (x * written_bytes s) (written_bytes s) (omega (arith, row_len s row n, below_by x n (written_bytes s) below))
      ∙ front below
  go (inr same) front =
      let at : x * written_bytes s ≡ n * written_bytes s = ap (λ m. m * written_bytes s) same in
      second_part (row_text s row n) (pixel_text s row n) (x * written_bytes s) 0 (written_bytes s) (omega (arith, at, row_len s row n))
      ∙ take_all (written_bytes s) (pixel_text s row n) (omega (arith, pixel_len s row n))
      ∙ ap (pixel_text s row) (sym same)

row_there : (s : Samples) (info : ImageInfo) (image : List ℕ) (n y i k : ℕ) → y < n → i + k ≤ info.size_x * written_bytes s
    → take k (drop (y * (info.size_x * written_bytes s) + i) (rows_text s info image n)) ≡ take k (drop i (row_text s (drop (y * row_step s info) image) info.size_x))
row_there s info image zero y i k less within = absurd (omega (arith, less))
row_there s info image (suc n) y i k less within = go (last_or y n less) (λ below. row_there s info image n y i k below within) where
  go : (y < n) ⊎ (y ≡ n) → (y < n → take k (drop (y * (info.size_x * written_bytes s) + i) (rows_text s info image n)) ≡ take k (drop i (row_text s (drop (y * row_step s info) image) info.size_x)))
      → take k (drop (y * (info.size_x * written_bytes s) + i) (rows_text s info image n ++ row_text s (drop (n * row_step s info) image) info.size_x)) ≡ take k (drop i (row_text s (drop (y * row_step s info) image) info.size_x))
  go (inl below) front =
      first_part (rows_text s info image n) (row_text s (drop (n * row_step s info) image) info.size_x) (y * (info.size_x * written_bytes s) + i) k (omega (arith, rows_len s info image n, below_by y n (info.size_x * written_bytes s) below, within))
      ∙ front below
  go (inr same) front =
      let at : y * (info.size_x * written_bytes s) ≡ n * (info.size_x * written_bytes s) = ap (λ m. m * (info.size_x * written_bytes s)) same in
      second_part (rows_text s info image n) (row_text s (drop (n * row_step s info) image) info.size_x) (y * (info.size_x * written_bytes s) + i) i k (omega (arith, at, rows_len s info image n))
      ∙ ap (λ m. take k (drop i (row_text s (drop (m * row_step s info) image) info.size_x))) (sym same)

-- ---- a pixel by its bytes in the image

-- a byte of what lies from a position on
byte_from : (image : List ℕ) (m i : ℕ) → byte_at (drop m image) i ≡ slice_index image (m + i)
byte_from image m i = get_or-drop m image i 0

-- three bytes of a row
three_by : (row : List ℕ) (byte : ℕ → ℕ) (i j k : ℕ) → ((i : ℕ) → byte_at row i ≡ byte i) → byte_at row i ∷ byte_at row j ∷ byte_at row k ∷ [] ≡ byte i ∷ byte j ∷ byte k ∷ []
three_by row byte i j k same =
    ap (λ b. b ∷ byte_at row j ∷ byte_at row k ∷ []) (same i) ∙ ap (λ b. byte i ∷ b ∷ byte_at row k ∷ []) (same j)
    ∙ ap (λ b. byte i ∷ byte j ∷ b ∷ []) (same k)

-- a value that shares a byte
first_shared : (low : ℕ) (row : List ℕ) (byte : ℕ → ℕ) (x j : ℕ) → ((i : ℕ) → byte_at row i ≡ byte i) → low ≤ 4 → j ≡ 3 * x
    → shared_value low (byte_at row j) (byte_at row (j + 1)) 0 ≡ pair_value low byte x 0
first_shared low row byte x j same few at =
    let middle : 8 * (3 * x + 1) + 0 ≡ 8 * (3 * x + 1) = omega arith in
    ap (λ i. 2 ^ low * byte_at row i + byte_at row (i + 1) % 2 ^ low) at
    ∙ ap (λ b. 2 ^ low * b + byte_at row (3 * x + 1) % 2 ^ low) (same (3 * x))
    ∙ ap (λ b. 2 ^ low * byte (3 * x) + b % 2 ^ low) (same (3 * x + 1) ∙ sym (div-one (byte (3 * x + 1))))
    ∙ ap (λ b. 2 ^ low * byte (3 * x) + b) (sym (byte_bits byte (3 * x + 1) 0 low (omega (arith, few))))
    ∙ ap (λ i. 2 ^ low * byte (3 * x) + bits_from byte i low) middle

second_shared : (low : ℕ) (row : List ℕ) (byte : ℕ → ℕ) (x j : ℕ) → ((i : ℕ) → byte_at row i ≡ byte i) → low ≤ 4 → j ≡ 3 * x + 1
    → shared_value low (byte_at row j) (byte_at row (j + 1)) 4 ≡ pair_value low byte x 1
second_shared low row byte x j same few at =
    let third : 3 * x + 1 + 1 ≡ 3 * x + 2 = omega arith in
    ap (λ i. 2 ^ low * byte_at row (i + 1) + byte_at row i / 2 ^ 4 % 2 ^ low) at
    ∙ ap (λ i. 2 ^ low * byte_at row i + byte_at row (3 * x + 1) / 2 ^ 4 % 2 ^ low) third
    ∙ ap (λ b. 2 ^ low * b + byte_at row (3 * x + 1) / 2 ^ 4 % 2 ^ low) (same (3 * x + 2))
    ∙ ap (λ b. 2 ^ low * byte (3 * x + 2) + b / 2 ^ 4 % 2 ^ low) (same (3 * x + 1))
    ∙ ap (λ b. 2 ^ low * byte (3 * x + 2) + b) (sym (byte_bits byte (3 * x + 1) 4 low (omega (arith, few))))

shared_by : (low : ℕ) (row : List ℕ) (byte : ℕ → ℕ) (x : ℕ) → ((i : ℕ) → byte_at row i ≡ byte i) → low ≤ 4
    → shared_value low (byte_at row (x * 12 / 8)) (byte_at row (x * 12 / 8 + 1)) (x * 12 % 8) ≡ pair_value low byte (x / 2) (x % 2)
shared_by low row byte x same few = go (x % 2) refl where
  here : ℕ → ℕ
  here bit = shared_value low (byte_at row (x * 12 / 8)) (byte_at row (x * 12 / 8 + 1)) bit

  go : (odd : ℕ) → x % 2 ≡ odd → here (x * 12 % 8) ≡ pair_value low byte (x / 2) (x % 2)
  go zero e =
      let at : x * 12 / 8 ≡ 3 * (x / 2) = omega (arith, e) in
      let bit : x * 12 % 8 ≡ 0 = omega (arith, e) in
      ap here bit ∙ first_shared low row byte (x / 2) (x * 12 / 8) same few at ∙ ap (pair_value low byte (x / 2)) (sym e)
  go (suc zero) e =
      let at : x * 12 / 8 ≡ 3 * (x / 2) + 1 = omega (arith, e) in
      let bit : x * 12 % 8 ≡ 4 = omega (arith, e) in
      ap here bit ∙ second_shared low row byte (x / 2) (x * 12 / 8) same few at ∙ ap (pair_value low byte (x / 2)) (sym e)
  go (suc (suc n)) e = absurd (omega (arith, e))

-- a value that runs on from byte to byte
running_by : (bits : ℕ) (row : List ℕ) (byte : ℕ → ℕ) (i j s : ℕ) → ((i : ℕ) → byte_at row i ≡ byte i) → i ≡ 8 * j + s → s < 8 → 8 ≤ bits + s → bits + s ≤ 16
    → running_value bits (byte_at row j) (byte_at row (j + 1)) s ≡ bits_from byte i bits
running_by bits row byte i j s same at low reaches within =
    ap (λ b. running_value bits b (byte_at row (j + 1)) s) (same j)
    ∙ ap (λ b. running_value bits (byte j) b s) (same (j + 1))
    ∙ sym (across byte j s bits low reaches within)
    ∙ ap (λ m. bits_from byte m bits) (sym at)

-- a pixel by any bytes of its row
pixel_by : (s : Samples) (row : List ℕ) (byte : ℕ → ℕ) (x : ℕ) → ((i : ℕ) → byte_at row i ≡ byte i) → pixel_text s row x ≡ pixel_in s byte x
pixel_by Grey8 row byte x same = let one : x * 8 / 8 ≡ x = omega arith in ap (λ b. b ∷ []) (same (x * 8 / 8) ∙ ap byte one)
pixel_by (Grey16 greatest) row byte x same =
    let two : x * 16 / 8 ≡ 2 * x = omega arith in
    ap (λ i. text_at (Grey16 greatest) row i 0) two
    ∙ ap (λ b. big_bytes 2 (min (b + 256 * byte_at row (2 * x + 1)) greatest)) (same (2 * x))
    ∙ ap (λ b. big_bytes 2 (min (byte (2 * x) + 256 * b) greatest)) (same (2 * x + 1))
pixel_by Rgb row byte x same =
    let three : x * 24 / 8 ≡ 3 * x = omega arith in
    ap (λ i. text_at Rgb row i 0) three ∙ three_by row byte (3 * x) (3 * x + 1) (3 * x + 2) same
pixel_by Bgr row byte x same =
    let three : x * 24 / 8 ≡ 3 * x = omega arith in
    ap (λ i. text_at Bgr row i 0) three ∙ three_by row byte (3 * x + 2) (3 * x + 1) (3 * x) same
pixel_by Rgba row byte x same =
    let four : x * 32 / 8 ≡ 4 * x = omega arith in
    ap (λ i. text_at Rgba row i 0) four ∙ three_by row byte (4 * x) (4 * x + 1) (4 * x + 2) same
pixel_by Bgra row byte x same =
    let four : x * 32 / 8 ≡ 4 * x = omega arith in
    ap (λ i. text_at Bgra row i 0) four ∙ three_by row byte (4 * x + 2) (4 * x + 1) (4 * x) same
pixel_by Yuyv row byte x same = let two : x * 16 / 8 ≡ 2 * x = omega arith in ap (λ b. b ∷ []) (same (x * 16 / 8) ∙ ap byte two)
pixel_by Uyvy row byte x same =
    let two : x * 16 / 8 + 1 ≡ 2 * x + 1 = omega arith in ap (λ b. b ∷ []) (same (x * 16 / 8 + 1) ∙ ap byte two)
pixel_by Packed10 row byte x same = ap (λ v. big_bytes 2 v) (shared_by 2 row byte x same (omega arith))
pixel_by Packed12 row byte x same = ap (λ v. big_bytes 2 v) (shared_by 4 row byte x same (omega arith))
pixel_by Lsb10 row byte x same =
    let at : 10 * x ≡ 8 * (x * 10 / 8) + x * 10 % 8 = omega arith in
    let few : x * 10 % 8 ≤ 6 = omega arith in
    ap (λ v. big_bytes 2 v)
    (running_by 10 row byte (10 * x) (x * 10 / 8) (x * 10 % 8) same at (omega (arith, few)) (omega arith) (omega (arith, few)))
pixel_by Lsb12 row byte x same =
    let at : 12 * x ≡ 8 * (x * 12 / 8) + x * 12 % 8 = omega arith in
    let few : x * 12 % 8 ≤ 4 = omega arith in
    ap (λ v. big_bytes 2 v)
    (running_by 12 row byte (12 * x) (x * 12 / 8) (x * 12 % 8) same at (omega (arith, few)) (omega arith) (omega (arith, few)))

-- ---- the whole text

module _ (s : Samples) (rec : Record) (info : ImageInfo) (image : List ℕ) (format : samples_of info.pixel ≡ Some s) where
  abbrev head : List ℕ
  head = head_text s rec info

  abbrev rows : List ℕ
  rows = rows_text s info image info.rows

  row_from : (y i : ℕ) → byte_at (drop (y * row_step s info) image) i ≡ row_byte info image y i
  row_from y i =
      byte_from image (y * row_step s info) i
      ∙ ap (λ bits. slice_index image (y * (info.size_x * bits / 8 + info.padding_x) + i)) (sym (wide_as_format info.pixel s format))

  pixel_so : (x y : ℕ) → x < info.size_x → y < info.rows
      → take (written_bytes s) (drop (length head + (y * info.size_x + x) * written_bytes s) (head ++ rows)) ≡ pixel_in s (row_byte info image y) x
  pixel_so x y column row =
      let b : ℕ = written_bytes s in
      let place : (y * info.size_x + x) * b ≡ y * (info.size_x * b) + x * b = omega arith in
      second_part head rows (length head + (y * info.size_x + x) * b) ((y * info.size_x + x) * b) b refl
      ∙ ap (λ m. take b (drop m rows)) place
      ∙ row_there s info image info.rows y (x * b) b row (below_by x info.size_x b column)
      ∙ pixel_there s (drop (y * row_step s info) image) info.size_x x column
      ∙ pixel_by s (drop (y * row_step s info) image) (row_byte info image y) x (row_from y)

  long_so : length (head ++ rows) ≡ length head + info.rows * info.size_x * written_bytes s
  long_so =
      let b : ℕ = written_bytes s in
      let place : info.rows * info.size_x * b ≡ info.rows * (info.size_x * b) = omega arith in
      length-append head rows ∙ ap (λ n. length head + n) (rows_len s info image info.rows ∙ sym place)

  drawing_shows : ShowsPixels s rec info image (head ++ rows)
  drawing_shows = record {
    long = long_so;
    head = take-append_seam head rows;
    pixels = λ x y column row. pixel_so x y column row;
  }

-- what was drawn is the drawing
drawn_is : (s : Samples) (rec : Record) (info : ImageInfo) (image text : List ℕ) → drawn_as (Some s) rec info image ≡ Ok text → drawing s rec info image ≡ text
drawn_is s rec info image text e = go (info.size_x == 0 || info.rows == 0) (fills_bytes s info.size_x) e where
  go : (b c : Bool) → (if b then Err NoPixels else if c then Ok (drawing s rec info image) else Err PartBytes) ≡ Ok text → drawing s rec info image ≡ text
  go true c h = cc
  go false true h = cc
  go false false h = cc

pub pictures_are_their_pixels : PicturesAreTheirPixels
pictures_are_their_pixels s rec info bytes text told format e =
    let image : List ℕ = take rec.data_len bytes in
    subst (λ t. ShowsPixels s rec info image t)
    (drawn_is s rec info image text
    (sym (ap (λ (o : Option ImageInfo). drawn o rec image) told ∙ ap (λ (o : Option Samples). drawn_as o rec info image) format) ∙ e))
    (drawing_shows s rec info image format)
