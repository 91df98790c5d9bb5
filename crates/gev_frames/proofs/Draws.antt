-- Lemmas on the bytes that are drawn.
use Rattle.std.proofs.Common.{◌≡◌, ℕ, zero, suc, ◌+◌, ◌-◌, ◌<◌, ◌≤◌, ◌%◌, ◌^◌, List, [], ◌∷◌, ◌++◌, length, get_or, take, Bool, true, false, refl, ap, sym, ◌∙◌, arith, append_assoc, append-nil}
use Rattle.gev_types.specs.declared.frame.Shape.{Shape}
use Rattle.gev_frames.specs.Generator.{next, after_draws, drawn_byte, noise}
use Rattle.gev_types.specs.FrameSize.{image_size, IsImageSize, IsFrame}
use Rattle.gev_types.proofs.Shorter.{image_size-mono, fewer_lines}
use Rattle.gev_frames.specs.Frames.{rows_size, shape_size, frame_of, short_frame_of, rows_of, MayBeShort}
use Rattle.gev_frames.specs.Laws.{MakesFrame, MakesCameraFrame}

pub noise-none : (x : ℕ) → noise 0 x ≡ []
unfolding noise
noise-none x = refl

-- the first byte, and the rest
pub noise-more : (n x : ℕ) → noise (suc n) x ≡ drawn_byte x ∷ noise n (next x)
unfolding noise
noise-more n x = refl

-- What was drawn and what is left to be drawn are all, after one more draw too.
pub noise-drawn : (done all : List ℕ) (i n x : ℕ) → i < n → done ++ noise (n - i) x ≡ all
    → (done ++ drawn_byte x ∷ []) ++ noise (n - (i + 1)) (next x) ≡ all
noise-drawn done all i n x h e =
    let count : n - i ≡ suc (n - (i + 1)) = omega arith in
    append_assoc done (drawn_byte x ∷ []) (noise (n - (i + 1)) (next x))
    ∙ (ap (λ (rest : List ℕ). done ++ rest) (sym (noise-more (n - (i + 1)) x) ∙ sym (ap (λ (k : ℕ). noise k x) count)) ∙ e)

pub length-noise : (n x : ℕ) → length (noise n x) ≡ n
unfolding noise
length-noise zero x = refl
length-noise (suc n) x = ap suc (length-noise n (next x))

pub get_or-noise : (n x j : ℕ) → j < n → get_or (noise n x) j 0 ≡ drawn_byte (after_draws j x)
unfolding noise after_draws
get_or-noise zero x j h = absurd (omega arith)
get_or-noise (suc n) x zero h = refl
get_or-noise (suc n) x (suc j) h = get_or-noise n (next x) j (omega arith)

-- The first bytes of many are those of few.
pub take-noise : (n m x : ℕ) → n ≤ m → take n (noise m x) ≡ noise n x
unfolding noise
take-noise zero m x h = refl
take-noise (suc n) zero x h = absurd (omega arith)
take-noise (suc n) (suc m) x h = ap (λ (rest : List ℕ). drawn_byte x ∷ rest) (take-noise n m (next x) (omega arith))

-- so many lines' bytes, drawn without the rest, are the first of the whole image's
pub drawn_short : (seed block : ℕ) (shape : Shape) (rows : ℕ) → rows ≤ shape.size_y
    → (short_frame_of seed block shape rows).pixels ≡ noise (rows_size shape rows) ((seed + block) % 2 ^ 64)
drawn_short seed block shape rows fewer =
    take-noise (rows_size shape rows) (shape_size shape) ((seed + block) % 2 ^ 64) (image_size-mono shape.pixel shape.size_x shape.size_y 0 0 rows fewer)

pub drawn_all : (seed block : ℕ) (shape : Shape) → short_frame_of seed block shape shape.size_y ≡ frame_of seed block shape
drawn_all seed block shape =
    ap (λ (bytes : List ℕ). record (frame_of seed block shape) { pixels = bytes }) (drawn_short seed block shape shape.size_y (omega arith))

-- The sizes are all that makes a frame valid.
pub short_is_frame : (seed block : ℕ) (shape : Shape) (rows : ℕ) → 1 ≤ rows → rows ≤ shape.size_y
    → IsImageSize (shape_size shape) → IsFrame (short_frame_of seed block shape rows)
short_is_frame seed block shape rows one fewer fits =
    let long : length (short_frame_of seed block shape rows).pixels ≡ rows_size shape rows =
    ap length (drawn_short seed block shape rows fewer) ∙ length-noise (rows_size shape rows) ((seed + block) % 2 ^ 64) in
    record {
      some = one;
      rows = fewer;
      told = fits;
      size = long;
      in_limits = rw long ((fewer_lines shape.pixel shape.size_x shape.size_y 0 0 rows fewer).in_limits one fits);
    }

-- An image of some bytes has some lines.
pub lines_are_some : (shape : Shape) → IsImageSize (shape_size shape) → 1 ≤ shape.size_y
lines_are_some shape fits = go shape.size_y refl
  where
    go : (y : ℕ) → shape.size_y ≡ y → 1 ≤ y
    go zero none =
        let empty : shape_size shape ≡ image_size shape.pixel shape.size_x 0 0 0 = ap (λ (y : ℕ). image_size shape.pixel shape.size_x y 0 0) none in
        absurd (omega (arith, empty, fits.0))
    go (suc y) some = omega arith

pub made_is_frame : (seed block : ℕ) (shape : Shape) → MakesFrame seed block shape
made_is_frame seed block shape fits =
    rw (sym (drawn_all seed block shape)) (short_is_frame seed block shape shape.size_y (lines_are_some shape fits) (omega arith) fits)

pub rows_fit : (short : Bool) (block : ℕ) (shape : Shape) → IsImageSize (shape_size shape) → MayBeShort short shape
    → (1 ≤ rows_of short block shape) × (rows_of short block shape ≤ shape.size_y)
rows_fit true block shape fits may = let eight : 8 ≤ shape.size_y = may refl in (omega arith, omega arith)
rows_fit false block shape fits may = (lines_are_some shape fits, omega arith)

pub camera_makes : (short : Bool) (seed block : ℕ) (shape : Shape) → MakesCameraFrame short seed block shape
camera_makes short seed block shape = record {
  valid = λ fits may. let fit = rows_fit short block shape fits may in short_is_frame seed block shape (rows_of short block shape) fit.0 fit.1 fits;
  own_id = refl;
  whole = λ whole. rw whole (drawn_all seed block shape);
}

-- At the end nothing is left.
pub noise-ends : (done all : List ℕ) (i n x : ℕ) → n ≤ i → done ++ noise (n - i) x ≡ all → done ≡ all
noise-ends done all i n x h e =
    let none : n - i ≡ 0 = omega arith in
    sym (append-nil done) ∙ (ap (λ (rest : List ℕ). done ++ rest) (sym (noise-none x) ∙ sym (ap (λ (k : ℕ). noise k x) none)) ∙ e)
