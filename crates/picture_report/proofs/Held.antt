-- Text of which a front was written and the rest is held back.
use Rattle.std.proofs.Common.{◌≡◌, ℕ, zero, suc, ◌+◌, ◌-◌, ◌*◌, ◌≤◌, List, [], ◌++◌, drop, Option, Some, None, Result, Ok, Err, refl, ap, sym, ◌∙◌, subst, append_assoc, append-nil, arith}
use Rattle.std.specs.Prelude.{OnErr, min}
use Rattle.std.proofs.lemmas.List.{drop-drop}
use Rattle.gev_links.specs.Told.{Appends, WritesFront}
use Rattle.gev_types.specs.declared.image_info.ImageInfo.{ImageInfo}
use Rattle.frame_pictures.specs.declared.samples.Samples.{Samples}
use Rattle.frame_pictures.specs.Pictures.{pixel_text, row_text, row_step, rows_text}
use Rattle.picture_report.specs.Writing.{HoldsBack, pixels_text}

Appends-same : (w : Option (List ℕ)) → Appends w w []
Appends-same None = refl
Appends-same (Some w) = ap (λ (l : List ℕ). Some l) (sym (append-nil w))

Appends-append : (w x y : Option (List ℕ)) (xs ys : List ℕ) → Appends w x xs → Appends x y ys → Appends w y (xs ++ ys)
Appends-append None x y xs ys g h = subst (λ (v : Option (List ℕ)). Appends v y ys) g h
Appends-append (Some w) x y xs ys g h =
    let last : Appends (Some (w ++ xs)) y ys = subst (λ (v : Option (List ℕ)). Appends v y ys) g h in
    last ∙ ap (λ (t : List ℕ). Some t) (append_assoc w xs ys)

-- nothing is written yet
pub held_all : (w : Option (List ℕ)) (text : List ℕ) → HoldsBack w w text text
held_all w text = record { front = []; parts = refl; appended = Appends-same w }

-- all that was held back is written
pub held_none : (w x : Option (List ℕ)) (text : List ℕ) → Appends w x text → HoldsBack w x text []
held_none w x text a = record { front = text; parts = sym (append-nil text); appended = a }

-- some of what was held back is written
pub held_less : (w x y : Option (List ℕ)) (text held held_after : List ℕ) → HoldsBack w x text held → HoldsBack x y held held_after → HoldsBack w y text held_after
held_less w x y text held held_after d e = record {
  front = d.front ++ e.front;
  parts = d.parts ∙ ap (λ (t : List ℕ). d.front ++ t) e.parts ∙ sym (append_assoc d.front e.front held_after);
  appended = Appends-append w x y d.front e.front d.appended e.appended;
}

-- more text is held back
pub held_more : (w x : Option (List ℕ)) (text held more : List ℕ) → HoldsBack w x text held → HoldsBack w x (text ++ more) (held ++ more)
held_more w x text held more d = record {
  front = d.front;
  parts = ap (λ (t : List ℕ). t ++ more) d.parts ∙ append_assoc d.front held more;
  appended = d.appended;
}

-- of a text whose begin was dealt with so a front is written
pub held_front : (w x y : Option (List ℕ)) (text held more whole : List ℕ) (rest : List ℕ) → HoldsBack w x text held → WritesFront x y (held ++ more)
    → whole ≡ (text ++ more) ++ rest → WritesFront w y whole
held_front w x y text held more whole rest d e is = record {
  front = d.front ++ e.front;
  rest = e.rest ++ rest;
  parts =
      is
      ∙ ap (λ (t : List ℕ). t ++ rest)
      (ap (λ (t : List ℕ). t ++ more) d.parts ∙ append_assoc d.front held more ∙ ap (λ (t : List ℕ). d.front ++ t) e.parts
      ∙ sym (append_assoc d.front e.front e.rest))
      ∙ append_assoc (d.front ++ e.front) e.rest rest;
  appended = Appends-append w x y d.front e.front d.appended e.appended;
}

-- the rest is written
pub held_whole : (w x y : Option (List ℕ)) (text held : List ℕ) → HoldsBack w x text held → Appends x y held → Appends w y text
held_whole w x y text held d e = subst (λ (t : List ℕ). Appends w y t) (sym d.parts) (Appends-append w x y d.front held d.appended e)

-- ---- rows and their begins

pub record Begins (short long : List ℕ) : Type 0 where
  pub rest : List ℕ
  pub is : long ≡ short ++ rest

row_more : (s : Samples) (row : List ℕ) (n k : ℕ) → Begins (row_text s row n) (row_text s row (n + k))
row_more s row n zero = let same : n + 0 ≡ n = omega arith in
    record { rest = []; is = ap (row_text s row) same ∙ sym (append-nil (row_text s row n)) }
row_more s row n (suc k) =
    let same : n + suc k ≡ suc (n + k) = omega arith in
    let b = row_more s row n k in
    record {
      rest = b.rest ++ pixel_text s row (n + k);
      is =
          ap (row_text s row) same
          ∙ ap (λ (t : List ℕ). t ++ pixel_text s row (n + k)) b.is
          ∙ append_assoc (row_text s row n) b.rest (pixel_text s row (n + k));
    }

pub row_begins : (s : Samples) (row : List ℕ) (n m : ℕ) → n ≤ m → Begins (row_text s row n) (row_text s row m)
row_begins s row n m few = let same : n + (m - n) ≡ m = omega arith in subst (λ k. Begins (row_text s row n) (row_text s row k)) same (row_more s row n (m - n))

rows_more : (s : Samples) (info : ImageInfo) (image : List ℕ) (n k : ℕ) → Begins (rows_text s info image n) (rows_text s info image (n + k))
rows_more s info image n zero = let same : n + 0 ≡ n = omega arith in
    record { rest = []; is = ap (rows_text s info image) same ∙ sym (append-nil (rows_text s info image n)) }
rows_more s info image n (suc k) =
    let same : n + suc k ≡ suc (n + k) = omega arith in
    let b = rows_more s info image n k in
    let last : List ℕ = row_text s (drop ((n + k) * row_step s info) image) info.size_x in
    record {
      rest = b.rest ++ last;
      is = ap (rows_text s info image) same ∙ ap (λ (t : List ℕ). t ++ last) b.is ∙ append_assoc (rows_text s info image n) b.rest last;
    }

pub rows_begin : (s : Samples) (info : ImageInfo) (image : List ℕ) (n m : ℕ) → n ≤ m → Begins (rows_text s info image n) (rows_text s info image m)
rows_begin s info image n m few =
    let same : n + (m - n) ≡ m = omega arith in
    subst (λ k. Begins (rows_text s info image n) (rows_text s info image k)) same (rows_more s info image n (m - n))

-- ---- answers

pub on_err : {A E : Type 0} (r : Result A E) (P : Type 0) → P → OnErr r P
on_err (Ok a) P p = tt
on_err (Err e) P p = p

-- writing failed before a row was whole
pub row_front : (w x y : Option (List ℕ)) (s : Samples) (row before held : List ℕ) (n m : ℕ) → n ≤ m
    → HoldsBack w x (before ++ row_text s row n) held → WritesFront x y held → WritesFront w y (before ++ row_text s row m)
row_front w x y s row before held n m few h f =
    let b = row_begins s row n m few in
    held_front w x y (before ++ row_text s row n) held [] (before ++ row_text s row m) b.rest h
    (subst (λ (t : List ℕ). WritesFront x y t) (sym (append-nil held)) f)
    (ap (λ (t : List ℕ). before ++ t) b.is ∙ sym (append_assoc before (row_text s row n) b.rest)
    ∙ ap (λ (t : List ℕ). t ++ b.rest) (sym (append-nil (before ++ row_text s row n))))

-- a row, and pixels behind its begin
row_parts : (s : Samples) (row : List ℕ) (n k : ℕ) → row_text s row (n + k) ≡ row_text s row n ++ pixels_text s row n k
row_parts s row n zero = let same : n + 0 ≡ n = omega arith in ap (row_text s row) same ∙ sym (append-nil (row_text s row n))
row_parts s row n (suc k) =
    let same : n + suc k ≡ suc (n + k) = omega arith in
    ap (row_text s row) same
    ∙ ap (λ (t : List ℕ). t ++ pixel_text s row (n + k)) (row_parts s row n k)
    ∙ append_assoc (row_text s row n) (pixels_text s row n k) (pixel_text s row (n + k))

-- some pixels more
row_more_held : (w x y : Option (List ℕ)) (s : Samples) (row before held held_now held_after : List ℕ) (n k m : ℕ) → m ≡ n + k
    → HoldsBack w x (before ++ row_text s row n) held → HoldsBack x y held held_now → held_after ≡ held_now ++ pixels_text s row n k
    → HoldsBack w y (before ++ row_text s row m) held_after
row_more_held w x y s row before held held_now held_after n k m sum h less is =
    let more = held_more w y (before ++ row_text s row n) held_now (pixels_text s row n k) (held_less w x y (before ++ row_text s row n) held held_now h less) in
    subst (λ (t : List ℕ). HoldsBack w y t held_after)
    (append_assoc before (row_text s row n) (pixels_text s row n k) ∙ ap (λ (t : List ℕ). before ++ t) (sym (row_parts s row n k) ∙ ap (row_text s row) (sym sum)))
    (subst (λ (t : List ℕ). HoldsBack w y ((before ++ row_text s row n) ++ pixels_text s row n k) t) (sym is) more)

-- as many as go into the piece, or as are left of the row
pub chunk_more_held : (w x y : Option (List ℕ)) (s : Samples) (row before held held_now held_after : List ℕ) (width chunk count : ℕ) → chunk * 4096 ≤ width
    → count ≡ min 4096 (width - chunk * 4096) → HoldsBack w x (before ++ row_text s row (min width (chunk * 4096))) held → HoldsBack x y held held_now
    → held_after ≡ held_now ++ pixels_text s row (chunk * 4096) count → HoldsBack w y (before ++ row_text s row (min width ((chunk + 1) * 4096))) held_after
chunk_more_held w x y s row before held held_now held_after width chunk count low few h less is =
    let at : min width (chunk * 4096) ≡ chunk * 4096 = omega (arith, low) in
    let sum : min width ((chunk + 1) * 4096) ≡ chunk * 4096 + count = omega (arith, low, few) in
    row_more_held w x y s row before held held_now held_after (chunk * 4096) count (min width ((chunk + 1) * 4096)) sum
    (subst (λ n. HoldsBack w x (before ++ row_text s row n) held) at h) less is

-- writing failed in a row
pub rows_front : (w x y : Option (List ℕ)) (s : Samples) (info : ImageInfo) (image row before held : List ℕ) (n m : ℕ) → n + 1 ≤ m
    → row ≡ drop (n * row_step s info) image
    → HoldsBack w x (before ++ rows_text s info image n) held → WritesFront x y (held ++ row_text s row info.size_x) → WritesFront w y (before ++ rows_text s info image m)
rows_front w x y s info image row before held n m few at h f =
    let b = rows_begin s info image (suc n) m (omega (arith, few)) in
    let here : List ℕ = row_text s (drop (n * row_step s info) image) info.size_x in
    held_front w x y (before ++ rows_text s info image n) held here (before ++ rows_text s info image m) b.rest h
    (subst (λ (t : List ℕ). WritesFront x y (held ++ row_text s t info.size_x)) at f)
    (ap (λ (t : List ℕ). before ++ t) b.is ∙ sym (append_assoc before (rows_text s info image n ++ here) b.rest)
    ∙ ap (λ (t : List ℕ). t ++ b.rest) (sym (append_assoc before (rows_text s info image n) here)))

-- one row more
pub rows_more_held : (w x y : Option (List ℕ)) (s : Samples) (info : ImageInfo) (image row before held held_after : List ℕ) (n : ℕ)
    → row ≡ drop (n * row_step s info) image
    → HoldsBack w x (before ++ rows_text s info image n) held → HoldsBack x y (held ++ row_text s row info.size_x) held_after
    → HoldsBack w y (before ++ rows_text s info image (n + 1)) held_after
rows_more_held w x y s info image row before held held_after n at h more =
    let same : n + 1 ≡ suc n = omega arith in
    subst (λ (t : List ℕ). HoldsBack w y t held_after)
    (append_assoc before (rows_text s info image n) (row_text s row info.size_x)
    ∙ ap (λ (t : List ℕ). before ++ (rows_text s info image n ++ row_text s t info.size_x)) at
    ∙ ap (λ i. before ++ rows_text s info image i) (sym same))
    (held_less w x y ((before ++ rows_text s info image n) ++ row_text s row info.size_x) (held ++ row_text s row info.size_x) held_after
    (held_more w x (before ++ rows_text s info image n) held (row_text s row info.size_x) h) more)

-- what lies behind a row
pub next_row : (image rest : List ℕ) (n step : ℕ) → rest ≡ drop (n * step) image → drop step rest ≡ drop ((n + 1) * step) image
next_row image rest n step at =
    let more : n * step + step ≡ (n + 1) * step = omega arith in
    ap (λ (t : List ℕ). drop step t) at ∙ drop-drop step (n * step) image ∙ ap (λ m. drop m image) more

-- writing what was still held back failed
pub last_front : {A E : Type 0} (r : Result A E) (w x y : Option (List ℕ)) (text held slice whole : List ℕ) → HoldsBack w x text held → slice ≡ held → text ≡ whole
    → OnErr r (WritesFront x y slice) → OnErr r (WritesFront w y whole)
last_front (Ok a) w x y text held slice whole h same is f = tt
last_front (Err e) w x y text held slice whole h same is f =
    held_front w x y text held [] whole [] h (subst (λ (t : List ℕ). WritesFront x y t) (same ∙ sym (append-nil held)) f)
    (sym is ∙ sym (append-nil text) ∙ sym (append-nil (text ++ [])))
