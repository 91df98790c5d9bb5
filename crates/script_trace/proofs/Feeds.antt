-- Texts without a line feed, and lines of them.
use Rattle.std.proofs.Common.{◌≡◌, ℕ, zero, suc, ◌+◌, ◌/◌, ◌%◌, ◌≤◌, List, [], ◌∷◌, ◌++◌, Bool, true, false, refl, sym, ap, ◌∙◌, append_assoc, arith}
use Rattle.std.specs.Prelude.{◌==◌, ◌&&◌, not, nat_lt, ℤ, pos, negsuc, codes, slice_index, slice_index_or, if◌then◌else◌}
use Rattle.std.specs.List.{AllByRecursion, concat, filter}
use Rattle.std.specs.Fmt.{digit_glyph, digits_onto, digits, decimal, signed_decimal}
use Rattle.std.proofs.lemmas.Bool.{and_from, and_parts, ne_eqb}
use Rattle.hex.specs.Hex.{lower_digits, encode_with, encode_lower}
use Rattle.script_runs.specs.Runs.{lines_text}
use Rattle.script_trace.specs.NoteLines.{lacks_feed, is_note_line, LeavesOut}

pub lacks_both : (xs ys : List ℕ) → lacks_feed xs ≡ true → lacks_feed ys ≡ true → lacks_feed (xs ++ ys) ≡ true
lacks_both [] ys a b = b
lacks_both (x ∷ xs) ys a b =
    let parts = and_parts (not (x == 10)) (lacks_feed xs) a in and_from (not (x == 10)) (lacks_feed (xs ++ ys)) parts.0 (lacks_both xs ys parts.1 b)

-- each of these pieces lacks one
abbrev pub AllLack : List (List ℕ) → Type 0
AllLack ps = AllByRecursion (λ p. lacks_feed p ≡ true) ps

pub pieces_lack : (ps : List (List ℕ)) → AllLack ps → lacks_feed (concat ps) ≡ true
pieces_lack [] all = refl
pieces_lack (p ∷ ps) all = lacks_both p (concat ps) all.0 (pieces_lack ps all.1)

-- ---- numbers

not_feed : (n : ℕ) → 11 ≤ n → not (n == 10) ≡ true
not_feed n more = ap not (ne_eqb n 10 (λ e. omega arith))

glyph_is : (d : ℕ) (v : Bool) → 11 ≤ (if v then 48 + d else 87 + d)
glyph_is d true = omega arith
glyph_is d false = omega arith

onto_lacks : (k base n : ℕ) (acc : List ℕ) → lacks_feed acc ≡ true → lacks_feed (digits_onto k base false n acc) ≡ true
onto_lacks zero base n acc h = h
onto_lacks (suc k) base n acc h = step (n / base == 0) (onto_lacks k base (n / base) (digit_glyph false (n % base) ∷ acc) more) where
  more : lacks_feed (digit_glyph false (n % base) ∷ acc) ≡ true
  more = and_from (not (digit_glyph false (n % base) == 10)) (lacks_feed acc) (not_feed (digit_glyph false (n % base)) (glyph_is (n % base) (nat_lt (n % base) 10))) h

  step : (v : Bool) → lacks_feed (digits_onto k base false (n / base) (digit_glyph false (n % base) ∷ acc)) ≡ true
      → lacks_feed (if v then digit_glyph false (n % base) ∷ acc else digits_onto k base false (n / base) (digit_glyph false (n % base) ∷ acc)) ≡ true
  step true later = more
  step false later = later

pub decimal_lacks : (n : ℕ) → lacks_feed (decimal n) ≡ true
unfolding digits
decimal_lacks n = onto_lacks 64 10 n [] refl

pub signed_lacks : (z : ℤ) → lacks_feed (signed_decimal z) ≡ true
signed_lacks (pos n) = decimal_lacks n
signed_lacks (negsuc n) = decimal_lacks (suc n)

-- a place of a text without a feed, and 0 past its end
place_lacks : (xs : List ℕ) (i : ℕ) → lacks_feed xs ≡ true → not (slice_index_or xs i 0 == 10) ≡ true
place_lacks [] i h = refl
place_lacks (x ∷ xs) zero h = (and_parts (not (x == 10)) (lacks_feed xs) h).0
place_lacks (x ∷ xs) (suc i) h = place_lacks xs i (and_parts (not (x == 10)) (lacks_feed xs) h).1

pub hex_lacks : (bytes : List ℕ) → lacks_feed (encode_lower bytes) ≡ true
unfolding encode_with
hex_lacks [] = refl
hex_lacks (b ∷ bytes) =
    and_from (not (slice_index lower_digits (b / 16) == 10)) (not (slice_index lower_digits (b % 16) == 10) && lacks_feed (encode_lower bytes)) (place_lacks lower_digits (b / 16) refl)
    (and_from (not (slice_index lower_digits (b % 16) == 10)) (lacks_feed (encode_lower bytes)) (place_lacks lower_digits (b % 16) refl) (hex_lacks bytes))

-- ---- lines

abbrev feed : List ℕ
feed = codes "\n"

append_nil : (xs : List ℕ) → xs ++ [] ≡ xs
append_nil [] = refl
append_nil (x ∷ xs) = ap (λ l. x ∷ l) (append_nil xs)

-- pieces, and a feed behind them
pub with_feed : (ps : List (List ℕ)) → concat (ps ++ feed ∷ []) ≡ concat ps ++ feed
with_feed [] = refl
with_feed (p ∷ ps) = ap (λ l. p ++ l) (with_feed ps) ∙ sym (append_assoc p (concat ps) feed)

pub text_joined : (xs ys : List (List ℕ)) → lines_text (xs ++ ys) ≡ lines_text xs ++ lines_text ys
text_joined [] ys = refl
text_joined (x ∷ xs) ys = ap (λ l. x ++ 10 ∷ l) (text_joined xs ys) ∙ sym (append_assoc x (10 ∷ lines_text xs) (lines_text ys))

-- The text is lines without a feed, that are all notes, or none is one.
pub record AreLines (note : Bool) (text : List ℕ) : Type 0 where
  pub lines : List (List ℕ)
  pub are : text ≡ lines_text lines
  pub whole : AllByRecursion (λ l. lacks_feed l ≡ true) lines
  pub kind : AllByRecursion (λ l. is_note_line l ≡ note) lines

pub no_line : (note : Bool) → AreLines note []
no_line note = record { lines = []; are = refl; whole = tt; kind = tt }

pub one_line : (note : Bool) (ps : List (List ℕ)) → AllLack ps → is_note_line (concat ps) ≡ note → AreLines note (concat (ps ++ feed ∷ []))
one_line note ps all kind = record { lines = concat ps ∷ []; are = with_feed ps; whole = (pieces_lack ps all, tt); kind = (kind, tt) }

all_both : {X : Type 0} (P : X → Type 0) (xs ys : List X) → AllByRecursion P xs → AllByRecursion P ys → AllByRecursion P (xs ++ ys)
all_both P [] ys a b = b
all_both P (x ∷ xs) ys a b = (a.0, all_both P xs ys a.1 b)

pub lines_both : (note : Bool) (xs ys : List ℕ) → AreLines note xs → AreLines note ys → AreLines note (xs ++ ys)
lines_both note xs ys a b = record {
  lines = a.lines ++ b.lines;
  are = ap (λ l. l ++ ys) a.are ∙ ap (λ l. lines_text a.lines ++ l) b.are ∙ sym (text_joined a.lines b.lines);
  whole = all_both (λ l. lacks_feed l ≡ true) a.lines b.lines a.whole b.whole;
  kind = all_both (λ l. is_note_line l ≡ note) a.lines b.lines a.kind b.kind;
}

-- ---- what is left out

abbrev stays : List ℕ → Bool
stays l = not (is_note_line l)

none_stays : (ls : List (List ℕ)) → AllByRecursion (λ l. is_note_line l ≡ true) ls → filter stays ls ≡ []
none_stays [] all = refl
none_stays (l ∷ ls) all = rw all.0 (none_stays ls all.1)

all_stay : (ls : List (List ℕ)) → AllByRecursion (λ l. is_note_line l ≡ false) ls → filter stays ls ≡ ls
all_stay [] all = refl
all_stay (l ∷ ls) all = rw all.0 (ap (λ k. l ∷ k) (all_stay ls all.1))

filter_both : (xs ys : List (List ℕ)) → filter stays (xs ++ ys) ≡ filter stays xs ++ filter stays ys
filter_both [] ys = refl
filter_both (x ∷ xs) ys = go (stays x) (filter_both xs ys) where
  go : (v : Bool) → filter stays (xs ++ ys) ≡ filter stays xs ++ filter stays ys
      → (if v then x ∷ filter stays (xs ++ ys) else filter stays (xs ++ ys)) ≡ (if v then x ∷ filter stays xs else filter stays xs) ++ filter stays ys
  go true e = ap (λ l. x ∷ l) e
  go false e = e

-- notes, and then a report
pub leaves_notes : (notes report : List ℕ) → AreLines true notes → AreLines false report → LeavesOut (notes ++ report) report
leaves_notes notes report a b = record {
  lines = a.lines ++ b.lines;
  are = ap (λ l. l ++ report) a.are ∙ ap (λ l. lines_text a.lines ++ l) b.are ∙ sym (text_joined a.lines b.lines);
  whole = all_both (λ l. lacks_feed l ≡ true) a.lines b.lines a.whole b.whole;
  rest = b.are ∙ sym (ap lines_text (filter_both a.lines b.lines ∙ ap (λ l. l ++ filter stays b.lines) (none_stays a.lines a.kind) ∙ all_stay b.lines b.kind));
}

pub leaves_both : (a b s t : List ℕ) → LeavesOut a s → LeavesOut b t → LeavesOut (a ++ b) (s ++ t)
leaves_both a b s t x y = record {
  lines = x.lines ++ y.lines;
  are = ap (λ l. l ++ b) x.are ∙ ap (λ l. lines_text x.lines ++ l) y.are ∙ sym (text_joined x.lines y.lines);
  whole = all_both (λ l. lacks_feed l ≡ true) x.lines y.lines x.whole y.whole;
  rest = ap (λ l. l ++ t) x.rest ∙ ap (λ l. lines_text (filter stays x.lines) ++ l) y.rest
      ∙ sym (ap lines_text (filter_both x.lines y.lines) ∙ text_joined (filter stays x.lines) (filter stays y.lines));
}
