-- Two texts of whole lines that are the same but for lines of requests.
use Rattle.std.proofs.Common.{◌≡◌, ℕ, true, false, Bool, List, [], ◌∷◌, ◌++◌, refl, sym, ap, ◌∙◌}
use Rattle.std.specs.Prelude.{◌==◌, not, codes, All, if◌then◌else◌}
use Rattle.std.specs.List.{AllByRecursion, concat, filter}
use Rattle.std.proofs.lemmas.Bool.{and_parts}
use Rattle.std.proofs.lemmas.List.Elements.{All-nil, All-cons}
use Rattle.std.proofs.lemmas.List.Splits.{slice_split_at}
use Rattle.hex.specs.Hex.{encode_lower}
use Rattle.gev_report.specs.ReplayLines.{request_line}
use Rattle.gev_script.specs.Words.{parts_of}
use Rattle.script_runs.specs.Runs.{lines_text}
use Rattle.acquisition_machine.specs.Machine.{Request, request_bytes}
use Rattle.script_trace.specs.StreamLines.{requests_text}
use Rattle.script_trace.specs.Wide.{standard_form, standard_text}
use Rattle.script_trace.specs.NoteLines.{lacks_feed}
use Rattle.script_trace.proofs.Feeds.{AreLines, pieces_lack, hex_lacks, with_feed, text_joined}
use Rattle.script_trace.specs.Narrowing.{is_request_line, other_lines}

abbrev Whole : List (List ℕ) → Type 0
Whole ls = AllByRecursion (λ l. lacks_feed l ≡ true) ls

abbrev others : List (List ℕ) → List (List ℕ)
others ls = filter (λ line. not (is_request_line line)) ls

-- both are lines, and the others among them are the same
pub record Alike (text text_also : List ℕ) : Type 0 where
  pub lines : List (List ℕ)
  pub lines_also : List (List ℕ)
  pub are : text ≡ lines_text lines
  pub are_also : text_also ≡ lines_text lines_also
  pub whole : Whole lines
  pub whole_also : Whole lines_also
  pub same : others lines ≡ others lines_also

pub alike_none : Alike [] []
alike_none = record { lines = []; lines_also = []; are = refl; are_also = refl; whole = tt; whole_also = tt; same = refl }

-- one text of whole lines
pub alike_same : (text : List ℕ) → AreLines false text → Alike text text
alike_same text a = record { lines = a.lines; lines_also = a.lines; are = a.are; are_also = a.are; whole = a.whole; whole_also = a.whole; same = refl }

whole_both : (xs ys : List (List ℕ)) → Whole xs → Whole ys → Whole (xs ++ ys)
whole_both [] ys a b = b
whole_both (x ∷ xs) ys a b = (a.0, whole_both xs ys a.1 b)

others_both : (xs ys : List (List ℕ)) → others (xs ++ ys) ≡ others xs ++ others ys
others_both [] ys = refl
others_both (x ∷ xs) ys = go (not (is_request_line x)) (others_both xs ys) where
  go : (v : Bool) → others (xs ++ ys) ≡ others xs ++ others ys
      → (if v then x ∷ others (xs ++ ys) else others (xs ++ ys)) ≡ (if v then x ∷ others xs else others xs) ++ others ys
  go true e = ap (λ l. x ∷ l) e
  go false e = e

joined : (xs ys : List (List ℕ)) (a b : List ℕ) → a ≡ lines_text xs → b ≡ lines_text ys → a ++ b ≡ lines_text (xs ++ ys)
joined xs ys a b e f = ap (λ l. l ++ b) e ∙ (ap (λ l. lines_text xs ++ l) f ∙ sym (text_joined xs ys))

pub alike_both : (a b s t : List ℕ) → Alike a s → Alike b t → Alike (a ++ b) (s ++ t)
alike_both a b s t x y = record {
  lines = x.lines ++ y.lines;
  lines_also = x.lines_also ++ y.lines_also;
  are = joined x.lines y.lines a b x.are y.are;
  are_also = joined x.lines_also y.lines_also s t x.are_also y.are_also;
  whole = whole_both x.lines y.lines x.whole y.whole;
  whole_also = whole_both x.lines_also y.lines_also x.whole_also y.whole_also;
  same = others_both x.lines y.lines ∙ (ap (λ l. l ++ others y.lines) x.same ∙ (ap (λ l. others x.lines_also ++ l) y.same ∙ sym (others_both x.lines_also y.lines_also)));
}

-- ---- requests

-- one request's line without its line feed
abbrev line_without : List ℕ → List ℕ
line_without bytes = concat (codes "request " ∷ encode_lower bytes ∷ [])

one_alike : (bytes bytes_also : List ℕ) → Alike (request_line bytes) (request_line bytes_also)
one_alike bytes bytes_also = record {
  lines = line_without bytes ∷ [];
  lines_also = line_without bytes_also ∷ [];
  are = with_feed (codes "request " ∷ encode_lower bytes ∷ []);
  are_also = with_feed (codes "request " ∷ encode_lower bytes_also ∷ []);
  whole = (pieces_lack (codes "request " ∷ encode_lower bytes ∷ []) (refl, (hex_lacks bytes, tt)), tt);
  whole_also = (pieces_lack (codes "request " ∷ encode_lower bytes_also ∷ []) (refl, (hex_lacks bytes_also, tt)), tt);
  same = refl;
}

-- the requests of a moment, in the extended form and in the standard one
pub requests_alike : (rs : List Request) → Alike (requests_text rs) (standard_text rs)
requests_alike [] = alike_none
requests_alike (r ∷ rs) =
    alike_both (request_line (request_bytes r)) (requests_text rs) (request_line (standard_form (request_bytes r))) (standard_text rs)
    (one_alike (request_bytes r) (standard_form (request_bytes r))) (requests_alike rs)

-- ---- the other lines

no_feed : (l : List ℕ) → lacks_feed l ≡ true → All (λ b. (b == 10) ≡ false) l
no_feed [] h = All-nil (λ b. (b == 10) ≡ false)
no_feed (b ∷ bs) h =
    let parts = and_parts (not (b == 10)) (lacks_feed bs) h in
    All-cons (λ c. (c == 10) ≡ false) b bs (is_false (b == 10) parts.0) (no_feed bs parts.1)
  where
    is_false : (v : Bool) → not v ≡ true → v ≡ false
    is_false true e = absurd cc
    is_false false e = refl

parts_text : (ls : List (List ℕ)) → Whole ls → parts_of 10 (lines_text ls) ≡ ls ++ [] ∷ []
parts_text [] all = refl
parts_text (l ∷ ls) all =
    slice_split_at (λ b. b == 10) l 10 (lines_text ls) (no_feed l all.0) refl ∙ ap (λ ps. l ∷ ps) (parts_text ls all.1)

others_text : (text : List ℕ) (ls : List (List ℕ)) → text ≡ lines_text ls → Whole ls → other_lines text ≡ others ls ++ others ([] ∷ [])
others_text text ls are all = ap other_lines are ∙ (ap others (parts_text ls all) ∙ others_both ls ([] ∷ []))

pub alike_others : (text text_also : List ℕ) → Alike text text_also → other_lines text ≡ other_lines text_also
alike_others text text_also a =
    others_text text a.lines a.are a.whole
    ∙ (ap (λ l. l ++ others ([] ∷ [])) a.same ∙ sym (others_text text_also a.lines_also a.are_also a.whole_also))
