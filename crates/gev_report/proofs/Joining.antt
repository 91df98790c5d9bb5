-- Words and spans that are joined by commas.
use Rattle.std.proofs.Common.{◌≡◌, ℕ, ◌≤◌, List, [], ◌∷◌, ◌++◌, length, map, take, Bool, true, false, refl, ap, ◌∙◌}
use Rattle.std.specs.Prelude.{◌&&◌, ◌||◌, not, codes, if◌then◌else◌}
use Rattle.std.specs.List.{flat_map}
use Rattle.std.proofs.lemmas.List.{take_all}
use Rattle.gev_types.specs.declared.reasons.Reasons.{Reasons}
use Rattle.gev_types.specs.Reasons.{has_reason}
use Rattle.gev_report.specs.declared.piece.Piece.{Piece}
use Rattle.gev_report.specs.Pieces.{piece_text}
use Rattle.gev_report.specs.AccountTexts.{behind_commas, span_text, why_text}

-- a span behind a comma
abbrev pub comma_span : ℕ × ℕ → List ℕ
comma_span r = codes "," ++ span_text r

pub commas_are : (rs : List (ℕ × ℕ)) → flat_map comma_span rs ≡ behind_commas (map span_text rs)
commas_are [] = refl
commas_are (r ∷ rs) = ap (λ l. codes "," ++ (span_text r ++ l)) (commas_are rs)

pub all_behind : (start now : List ℕ) (rs : List (ℕ × ℕ)) (i : ℕ) → length rs ≤ i → now ≡ start ++ flat_map comma_span (take i rs) → now ≡ start ++ behind_commas (map span_text rs)
all_behind start now rs i done is =
    is ∙ ap (λ l. start ++ flat_map comma_span l) (take_all i rs done) ∙ ap (λ l. start ++ l) (commas_are rs)

-- ---- reasons

abbrev text_if : Bool → List ℕ → List ℕ
text_if holds text = if holds then text else []

-- each word behind a comma where one stands before it, and `-` where there is none
abbrev words_of : Bool → Bool → Bool → Bool → Bool → List ℕ
words_of a b c d e =
    text_if a (codes "leader") ++ (text_if (a && b) (codes ",") ++ (text_if b (codes "small") ++ (text_if ((a || b) && c) (codes ",") ++ (text_if c (codes "trailer")
    ++ (text_if (((a || b) || c) && d) (codes ",") ++ (text_if d (codes "payloads") ++ (text_if ((((a || b) || c) || d) && e) (codes ",") ++ (text_if e (codes "short")
    ++ (text_if (not (has_reason (record { no_leader = a; small = b; no_trailer = c; no_payload = d; short = e }))) (codes "-") ++ [])))))))))

words_are : (a b c d e : Bool) → words_of a b c d e ≡ why_text (record { no_leader = a; small = b; no_trailer = c; no_payload = d; short = e })
words_are true true true true true = refl
words_are true true true true false = refl
words_are true true true false true = refl
words_are true true true false false = refl
words_are true true false true true = refl
words_are true true false true false = refl
words_are true true false false true = refl
words_are true true false false false = refl
words_are true false true true true = refl
words_are true false true true false = refl
words_are true false true false true = refl
words_are true false true false false = refl
words_are true false false true true = refl
words_are true false false true false = refl
words_are true false false false true = refl
words_are true false false false false = refl
words_are false true true true true = refl
words_are false true true true false = refl
words_are false true true false true = refl
words_are false true true false false = refl
words_are false true false true true = refl
words_are false true false true false = refl
words_are false true false false true = refl
words_are false true false false false = refl
words_are false false true true true = refl
words_are false false true true false = refl
words_are false false true false true = refl
words_are false false true false false = refl
words_are false false false true true = refl
words_are false false false true false = refl
words_are false false false false true = refl
words_are false false false false false = refl

pub why_is : (r : Reasons) (two three four any : Bool) (p q s t u v w x y z : Piece) → two ≡ (r.no_leader || r.small) → three ≡ (two || r.no_trailer) → four ≡ (three || r.no_payload) → any ≡ has_reason r
    → piece_text p ≡ text_if r.no_leader (codes "leader") → piece_text q ≡ text_if (r.no_leader && r.small) (codes ",") → piece_text s ≡ text_if r.small (codes "small")
    → piece_text t ≡ text_if (two && r.no_trailer) (codes ",") → piece_text u ≡ text_if r.no_trailer (codes "trailer") → piece_text v ≡ text_if (three && r.no_payload) (codes ",")
    → piece_text w ≡ text_if r.no_payload (codes "payloads") → piece_text x ≡ text_if (four && r.short) (codes ",") → piece_text y ≡ text_if r.short (codes "short")
    → piece_text z ≡ text_if (not any) (codes "-") → flat_map piece_text (p ∷ q ∷ s ∷ t ∷ u ∷ v ∷ w ∷ x ∷ y ∷ z ∷ []) ≡ why_text r
why_is r two three four any p q s t u v w x y z is_two is_three is_four is_any ep eq es et eu ev ew ex ey ez =
    rw (ep, eq, es, et, eu, ev, ew, ex, ey, ez, is_any, is_four, is_three, is_two) (words_are r.no_leader r.small r.no_trailer r.no_payload r.short)
