-- The first part of a text, where a search for the separator found it or didn't.
use Rattle.std.proofs.Common.{◌≡◌, ℕ, ◌+◌, ◌-◌, ◌<◌, List, [], ◌∷◌, ◌++◌, false, length, get_or, take, drop, Some, None, refl, ap, sym, ◌∙◌, arith, nat_eq, drop-cons, add-one, length-take, get_or-take, Err, inl, inr}
use Rattle.std.proofs.lemmas.Bool.{false_from_ne_true, cases_Bool}
use Rattle.std.proofs.lemmas.List.{take-append-drop, take_rest}
use Rattle.std.proofs.lemmas.List.Elements.{All-from_get_or}
use Rattle.std.proofs.lemmas.List.Splits.{slice_split_at, slice_split_none, slice_split-cons_yes, slice_split-cons_no}
use Rattle.std.specs.List.{All, onto_first}
use Rattle.memchr.specs.Find.{IsFirstByte, is_byte}
use Rattle.gev_script.specs.declared.kind.ScriptKind.TheVariants.{Word}
use Rattle.gev_script.specs.Words.{parts_of, none_left}

-- a list has a first element
pub record HasFirst (parts : List (List ℕ)) : Type 0 where
  pub first : List ℕ
  pub others : List (List ℕ)
  pub is : parts ≡ first ∷ others

has_first_onto : (x : ℕ) (parts : List (List ℕ)) → HasFirst (onto_first x parts)
has_first_onto x [] = record { first = x ∷ []; others = []; is = refl }
has_first_onto x (part ∷ parts) = record { first = x ∷ part; others = parts; is = refl }

-- there is always a first part
pub parts_first : (c : ℕ) (text : List ℕ) → HasFirst (parts_of c text)
parts_first c [] = record { first = []; others = []; is = refl }
parts_first c (x ∷ xs) =
    elim (cases_Bool (nat_eq x c)) [
      | inl found ↦ record { first = []; others = parts_of c xs; is = slice_split-cons_yes (λ b. nat_eq b c) x xs found }
      | inr other ↦
          let rest = has_first_onto x (parts_of c xs) in
          record { first = rest.first; others = rest.others; is = slice_split-cons_no (λ b. nat_eq b c) x xs other ∙ rest.is }
    ]

pub none_left-parts : (c : ℕ) (text : List ℕ) → none_left (parts_of c text) ≡ Err Word
none_left-parts c text = ap none_left (parts_first c text).is

pub parts_none : (c : ℕ) (text : List ℕ) → IsFirstByte (is_byte c) text None → parts_of c text ≡ text ∷ []
parts_none c text h =
    slice_split_none (λ b. nat_eq b c) text
    (All-from_get_or (λ b. nat_eq b c ≡ false) text 0 (λ i lt. false_from_ne_true _ (h i (omega arith) lt)))

before_first : (c k : ℕ) (text : List ℕ) → IsFirstByte (is_byte c) text (Some k) → All (λ b. nat_eq b c ≡ false) (take k text)
before_first c k text h =
    All-from_get_or (λ b. nat_eq b c ≡ false) (take k text) 0
    (λ i lt.
    let below : i < k = omega (arith, length-take k text) in
    let same : get_or (take k text) i 0 ≡ get_or text i 0 = get_or-take k text i 0 below in
    rw same (false_from_ne_true _ (h.0.before i (omega arith) below)))

pub cut_at : (k : ℕ) (text : List ℕ) → k < length text → text ≡ take k text ++ get_or text k 0 ∷ drop (k + 1) text
cut_at k text lt = sym (take-append-drop k text) ∙ ap (λ t. take k text ++ t) (rw (add-one, drop-cons text k 0))

pub parts_found : (c k : ℕ) (text : List ℕ) → IsFirstByte (is_byte c) text (Some k)
    → parts_of c text ≡ take k text ∷ parts_of c (take (length text - (k + 1)) (drop (k + 1) text))
parts_found c k text h =
    ap (parts_of c) (cut_at k text h.0.high)
    ∙ slice_split_at (λ b. nat_eq b c) (take k text) (get_or text k 0) (drop (k + 1) text) (before_first c k text h) h.1
    ∙ ap (λ t. take k text ∷ parts_of c t) (sym (take_rest text (k + 1)))
