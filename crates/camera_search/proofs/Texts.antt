-- What was written, text after text.
use Rattle.std.proofs.Common.{◌≢◌, ℕ, List, [], ◌∷◌, ◌++◌, Option, Some, None, refl, ap, sym, subst, ◌∙◌, append_assoc}
use Rattle.std.proofs.lemmas.List.{append-nil}
use Rattle.gev_links.specs.Told.{Appends, WritesFront, WritesPart}

pub wrote_none : (w : Option (List ℕ)) → Appends w w []
wrote_none None = refl
wrote_none (Some w) = ap (λ l. Some l) (sym (append-nil w))

pub wrote_then : (w x y : Option (List ℕ)) (xs ys : List ℕ) → Appends w x xs → Appends x y ys → Appends w y (xs ++ ys)
wrote_then None x y xs ys first second = subst (λ v. Appends v y ys) first second
wrote_then (Some w) x y xs ys first second =
    let last : Appends (Some (w ++ xs)) y ys = subst (λ v. Appends v y ys) first second in
    last ∙ ap (λ t. Some t) (append_assoc w xs ys)

-- a whole text is a front of itself and what follows it
pub whole_front : (w x : Option (List ℕ)) (text rest : List ℕ) → Appends w x text → WritesFront w x (text ++ rest)
whole_front w x text rest whole = record { front = text; rest = rest; parts = refl; appended = whole }

ends_non_empty : (xs ys : List ℕ) → xs ≢ [] → xs ++ ys ≢ []
ends_non_empty [] ys some = absurd (some refl)
ends_non_empty (x ∷ xs) ys some = λ none. let bad : ⊥ = cc in bad

-- a text, and then a part of another one
pub part_then : (w x y : Option (List ℕ)) (text more rest : List ℕ) → Appends w x text → WritesPart x y more → WritesPart w y (text ++ (more ++ rest))
part_then w x y text more rest whole part = record {
  front = text ++ part.front;
  rest = part.rest ++ rest;
  parts =
      ap (λ (l : List ℕ). text ++ (l ++ rest)) part.parts
      ∙ (ap (λ (l : List ℕ). text ++ l) (append_assoc part.front part.rest rest) ∙ sym (append_assoc text part.front (part.rest ++ rest)));
  some_left = ends_non_empty part.rest rest part.some_left;
  appended = wrote_then w x y text part.front whole part.appended;
}
