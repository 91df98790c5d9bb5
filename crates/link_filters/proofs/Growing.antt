-- One more answer of a stream with standard identifiers: what is heard, what is kept, what is counted.
use Rattle.std.proofs.Common.{◌≡◌, ℕ, ◌+◌, ◌-◌, ◌^◌, ◌≤◌, List, [], ◌∷◌, ◌++◌, length, take, drop, Option, Some, None, refl, ap, sym, subst, ◌∙◌, arith, append_assoc, length-append, option_map}
use Rattle.std.specs.Prelude.{min}
use Rattle.std.proofs.lemmas.List.{take-append-drop, take-append-le, drop-append-le}
use Rattle.gev_links.specs.Links.{Answer}
use Rattle.gev_links.specs.Moments.{Tells}
use Rattle.link_filters.specs.Wide.{wide_answer, next_top, refusals, wide_answers, last_top, count_refused, heard_wide, KeepsWide}

pub wide_push : (top : ℕ) (xs : List Answer) (a : Answer) → wide_answers top (xs ++ a ∷ []) ≡ wide_answers top xs ++ wide_answer (last_top top xs) a ∷ []
wide_push top [] a = refl
wide_push top (b ∷ xs) a = ap (λ l. wide_answer top b ∷ l) (wide_push (next_top top b) xs a)

pub top_push : (top : ℕ) (xs : List Answer) (a : Answer) → last_top top (xs ++ a ∷ []) ≡ next_top (last_top top xs) a
top_push top [] a = refl
top_push top (b ∷ xs) a = top_push (next_top top b) xs a

pub refused_push : (top : ℕ) (xs : List Answer) (a : Answer) → count_refused top (xs ++ a ∷ []) ≡ count_refused top xs + refusals (last_top top xs) a
refused_push top [] a = omega arith
refused_push top (b ∷ xs) a = omega (arith, refused_push (next_top top b) xs a)

length-wide : (top : ℕ) (xs : List Answer) → length (wide_answers top xs) ≡ length xs
length-wide top [] = refl
length-wide top (b ∷ xs) = omega (arith, length-wide (next_top top b) xs)

length-heard : (before : ℕ) (xs : List Answer) → length (heard_wide before xs) ≡ length xs
length-heard before xs =
    omega (
      arith,
      length-append (take before xs) (wide_answers 0 (drop before xs)),
      length-wide 0 (drop before xs),
      length-append (take before xs) (drop before xs),
      ap length (take-append-drop before xs),
    )

-- one more answer, where widening began behind the first so many
heard_push : (before : ℕ) (xs : List Answer) (a : Answer) → before ≤ length xs
    → heard_wide before (xs ++ a ∷ []) ≡ heard_wide before xs ++ wide_answer (last_top 0 (drop before xs)) a ∷ []
heard_push before xs a begun =
    ap (λ l. l ++ wide_answers 0 (drop before (xs ++ a ∷ []))) (take-append-le before xs (a ∷ []) begun)
    ∙ (ap (λ l. take before xs ++ wide_answers 0 l) (drop-append-le before xs (a ∷ []) begun)
    ∙ (ap (λ l. take before xs ++ l) (wide_push 0 (drop before xs) a)
    ∙ sym (append_assoc (take before xs) (wide_answers 0 (drop before xs)) (wide_answer (last_top 0 (drop before xs)) a ∷ []))))

-- what is told of it is what is heard of it
told_wide : (before top refused : ℕ) (old new : Option (List Answer)) (a told : Answer) → Tells old new a → KeepsWide before top refused old
    → told ≡ wide_answer top a → Tells (option_map (heard_wide before) old) (option_map (heard_wide before) new) told
told_wide before top refused None None a told was kept is = tt
told_wide before top refused None (Some new) a told was kept is = absurd was
told_wide before top refused (Some old) None a told was kept is = length-heard before old ∙ was
told_wide before top refused (Some old) (Some new) a told was kept is =
    let same : wide_answer (last_top 0 (drop before old)) a ≡ told = ap (λ (n : ℕ). wide_answer n a) (sym kept.greatest) ∙ sym is in
    ap (heard_wide before) was ∙ (heard_push before old a kept.begun ∙ ap (λ (x : Answer). heard_wide before old ++ x ∷ []) same)

-- so it is where the answers before it are told by an equation
pub told_on : (before top refused : ℕ) (also old new : Option (List Answer)) (a told : Answer) → also ≡ old → Tells old new a
    → KeepsWide before top refused old → told ≡ wide_answer top a
    → Tells (option_map (heard_wide before) also) (option_map (heard_wide before) new) told
told_on before top refused also old new a told same was kept is =
    subst (λ (v : Option (List Answer)). Tells (option_map (heard_wide before) v) (option_map (heard_wide before) new) told) (sym same)
    (told_wide before top refused old new a told was kept is)

-- and what is kept is kept on
pub keeps_wide : (before top refused more next : ℕ) (old new : Option (List Answer)) (a : Answer) → Tells old new a
    → KeepsWide before top refused old → next ≡ next_top top a → more ≡ min (refused + refusals top a) (2 ^ 64 - 1)
    → KeepsWide before next more new
keeps_wide before top refused more next None None a was kept is sum = tt
keeps_wide before top refused more next None (Some new) a was kept is sum = absurd was
keeps_wide before top refused more next (Some old) None a was kept is sum = tt
keeps_wide before top refused more next (Some old) (Some new) a was kept is sum =
    let rest : drop before new ≡ drop before old ++ a ∷ [] = ap (drop before) was ∙ drop-append-le before old (a ∷ []) kept.begun in
    record {
      begun = omega (arith, kept.begun, ap length was, length-append old (a ∷ []));
      greatest = is ∙ (ap (λ (n : ℕ). next_top n a) kept.greatest ∙ (sym (top_push 0 (drop before old) a) ∙ ap (last_top 0) (sym rest)));
      counted =
          let here : refusals top a ≡ refusals (last_top 0 (drop before old)) a = ap (λ (n : ℕ). refusals n a) kept.greatest in
          omega (arith, sum, kept.counted, here, refused_push 0 (drop before old) a, ap (count_refused 0) rest);
    }
