-- One more answer, of which a filter that began behind the first so many tells what it hears.
use Rattle.std.proofs.Common.{◌≡◌, ℕ, ◌≤◌, List, [], ◌∷◌, ◌++◌, length, take, drop, map, Option, Some, None, ap, sym, ◌∙◌, append_assoc, length-append, arith, option_map}
use Rattle.std.proofs.lemmas.List.{take-append-drop, take-append-le, drop-append-le, map-append, length-map}
use Rattle.gev_links.specs.Links.{Answer}
use Rattle.gev_links.specs.Moments.{Tells}
use Rattle.link_filters.specs.Reads.{heard_since, HasToldSome}

pub length_since : (before : ℕ) (filter : Answer → Answer) (xs : List Answer) → length (heard_since before filter xs) ≡ length xs
length_since before filter xs =
    omega (
      arith,
      length-append (take before xs) (map filter (drop before xs)),
      length-map (drop before xs) filter,
      length-append (take before xs) (drop before xs),
      ap length (take-append-drop before xs),
    )

since_push : (before : ℕ) (filter : Answer → Answer) (xs : List Answer) (a : Answer) → before ≤ length xs
    → heard_since before filter (xs ++ a ∷ []) ≡ heard_since before filter xs ++ filter a ∷ []
since_push before filter xs a begun =
    ap (λ (l : List Answer). l ++ map filter (drop before (xs ++ a ∷ []))) (take-append-le before xs (a ∷ []) begun)
    ∙ (ap (λ (l : List Answer). take before xs ++ map filter l) (drop-append-le before xs (a ∷ []) begun)
    ∙ (ap (λ (l : List Answer). take before xs ++ l) (map-append filter (drop before xs) (a ∷ []))
    ∙ sym (append_assoc (take before xs) (map filter (drop before xs)) (filter a ∷ []))))

pub told_since : (before : ℕ) (filter : Answer → Answer) (old new : Option (List Answer)) (a told : Answer) → Tells old new a → HasToldSome before old
    → told ≡ filter a → Tells (option_map (heard_since before filter) old) (option_map (heard_since before filter) new) told
told_since before filter None None a told was some is = tt
told_since before filter None (Some new) a told was some is = absurd was
told_since before filter (Some old) None a told was some is = length_since before filter old ∙ was
told_since before filter (Some old) (Some new) a told was some is =
    ap (heard_since before filter) was
    ∙ (since_push before filter old a some ∙ ap (λ (x : Answer). heard_since before filter old ++ x ∷ []) (sym is))

-- and more is told then
pub told_some : (before : ℕ) (old new : Option (List Answer)) (a : Answer) → Tells old new a → HasToldSome before old → HasToldSome before new
told_some before None None a was some = tt
told_some before None (Some new) a was some = absurd was
told_some before (Some old) None a was some = tt
told_some before (Some old) (Some new) a was some = omega (arith, some, ap length was, length-append old (a ∷ []))
