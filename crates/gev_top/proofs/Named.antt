-- The first word names what is asked for.
use Rattle.std.proofs.Common.{◌≡◌, ℕ, ◌≤◌, List, [], ◌∷◌, length, get_or, map, ap, ◌∙◌, arith}
use Rattle.gev_top.specs.declared.errand.Errand.{Errand}
use Rattle.gev_top.specs.Usage.{Said}
use Rattle.gev_top.specs.LiveWords.{errand_named, errand_of}

pub named_first : {S : Type 0} (words : List S) (f : S → List ℕ) (first : S) (name : List ℕ) (said : Said Errand) → 1 ≤ length words
    → first ≡ get_or words 0 first → name ≡ f first → said ≡ errand_named name (map f words) → said ≡ errand_of (map f words)
named_first [] f first name said some is same found = absurd (omega (arith, some))
named_first (w ∷ words) f first name said some is same found = found ∙ ap (λ (n : List ℕ). errand_named n (f w ∷ map f words)) (same ∙ ap f is)
