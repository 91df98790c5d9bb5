-- A link, or a clock, that came back.
use Rattle.std.proofs.Common.{◌≡◌, List, Option, sym, subst}
use Rattle.gev_links.specs.Given.{ToldOfThree}

-- what came back while nothing else did
pub told_back : {A : Type 0} (old before after end : Option (List A)) (x : A) → before ≡ old → ToldOfThree before after x → end ≡ after
    → ToldOfThree old end x
told_back {A = A} old before after end x first told last =
    subst (λ (v : Option (List A)). ToldOfThree v end x) first (subst (λ (v : Option (List A)). ToldOfThree before v x) (sym last) told)
