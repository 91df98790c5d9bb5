-- What is told of bytes, from call to call.
use Rattle.std.proofs.Common.{ℕ, List, [], ◌++◌, Option, Some, None, refl, ap, sym, ◌∙◌, append_assoc}
use Rattle.gev_links.specs.Told.{Gives, IsSpent}

-- where nothing came, what was spent still is
pub spent_after : (l m : Option (List ℕ)) → Gives l m [] → IsSpent l → IsSpent m
spent_after None None g s = s
spent_after None (Some m) g s = absurd (cc)
spent_after (Some l) None g s = absurd g
spent_after (Some l) (Some m) g s = sym g ∙ s

-- bytes that came, and then others
pub Gives-append : (l m n : Option (List ℕ)) (xs ys : List ℕ) → Gives l m xs → Gives m n ys → Gives l n (xs ++ ys)
Gives-append None None n xs ys g h = h
Gives-append None (Some m) n xs ys g h = absurd (cc)
Gives-append (Some l) None n xs ys g h = absurd g
Gives-append (Some l) (Some m) None xs ys g h = absurd h
Gives-append (Some l) (Some m) (Some n) xs ys g h = g ∙ ap (λ t. xs ++ t) h ∙ sym (append_assoc xs ys n)

pub Gives-same : (l : Option (List ℕ)) → Gives l l []
Gives-same None = refl
Gives-same (Some l) = refl
