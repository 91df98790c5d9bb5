-- What is told one after the other, and what is added: one member, one more, and two lists one after the other.
use Rattle.std.proofs.Common.{List, [], ◌∷◌, ◌++◌, length, Option, Some, None, refl, ap, sym, subst, ◌∙◌, append_assoc, length-append, arith}
use Rattle.std.proofs.lemmas.List.{append-nil}
use Rattle.gev_links.specs.Links.{Adds}
use Rattle.gev_links.specs.Moments.{Tells, TellsEach}

pub tells_first : {A : Type 0} (old new : Option (List A)) (x : A) → Tells old new x → TellsEach old new (x ∷ [])
tells_first None None x told = tt
tells_first None (Some new) x told = told
tells_first (Some old) None x told = omega (arith, told)
tells_first (Some old) (Some new) x told = told

pub tells_more : {A : Type 0} (old mid new : Option (List A)) (xs : List A) (x : A) → TellsEach old mid xs → Tells mid new x → TellsEach old new (xs ++ x ∷ [])
tells_more None None None xs x first second = tt
tells_more None None (Some new) xs x first second = second
tells_more None (Some mid) new xs x first second = absurd first
tells_more (Some old) None None xs x first second = omega (arith, first, length-append xs (x ∷ []))
tells_more (Some old) None (Some new) xs x first second = absurd second
tells_more (Some old) (Some mid) None xs x first second =
    omega (arith, second, ap length first, length-append old xs, length-append xs (x ∷ []))
tells_more (Some old) (Some mid) (Some new) xs x first second = second ∙ (ap (λ l. l ++ x ∷ []) first ∙ append_assoc old xs (x ∷ []))

-- told nothing
pub tells_none : {A : Type 0} (old : Option (List A)) → TellsEach old old []
tells_none None = tt
tells_none (Some old) = sym (append-nil old)

-- two lists, one after the other
pub tells_then : {A : Type 0} (old mid new : Option (List A)) (xs ys : List A) → TellsEach old mid xs → TellsEach mid new ys → TellsEach old new (xs ++ ys)
tells_then None None None xs ys first second = tt
tells_then None None (Some new) xs ys first second = second
tells_then None (Some mid) new xs ys first second = absurd first
tells_then (Some old) None None xs ys first second = omega (arith, first, length-append xs ys)
tells_then (Some old) None (Some new) xs ys first second = absurd second
tells_then (Some old) (Some mid) None xs ys first second = omega (arith, second, ap length first, length-append old xs, length-append xs ys)
tells_then (Some old) (Some mid) (Some new) xs ys first second = second ∙ (ap (λ l. l ++ ys) first ∙ append_assoc old xs ys)

-- added nothing
pub adds_none : {A : Type 0} (old : Option (List A)) → Adds old old []
adds_none None = refl
adds_none (Some old) = ap (λ l. Some l) (sym (append-nil old))

-- two lists, one after the other
pub adds_then : {A : Type 0} (old mid new : Option (List A)) (xs ys : List A) → Adds old mid xs → Adds mid new ys → Adds old new (xs ++ ys)
adds_then None mid new xs ys first second = subst (λ v. Adds v new ys) first second
adds_then (Some old) mid new xs ys first second =
    let last : Adds (Some (old ++ xs)) new ys = subst (λ v. Adds v new ys) first second in
    last ∙ ap (λ l. Some l) (append_assoc old xs ys)
