-- What was written, text after text.
use Rattle.std.proofs.Common.{◌≡◌, ℕ, List, [], ◌∷◌, ◌++◌, Option, Some, None, refl, sym, ap, subst, ◌∙◌, append_assoc}
use Rattle.std.proofs.lemmas.List.{append-nil}
use Rattle.gev_links.specs.Told.{Appends, IsSpent, Drops}

pub wrote_none : (w : Option (List ℕ)) → Appends w w []
wrote_none None = refl
wrote_none (Some w) = ap (λ l. Some l) (sym (append-nil w))

pub wrote_nothing : (w x : Option (List ℕ)) → x ≡ w → Appends w x []
wrote_nothing w x same = subst (λ v. Appends w v []) (sym same) (wrote_none w)

pub wrote_then : (w x y : Option (List ℕ)) (xs ys : List ℕ) → Appends w x xs → Appends x y ys → Appends w y (xs ++ ys)
wrote_then None x y xs ys first second = subst (λ v. Appends v y ys) first second
wrote_then (Some w) x y xs ys first second =
    let last : Appends (Some (w ++ xs)) y ys = subst (λ v. Appends v y ys) first second in
    last ∙ ap (λ t. Some t) (append_assoc w xs ys)

pub wrote_same : (w x y : Option (List ℕ)) (xs : List ℕ) → Appends w x xs → y ≡ x → Appends w y xs
wrote_same w x y xs first same = subst (λ v. Appends w v xs) (sym same) first

-- ---- an input

none_left : (front new : List ℕ) → [] ≡ front ++ new → new ≡ []
none_left [] new is = sym is
none_left (b ∷ front) new is = absurd (cc)

-- an input of which nothing was left has nothing left behind a look
pub spent_still : (old new : Option (List ℕ)) → IsSpent old → Drops old new → IsSpent new
spent_still None new spent drops = subst (λ v. IsSpent v) (sym drops.1) tt
spent_still (Some old) None spent drops = tt
spent_still (Some old) (Some new) spent drops = none_left drops.0 new (sym spent ∙ drops.1)

-- nothing was dropped
pub drops_none : (left : Option (List ℕ)) → Drops left left
drops_none None = ([], refl)
drops_none (Some left) = ([], refl)

pub drops_then : (old mid new : Option (List ℕ)) → Drops old mid → Drops mid new → Drops old new
drops_then None mid new first second = ([], go mid new first.1 second)
  where
    go : (mid new : Option (List ℕ)) → mid ≡ None → Drops mid new → new ≡ None
    go None new same second = second.1
    go (Some mid) new same second = absurd (cc)
drops_then (Some old) None new first second = absurd first.1
drops_then (Some old) (Some mid) None first second = absurd second.1
drops_then (Some old) (Some mid) (Some new) first second =
    (first.0 ++ second.0, first.1 ∙ (ap (λ l. first.0 ++ l) second.1 ∙ sym (append_assoc first.0 second.0 new)))
