-- Looks at standard input.
use Rattle.std.proofs.Common.{◌≡◌, ℕ, Bool, true, false, List, [], ◌∷◌, ◌++◌, Option, Some, None, sym, subst, ◌∙◌, refl}
use Rattle.std.specs.Prelude.{◌&&◌}
use Rattle.std.specs.Bool.{OnTrue, OnFalse}
use Rattle.gev_links.specs.Told.{IsSpent, Drops, IsShorter}
use Rattle.camera_serving.specs.Turns.{LooksSo}

none_left : (front new : List ℕ) → [] ≡ front ++ new → new ≡ []
none_left [] new is = sym is
none_left (b ∷ front) new is = absurd (cc)

spent_still : (old new : Option (List ℕ)) → IsSpent old → Drops old new → IsSpent new
spent_still None new spent drops = subst (λ (v : Option (List ℕ)). IsSpent v) (sym drops.1) tt
spent_still (Some old) None spent drops = tt
spent_still (Some old) (Some new) spent drops = none_left drops.0 new (sym spent ∙ drops.1)

-- where it had ended nothing is left behind the look either
pub ended_spent : (due : Bool) (old new : Option (List ℕ)) → LooksSo true due old new → IsSpent new
ended_spent due old new look = spent_still old new look.1 look.2

pub looked_so : (ended with_input due : Bool) (old new : Option (List ℕ)) → with_input ≡ true → due ≡ true → OnTrue ended (IsSpent old)
    → OnFalse ended (IsShorter old new) → Drops old new → LooksSo ended (with_input && due) old new
looked_so true with_input due old new looks is spent shorter drops = (rw (looks, is) refl, spent, drops)
looked_so false true true old new looks is spent shorter drops = (shorter, drops)
looked_so false true false old new looks is spent shorter drops = absurd (cc)
looked_so false false due old new looks is spent shorter drops = absurd (cc)

-- no look is due
pub not_looked : (with_input due : Bool) (left : Option (List ℕ)) → due ≡ false → LooksSo false (with_input && due) left left
not_looked true true left is = absurd (cc)
not_looked true false left is = refl
not_looked false due left is = refl

pub not_looking : (with_input due : Bool) (left : Option (List ℕ)) → with_input ≡ false → LooksSo false (with_input && due) left left
not_looking true due left is = absurd (cc)
not_looking false due left is = refl
