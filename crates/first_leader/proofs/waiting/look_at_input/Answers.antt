-- The input of which nothing was left has nothing left behind the look.
use Rattle.std.proofs.Common.{◌≡◌, ℕ, Bool, true, false, List, [], ◌∷◌, ◌++◌, Option, Some, None, sym, subst, ◌∙◌, rules}
use Rattle.std.specs.Bool.{OnTrue}
use Rattle.gev_links.specs.Told.{IsSpent, Drops}
use Rattle.first_leader.specs.Waiting.{IsInputSpent}
use Rattle.first_leader.proofs.waiting.look_at_input.Goals as goal

none_left : (front new : List ℕ) → [] ≡ front ++ new → new ≡ []
none_left [] new is = sym is
none_left (b ∷ front) new is = absurd (cc)

still : (old new : Option (List ℕ)) → IsSpent old → Drops old new → IsSpent new
still None new spent drops = subst (λ v. IsSpent v) (sym drops.1) tt
still (Some old) None spent drops = tt
still (Some old) (Some new) spent drops = none_left drops.0 new (sym spent ∙ drops.1)

looked : (b until : Bool) (old new : Option (List ℕ)) → until ≡ true → OnTrue b (IsSpent old) → Drops old new → OnTrue b (IsInputSpent until new)
looked true until old new is spent drops = (is, still old new spent drops)
looked false until old new is spent drops = tt

pub returns : goal.returns
returns g c =
    looked c.has_ended.result c.args.until_input _ _ (search rules) c.has_ended.ensures.ended c.has_ended.ensures.dropped
