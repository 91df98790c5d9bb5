-- A link in memory tells nothing for ever, when its list is at its end.
use native.Mathlib.Decide.{dec_lt}
use Rattle.std.proofs.Common.{◌≡◌, ℕ, zero, suc, ◌+◌, ◌-◌, ◌^◌, ◌<◌, ◌≤◌, List, [], ◌∷◌, ◌++◌, length, map, Option, Some, None, refl, ap, sym, ◌∙◌, subst, arith, length-append, append_assoc}
use Rattle.std.proofs.lemmas.List.{length-map}
use Rattle.gev_links.specs.declared.reception.Reception.{Reception}
use Rattle.gev_links.specs.Links.{Answer, nothing}
use Rattle.gev_links.specs.Moments.{Tells}
use Rattle.gev_links.specs.Receptions.{answer_given, silent, heard, heard_by, IsCounted}

length-silent : (n : ℕ) → length (silent n) ≡ n
length-silent zero = refl
length-silent (suc n) = omega (arith, length-append (silent n) (nothing ∷ []), length-silent n)

length-heard : (given : List Reception) (n : ℕ) → length given ≤ n → length (heard given n) ≡ n
length-heard given n few =
    omega (arith, few, length-append (map answer_given given) (silent (n - length given)), length-map given answer_given, length-silent (n - length given))

-- one more receive behind the list
heard-suc : (given : List Reception) (n : ℕ) → length given ≤ n → heard given (n + 1) ≡ heard given n ++ nothing ∷ []
heard-suc given n few =
    let one : n + 1 - length given ≡ suc (n - length given) = omega (arith, few) in
    ap (λ k. map answer_given given ++ silent k) one ∙ sym (append_assoc (map answer_given given) (silent (n - length given)) (nothing ∷ []))

silence : (given : List Reception) (n : ℕ) (r : Option ℕ) → n < 2 ^ 64 → length given ≤ n → (n < 2 ^ 64 - 1 → r ≡ Some (n + 1)) → (n ≡ 2 ^ 64 - 1 → r ≡ None)
    → Tells (Some (heard given n)) (heard_by given r) nothing
silence given n r below few more most = go (dec_lt n (2 ^ 64 - 1))
  where
    goal : Option ℕ → Type 0
    goal o = Tells (Some (heard given n)) (heard_by given o) nothing

    go : Dec (n < 2 ^ 64 - 1) → goal r
    go (yes l) = subst goal (sym (more l)) (heard-suc given n few)
    go (no l) = let full : n ≡ 2 ^ 64 - 1 = omega (arith, below, l) in subst goal (sym (most full)) (length-heard given n few ∙ full)

-- so it is where the count is told by an equation
pub silence_told : (v : Option (List Answer)) (given : List Reception) (members : ℕ) (o : Option ℕ) (n : ℕ) (r : Option ℕ) → heard_by given o ≡ v → o ≡ Some n
    → IsCounted members (length given) o → members ≤ length given → (n < 2 ^ 64 - 1 → r ≡ Some (n + 1)) → (n ≡ 2 ^ 64 - 1 → r ≡ None)
    → Tells v (heard_by given r) nothing
silence_told v given members o n r told is counted ended more most =
    let here : IsCounted members (length given) (Some n) = subst (IsCounted members (length given)) is counted in
    let few : length given ≤ n = omega (arith, here.1) in
    let so : v ≡ Some (heard given n) = sym told ∙ ap (heard_by given) is in
    let goal : Option (List Answer) → Type 0 = λ w. Tells w (heard_by given r) nothing in
    subst goal (sym so) (silence given n r here.0 few more most)
