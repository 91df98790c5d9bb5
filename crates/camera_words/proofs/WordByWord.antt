-- The words of `receive`, one after the other.
use Rattle.std.proofs.Common.{◌≡◌, ℕ, ◌+◌, ◌-◌, ◌≤◌, nat_lt, List, [], ◌∷◌, ◌++◌, length, map, take, drop, get_or, Option, Some, None, Err, refl, sym, ap, subst, ◌∙◌, arith, length-append}
use Rattle.std.proofs.lemmas.Bool.{cond_both}
use Rattle.camera_words.specs.declared.register_write.RegisterWrite.{RegisterWrite}
use Rattle.camera_words.specs.declared.setting.Choice.{Choice}
use Rattle.camera_words.specs.declared.setting.ReceiveWord.{ReceiveWord}
use Rattle.camera_words.specs.declared.setting.ReceiveWord.TheVariants.{Write, Choose}
use Rattle.camera_words.specs.Words.{Said}
use Rattle.camera_words.specs.Choices.{found, Fits, AllFit, AreOnce}
use Rattle.camera_words.specs.Receiving.{SoFar, MOST_WRITES, choose, go_on, with_said, with_word, word_in, words_from, place_of, IsRead}
use Rattle.camera_words.proofs.Once.{fit_more, once_more}

pub read_more : (writes : List RegisterWrite) (cs more : List Choice) (c : Choice) → IsRead writes cs → found c.setting cs ≡ None → Fits c.setting c.value → more ≡ cs ++ c ∷ [] → IsRead writes more
read_more writes cs more c read none_found fits is = record {
  few = read.few;
  fit = subst (λ l. AllFit l) (sym is) (fit_more cs c read.fit fits);
  once = subst (λ l. AreOnce l) (sym is) (once_more cs c read.once none_found);
}

-- ---- the place

abbrev place_in : Option SoFar → ℕ
place_in None = 0
place_in (Some s) = place_of s

no_more : (t : SoFar) → None ≡ Some t → ⊥
no_more t e = cc

place_said : (s t : SoFar) (said : Option ReceiveWord) → with_said s said ≡ Some t → place_of t ≡ place_of s + 1
place_said s t None is = absurd (no_more t is)
place_said s t (Some (Write write)) is =
    cond_both (nat_lt (length s.writes) MOST_WRITES) (Some (record { writes = s.writes ++ write ∷ []; choices = s.choices })) None
    (λ r. r ≡ Some t → place_of t ≡ place_of s + 1)
    (λ fits e. omega (arith, ap place_in e, length-append s.writes (write ∷ [])))
    (λ full e. absurd (no_more t e))
    is
place_said s t (Some (Choose choice)) is = go (found choice.setting s.choices) is
  where
    go : (o : Option ℕ) → choose s choice o ≡ Some t → place_of t ≡ place_of s + 1
    go None e = omega (arith, ap place_in e, length-append s.choices (choice ∷ []))
    go (Some value) e = absurd (no_more t e)

-- ---- a word

-- the first word, and the others
pub head_rest : {W : Type 0} (xs : List W) (x : W) → 1 ≤ length xs → x ≡ get_or xs 0 x → xs ≡ x ∷ take (length xs - 1) (drop 1 xs)
head_rest [] x some is = absurd (omega (arith, some))
head_rest {W} (y ∷ ys) x some is =
    let one : length (y ∷ ys) - 1 ≡ length ys = omega arith in
    ap (λ (z : W). z ∷ ys) (sym is) ∙ ap (λ (zs : List W). x ∷ zs) (sym (all_of ys) ∙ ap (λ (n : ℕ). take n ys) (sym one))
  where
    all_of : (xs : List W) → take (length xs) xs ≡ xs
    all_of [] = refl
    all_of (z ∷ zs) = ap (λ (ws : List W). z ∷ ws) (all_of zs)

module _ {W : Type 0} (f : W → List ℕ) where
  pub stops_at : (s t : SoFar) (rest more : List W) (word : W) (all : Said SoFar) (place : ℕ) → rest ≡ word ∷ more → place ≡ place_of t → t ≡ s → with_word s (f word) ≡ None
      → words_from (place_of s) s (map f rest) ≡ all → Err place ≡ all
  stops_at s t rest more word all place is at same none_said whole =
      ap (λ p. Err p) (at ∙ ap place_of same)
      ∙ (sym (ap (λ o. go_on (place_of s) o (λ t. words_from (place_of s + 1) t (map f more))) none_said)
      ∙ (ap (λ l. words_from (place_of s) s (map f l)) (sym is) ∙ whole))

  pub goes_on : (s t : SoFar) (rest more : List W) (word : W) (all : Said SoFar) → rest ≡ word ∷ more → with_word s (f word) ≡ Some t
      → words_from (place_of s) s (map f rest) ≡ all → words_from (place_of t) t (map f more) ≡ all
  goes_on s t rest more word all is said whole =
      ap (λ p. words_from p t (map f more)) (place_said s t (word_in (f word)) said)
      ∙ (sym (ap (λ o. go_on (place_of s) o (λ t. words_from (place_of s + 1) t (map f more))) said)
      ∙ (ap (λ l. words_from (place_of s) s (map f l)) (sym is) ∙ whole))
