-- What a pass has in its hands after calls that follow one another.
use Rattle.std.proofs.Common.{◌≡◌, ◌≢◌, ◌⊎◌, ℕ, Option, refl, sym, subst, ◌∙◌, inl, inr}
use Rattle.std.proofs.lemmas.Bool.{cases_eq}
use Rattle.buffer_words.specs.Rule.{Slot}
use Rattle.buffer_words.specs.Passes.{Token, gone, SamePlace, SameHands, Has, Gets}
use Rattle.buffer_words.proofs.Partings.{same_then}

pub hands_same : (s : Token) → SameHands s s
hands_same s i = record { slot = refl; buffer = λ _. record { size = refl; generation = refl } }

pub hands_then : (s t u : Token) → SameHands s t → SameHands t u → SameHands s u
hands_then s t u first second i = same_then i s t u (first i) (second i)

pub same_has : (i : ℕ) (x : Option Slot) (s t u : Token) → SameHands s t → Has i x t u → Has i x s u
same_has i x s t u first second = record { here = second.here; others = λ j ne. same_then j s t u (first j) (second.others j ne) }

pub has_same : (i : ℕ) (x : Option Slot) (s t u : Token) → Has i x s t → SameHands t u → Has i x s u
has_same i x s t u first second = record { here = (second i).slot ∙ first.here; others = λ j ne. same_then j s t u (first.others j ne) (second j) }

-- a place that was got and given away again
pub gets_gone : (i : ℕ) (s t u : Token) → Gets i s t → Has i gone t u → SameHands s u
gets_gone i s t u first second j = go (cases_eq j i)
  where
    go : (j ≡ i) ⊎ (j ≢ i) → SamePlace j s u
    go (inl e) = subst (λ k. SamePlace k s u) (sym e) (record { slot = second.here ∙ sym first.new; buffer = λ some. absurd (some first.new) })
    go (inr ne) = same_then j s t u (first.has.others j ne) (second.others j ne)
