-- Lemmas on where a datagram is put.
use Rattle.std.proofs.Common.{◌≡◌, ◌⊎◌, inl, inr, ℕ, zero, suc, ◌+◌, ◌<◌, Bool, true, false, List, [], ◌∷◌, ◌++◌, length, refl, ap, sym, ◌∙◌, arith, length-append}
use Rattle.std.specs.List.{Contains}
use Rattle.std.proofs.lemmas.List.Elements.{Contains-append_left, Contains-append_right, Contains-append_cases}
use Rattle.lossy_queue.specs.Lossy.{before_last, placed}

-- just before the last entry of a queue that ends with it
pub before_last-append : {A : Type 0} (d last : A) (front : List A) → before_last d (front ++ last ∷ []) ≡ (front ++ d ∷ []) ++ last ∷ []
before_last-append d last [] = refl
before_last-append d last (e ∷ []) = refl
before_last-append d last (e ∷ f ∷ front) = ap (λ q. e ∷ q) (before_last-append d last (f ∷ front))

one_only : {A : Type 0} (d e : A) → Contains (d ∷ []) e → e ≡ d
one_only d e (zero, lt, is) = sym is
one_only d e (suc k, lt, is) = absurd (omega arith)

before_last_only : {A : Type 0} (d : A) (queue : List A) (e : A) → Contains (before_last d queue) e → (e ≡ d) ⊎ Contains queue e
before_last_only d [] e c = inl (one_only d e c)
before_last_only d (f ∷ []) e c =
    elim (Contains-append_cases (d ∷ []) (f ∷ []) e c) [ inl h ↦ inl (one_only d e h) | inr h ↦ inr h ]
before_last_only d (f ∷ g ∷ queue) e c =
    elim (Contains-append_cases (f ∷ []) (before_last d (g ∷ queue)) e c) [
      | inl h ↦ inr (Contains-append_left (f ∷ []) (g ∷ queue) e h)
      | inr h ↦ elim (before_last_only d (g ∷ queue) e h) [
        | inl same ↦ inl same
        | inr there ↦ inr (Contains-append_right (f ∷ []) (g ∷ queue) e there)
      ]
    ]

-- What a putting leaves is the datagram or was there.
pub placed_only : {A : Type 0} (swapped : Bool) (d : A) (queue : List A) (e : A) → Contains (placed swapped d queue) e → (e ≡ d) ⊎ Contains queue e
placed_only true d queue e c = before_last_only d queue e c
placed_only false d queue e c =
    elim (Contains-append_cases queue (d ∷ []) e c) [ inl h ↦ inr h | inr h ↦ inl (one_only d e h) ]

length-before_last : {A : Type 0} (d : A) (queue : List A) → length (before_last d queue) ≡ length queue + 1
length-before_last d [] = refl
length-before_last d (e ∷ []) = refl
length-before_last d (e ∷ f ∷ queue) = omega (arith, length-before_last d (f ∷ queue))

pub length-placed : {A : Type 0} (swapped : Bool) (d : A) (queue : List A) → length (placed swapped d queue) ≡ length queue + 1
length-placed true d queue = length-before_last d queue
length-placed false d queue = length-append queue (d ∷ [])

-- a putting before the last entry
pub placed_before : {A : Type 0} (swapped : Bool) (d last : A) (front queue : List A) → swapped ≡ true → queue ≡ front ++ last ∷ []
    → placed swapped d queue ≡ (front ++ d ∷ []) ++ last ∷ []
placed_before true d last front queue h e = ap (before_last d) e ∙ before_last-append d last front
placed_before false d last front queue h e = absurd (cc)
