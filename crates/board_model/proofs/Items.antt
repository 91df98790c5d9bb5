-- The output's items, as a list of places and what lies at them.
use Rattle.std.proofs.Common.{◌≡◌, ◌≢◌, ℕ, ◌<◌, List, [], ◌∷◌, ◌++◌, length, get_or, set, Option, Some, refl, sym, ap, ◌∙◌, arith, get_or-set_same, get_or-set_other}
use Rattle.gev_types.specs.Filling.{Filling}
use Rattle.gentl_types.specs.declared.word.Word.{Word}
use Rattle.std.specs.Prelude.{Bool, ◌==◌, remove}
use Rattle.std.proofs.Common.{eq-eqb}
use Rattle.std.proofs.lemmas.Bool.{cond-true}
use Rattle.board_machine.specs.Places.{same, times, tail, without}
use Rattle.board_machine.specs.Machine.{Board, Item, item, places}
use Rattle.board_machine.proofs.Places.{same_self}
use Rattle.board_model.specs.Plain.{nothing, lying, filling_of, items_of, shown}

pub places_items : (contents : List (Option Filling)) (is : List ℕ) → places (items_of contents is) ≡ is
places_items contents [] = refl
places_items contents (i ∷ is) = ap (λ js. i ∷ js) (places_items contents is)

pub times_items : (contents : List (Option Filling)) (is : List ℕ) (i : ℕ) → times i (places (items_of contents is)) ≡ times i is
times_items contents is i = ap (λ js. times i js) (places_items contents is)

-- what is put at another place
pub items_apart : (contents : List (Option Filling)) (i : ℕ) (x : Option Filling) (is : List ℕ) → times i is ≡ 0 → items_of (set contents i x) is ≡ items_of contents is
items_apart contents i x [] none = refl
items_apart contents i x (j ∷ is) none =
    let here : lying (set contents i x) j ≡ lying contents j = get_or-set_other contents i j x nothing apart in
    ap (λ o. item j (filling_of o) ∷ items_of (set contents i x) is) here
    ∙ ap (λ xs. item j (filling_of (lying contents j)) ∷ xs) (items_apart contents i x is (omega (arith, none)))
  where
    apart : j ≢ i
    apart e = let one : same i j ≡ same j j = ap (λ k. same k j) (sym e) in omega (arith, one, same_self j, none)

pub items_append : (contents : List (Option Filling)) (is js : List ℕ) → items_of contents (is ++ js) ≡ items_of contents is ++ items_of contents js
items_append contents [] js = refl
items_append contents (i ∷ is) js = ap (λ xs. item i (filling_of (lying contents i)) ∷ xs) (items_append contents is js)

pub shown_apart : (words : List Word) (pool out : List ℕ) (contents : List (Option Filling)) (hands : List (Option (List ℕ))) (closed kill : Bool) (run i : ℕ) (x : Option Filling) → times i out ≡ 0 → shown words pool out (set contents i x) hands closed kill run ≡ shown words pool out contents hands closed kill run
shown_apart words pool out contents hands closed kill run i x none =
    ap (λ (xs : List Item). let b : Board = record { words = words; pool = pool; out = xs; hands = hands; closed = closed; kill = kill; run = run } in b)
    (items_apart contents i x out none)

-- what a fill puts at the end
pub items_fill : (contents : List (Option Filling)) (i : ℕ) (f : Filling) (is : List ℕ) → times i is ≡ 0 → i < length contents → items_of (set contents i (Some f)) (is ++ i ∷ []) ≡ items_of contents is ++ item i f ∷ []
items_fill contents i f is none within =
    let here : lying (set contents i (Some f)) i ≡ Some f = get_or-set_same contents i (Some f) nothing within in
    items_append (set contents i (Some f)) is (i ∷ [])
    ∙ ap (λ xs. xs ++ items_of (set contents i (Some f)) (i ∷ [])) (items_apart contents i (Some f) is none)
    ∙ ap (λ o. items_of contents is ++ item i (filling_of o) ∷ []) here

pub shown_fill : (words : List Word) (pool out : List ℕ) (contents : List (Option Filling)) (hands : List (Option (List ℕ))) (closed kill : Bool) (run i : ℕ) (f : Filling) → times i out ≡ 0 → i < length contents → shown words pool (out ++ i ∷ []) (set contents i (Some f)) hands closed kill run ≡ record (shown words pool out contents hands closed kill run) { out = items_of contents out ++ item i f ∷ [] }
shown_fill words pool out contents hands closed kill run i f none within =
    ap (λ (xs : List Item). let b : Board = record { words = words; pool = pool; out = xs; hands = hands; closed = closed; kill = kill; run = run } in b)
    (items_fill contents i f out none within)

pub tail_items : (contents : List (Option Filling)) (is : List ℕ) → tail (items_of contents is) ≡ items_of contents (tail is)
tail_items contents [] = refl
tail_items contents (i ∷ is) = refl

-- the first of a list that isn't empty
pub head_of : (x : ℕ) (xs : List ℕ) → 0 < length xs → x ≡ get_or xs 0 x → xs ≡ x ∷ tail xs
head_of x [] some first = absurd (omega arith)
head_of x (y ∷ xs) some first = ap (λ z. z ∷ xs) (sym first)

pub remove_first : (xs : List ℕ) → remove xs 0 ≡ tail xs
remove_first [] = refl
remove_first (x ∷ xs) = refl

pub without_first : (i : ℕ) (xs : List ℕ) → xs ≡ i ∷ tail xs → without i xs ≡ tail xs
without_first i xs first =
    ap (λ ys. without i ys) first ∙ cond-true (i == i) (tail xs) (i ∷ without i (tail xs)) (eq-eqb i i refl)

-- the first item of a list whose first place is known
pub first_items : (contents : List (Option Filling)) (i : ℕ) (is : List ℕ) → is ≡ i ∷ tail is → items_of contents is ≡ item i (filling_of (lying contents i)) ∷ tail (items_of contents is)
first_items contents i is first =
    let e : items_of contents is ≡ item i (filling_of (lying contents i)) ∷ items_of contents (tail is) = ap (λ (js : List ℕ). items_of contents js) first in
    e ∙ ap (λ xs. item i (filling_of (lying contents i)) ∷ xs) (sym (ap tail e))
