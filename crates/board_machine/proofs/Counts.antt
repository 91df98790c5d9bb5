-- Words, sizes and counts of places after one of them changed.
use Rattle.std.proofs.Common.{◌≡◌, ◌≢◌, ℕ, zero, suc, ◌+◌, ◌≤◌, ◌<◌, List, [], ◌∷◌, ◌++◌, length, get_or, set, slice_get, Some, refl, sym, ap, subst, ◌∙◌, inl, inr, ◌⊎◌, arith}
use Rattle.std.proofs.lemmas.Bool.{cases_lt, cases_eq}
use Rattle.std.proofs.lemmas.List.{get_or_past, get_or-set_same, get_or-set_other}
use Rattle.gev_types.specs.Limits.{place_count}
use Rattle.gentl_types.specs.declared.word.Word.{Word}
use Rattle.gentl_types.specs.declared.word.State.{State}
use Rattle.gentl_types.specs.declared.word.State.TheVariants.{Vacant, Held, Away}
use Rattle.board_machine.specs.Places.{same, times, put_in, without, tail}
use Rattle.board_machine.specs.Machine.{Board, Item, vacant, word_at, hand, places, IsActor, InHand, picks, drops}
use Rattle.board_machine.specs.Owners.{tally, due, in_hands, IsCounted, IsWord}
use Rattle.board_machine.proofs.Places.{same_self, times-put, times-without}
use Rattle.board_machine.proofs.Boards.{in_hands-set, in_hand_of-le, actor_within}

pub due_le : (s : State) → due s ≤ 1
due_le Vacant = omega arith
due_le Held = omega arith
due_le Away = omega arith

pub due_away : (s : State) → 1 ≤ due s → s ≡ Away
due_away Vacant h = absurd (omega arith)
due_away Held h = absurd (omega arith)
due_away Away h = refl

pub places-append : (xs ys : List Item) → places (xs ++ ys) ≡ places xs ++ places ys
places-append [] ys = refl
places-append (x ∷ xs) ys = ap (λ is. x.place ∷ is) (places-append xs ys)

-- an item of a list stands among its places
pub in_places : (xs : List Item) (n : ℕ) (x : Item) → slice_get xs n ≡ Some x → 1 ≤ times x.place (places xs)
in_places [] n x h = absurd (cc)
in_places (y ∷ xs) zero x h =
    let e : y ≡ x = cc in
    let s : same x.place y.place ≡ 1 = ap (λ v. same x.place v.place) e ∙ same_self x.place in
    omega arith
in_places (y ∷ xs) (suc n) x h = omega (arith, in_places xs n x h)

-- what the output's items have to be, over lists of words and items
abbrev pub Sized : List Word → List Item → Type 0
Sized ws out = (n : ℕ) (x : Item) → slice_get out n ≡ Some x → length x.filling.bytes ≡ (get_or ws x.place vacant).size

-- the counts t fit the words
abbrev pub Fits : (ℕ → ℕ) → List Word → Type 0
Fits t ws = (j : ℕ) → t j ≡ due (get_or ws j vacant).state

abbrev pub AreWords : List Word → Type 0
AreWords ws = (j : ℕ) → IsWord (get_or ws j vacant)

pub fits_set : (ws : List Word) (i : ℕ) (w : Word) (t : ℕ → ℕ) → i < length ws → t i ≡ due w.state → ((j : ℕ) → j ≢ i → t j ≡ due (get_or ws j vacant).state) → Fits t (set ws i w)
fits_set ws i w t within here others j = go (cases_eq j i)
  where
    go : (j ≡ i) ⊎ (j ≢ i) → t j ≡ due (get_or (set ws i w) j vacant).state
    go (inl e) =
        let P : ℕ → Type 0 = λ n. t n ≡ due (get_or (set ws i w) n vacant).state in
        subst P (sym e) (here ∙ sym (ap (λ v. due v.state) (get_or-set_same ws i w vacant within)))
    go (inr apart) = others j apart ∙ sym (ap (λ v. due v.state) (get_or-set_other ws i j w vacant apart))

pub words_set : (ws : List Word) (i : ℕ) (w : Word) → i < length ws → IsWord w → AreWords ws → AreWords (set ws i w)
words_set ws i w within here others j = go (cases_eq j i)
  where
    go : (j ≡ i) ⊎ (j ≢ i) → IsWord (get_or (set ws i w) j vacant)
    go (inl e) =
        let P : ℕ → Type 0 = λ n. IsWord (get_or (set ws i w) n vacant) in
        subst P (sym e) (subst (λ v. IsWord v) (sym (get_or-set_same ws i w vacant within)) here)
    go (inr apart) = subst (λ v. IsWord v) (sym (get_or-set_other ws i j w vacant apart)) (others j)

-- a word that keeps its size
pub sized_same : (ws : List Word) (out : List Item) (i : ℕ) (w : Word) → i < length ws → w.size ≡ (get_or ws i vacant).size → Sized ws out → Sized (set ws i w) out
sized_same ws out i w within size sized n x h = sized n x h ∙ go (cases_eq x.place i)
  where
    go : (x.place ≡ i) ⊎ (x.place ≢ i) → (get_or ws x.place vacant).size ≡ (get_or (set ws i w) x.place vacant).size
    go (inl e) =
        let P : ℕ → Type 0 = λ n. (get_or ws n vacant).size ≡ (get_or (set ws i w) n vacant).size in
        subst P (sym e) (sym size ∙ sym (ap (λ v. v.size) (get_or-set_same ws i w vacant within)))
    go (inr apart) = sym (ap (λ v. v.size) (get_or-set_other ws i x.place w vacant apart))

-- a word whose place isn't in the output
pub sized_apart : (ws : List Word) (out : List Item) (i : ℕ) (w : Word) → times i (places out) ≡ 0 → Sized ws out → Sized (set ws i w) out
sized_apart ws out i w none sized n x h = sized n x h ∙ sym (ap (λ v. v.size) (get_or-set_other ws i x.place w vacant apart))
  where
    apart : x.place ≢ i
    apart e =
        let some : 1 ≤ times x.place (places out) = in_places out n x h in
        let same_count : times x.place (places out) ≡ times i (places out) = ap (λ j. times j (places out)) e in
        omega arith

pub sized_tail : (ws : List Word) (out : List Item) → Sized ws out → Sized ws (tail out)
sized_tail ws [] sized n x h = sized n x h
sized_tail ws (y ∷ out) sized n x h = sized (suc n) x h

pub sized_push : (ws : List Word) (out : List Item) (y : Item) → length y.filling.bytes ≡ (get_or ws y.place vacant).size → Sized ws out → Sized ws (out ++ y ∷ [])
sized_push ws [] y size sized zero x h =
    let e : y ≡ x = cc in
    subst (λ (v : Item). length v.filling.bytes ≡ (get_or ws v.place vacant).size) e size
sized_push ws [] y size sized (suc n) x h = absurd (cc)
sized_push ws (z ∷ out) y size sized zero x h = sized zero x h
sized_push ws (z ∷ out) y size sized (suc n) x h = sized_push ws out y size (λ m v e. sized (suc m) v e) n x h

-- counts after a change of one actor's hands
pub tally_hand : (b : Board) (k i : ℕ) (is : List ℕ) → IsActor b k → in_hands i (set b.hands k (Some is)) + times i (hand b k) ≡ in_hands i b.hands + times i is
tally_hand b k i is actor = in_hands-set i b.hands k (Some is) (actor_within b k actor)

pub tally_picks : (b : Board) (k i j : ℕ) → IsActor b k → in_hands j (picks b k i).hands ≡ in_hands j b.hands + same j i
tally_picks b k i j actor = omega (arith, tally_hand b k j (put_in i (hand b k)) actor, times-put j i (hand b k))

pub tally_drops : (b : Board) (k i j : ℕ) → IsActor b k → InHand b k i → in_hands j (drops b k i).hands + same j i ≡ in_hands j b.hands
tally_drops b k i j actor h = omega (arith, tally_hand b k j (without i (hand b k)) actor, times-without j i (hand b k) h)

-- a place that stands somewhere has an Away word
pub stands_away : (b : Board) (i : ℕ) → IsCounted b → 1 ≤ tally b i → (word_at b i).state ≡ Away
stands_away b i owned some = due_away (word_at b i).state (omega (arith, owned.once i))

pub stands_below : (b : Board) (i : ℕ) → IsCounted b → 1 ≤ tally b i → i < place_count
stands_below b i owned some = go (cases_lt i (length b.words))
  where
    go : (i < length b.words) ⊎ (length b.words ≤ i) → i < place_count
    go (inl within) = omega (arith, owned.wide)
    go (inr past) =
        let none : due (word_at b i).state ≡ 0 = ap (λ w. due w.state) (get_or_past b.words i vacant past) in
        absurd (omega (arith, owned.once i))

pub hand_tally : (b : Board) (k i : ℕ) → InHand b k i → 1 ≤ tally b i
hand_tally b k i h = omega (arith, in_hand_of-le i b.hands k)
