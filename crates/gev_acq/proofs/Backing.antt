-- What a pass has of the buffers of open blocks, call by call.
use Rattle.std.proofs.Common.{◌≡◌, ◌≢◌, ◌⊎◌, ℕ, ◌+◌, ◌≤◌, List, [], ◌∷◌, ◌++◌, refl, ap, sym, ◌∙◌, subst, arith, inl, inr}
use Rattle.std.proofs.lemmas.Bool.{cases_eq}
use Rattle.board_machine.specs.Places.{same, times}
use Rattle.board_machine.proofs.Places.{same_self, same_other}
use Rattle.acquisition_machine.specs.Blocks.{Given}
use Rattle.acquisition_machine.specs.TurnLaws.{HasOneMore}
use Rattle.buffer_words.specs.Passes.{Token, slot_at, gone, lifted, IsLifted, size_at, SamePlace, SameHands, Has, Gets}
use Rattle.buffer_words.proofs.Partings.{same_then}
use Rattle.gev_acq.specs.Buffers.{places_of, IsBacked, AreBacked, Backs, HoldsAlone}

pub lifted_some : (s : Token) (i : ℕ) → IsLifted s i → slot_at s i ≢ gone
lifted_some s i is none = let bad : lifted ≡ gone = sym is ∙ none in cc

pub size_same : (i : ℕ) (s t : Token) → SamePlace i s t → IsLifted s i → size_at t i ≡ size_at s i
size_same i s t place is = (place.buffer (lifted_some s i is)).size

same_backed : (g : Given) (s t : Token) → SamePlace g.place s t → IsBacked s g → IsBacked t g
same_backed g s t place b = record { lifted = place.slot ∙ b.lifted; size = b.size ∙ sym (size_same g.place s t place b.lifted) }

same_all : (s t : Token) (gs : List Given) → ((i : ℕ) → 1 ≤ times i (places_of gs) → SamePlace i s t) → AreBacked s gs → AreBacked t gs
same_all s t [] place are = tt
same_all s t (g ∷ gs) place are =
    (same_backed g s t (place g.place (omega (arith, same_self g.place))) are.0, same_all s t gs (λ i one. place i (omega (arith, one))) are.1)

pub same_backs : (s t : Token) (gs : List Given) → SameHands s t → Backs s gs → Backs t gs
same_backs s t gs hands b = record { single = b.single; backed = same_all s t gs (λ i one. hands i) b.backed }

pub same_alone : (s t : Token) (gs : List Given) → SameHands s t → HoldsAlone s gs → HoldsAlone t gs
same_alone s t gs hands alone i some = alone i (λ none. some ((hands i).slot ∙ none))

-- ---- the first buffer leaves

pub first_left : (s t : Token) (g : Given) (gs : List Given) → Backs s (g ∷ gs) → Has g.place gone s t → Backs t gs
first_left s t g gs b h = record {
  single = λ i. omega (arith, b.single i);
  backed = same_all s t gs (λ i one. h.others i (other i one)) b.backed.1;
}
  where
    other : (i : ℕ) → 1 ≤ times i (places_of gs) → i ≢ g.place
    other i one is =
        let here : 1 ≤ times g.place (places_of gs) = subst (λ (k : ℕ). 1 ≤ times k (places_of gs)) is one in
        absurd (omega (arith, b.single g.place, same_self g.place, here))

pub first_left_alone : (s t : Token) (g : Given) (gs : List Given) → Has g.place gone s t → HoldsAlone s (g ∷ gs) → HoldsAlone t gs
first_left_alone s t g gs h alone i some = go (cases_eq i g.place)
  where
    go : (i ≡ g.place) ⊎ (i ≢ g.place) → 1 ≤ times i (places_of gs)
    go (inl is) = absurd (some (ap (λ (k : ℕ). slot_at t k) is ∙ h.here))
    go (inr ne) =
        let one : 1 ≤ same i g.place + times i (places_of gs) = alone i (λ none. some ((h.others i ne).slot ∙ none)) in
        omega (arith, one, same_other i g.place ne)

-- ---- a buffer is claimed

places_of-append : (i : ℕ) (gs hs : List Given) → times i (places_of (gs ++ hs)) ≡ times i (places_of gs) + times i (places_of hs)
places_of-append i [] hs = omega arith
places_of-append i (g ∷ gs) hs = omega (arith, places_of-append i gs hs)

-- a place that isn't in hand is none of theirs
absent : (s : Token) (i : ℕ) (gs : List Given) → slot_at s i ≡ gone → AreBacked s gs → times i (places_of gs) ≡ 0
absent s i [] none are = refl
absent s i (g ∷ gs) none are =
    let ne : i ≢ g.place = λ is. lifted_some s g.place are.0.lifted (ap (λ (k : ℕ). slot_at s k) (sym is) ∙ none) in
    omega (arith, same_other i g.place ne, absent s i gs none are.1)

backed_parts : (s : Token) (gs hs : List Given) → AreBacked s (gs ++ hs) → AreBacked s gs × AreBacked s hs
backed_parts s [] hs are = (tt, are)
backed_parts s (g ∷ gs) hs are = let more = backed_parts s gs hs are.1 in ((are.0, more.0), more.1)

backed_joined : (s : Token) (gs hs : List Given) → AreBacked s gs → AreBacked s hs → AreBacked s (gs ++ hs)
backed_joined s [] hs first second = second
backed_joined s (g ∷ gs) hs first second = (first.0, backed_joined s gs hs first.1 second)

-- the place was got, and its buffer lifted
pub got_place : (i j : ℕ) (s t u : Token) → Gets i s t → Has i lifted t u → j ≢ i → SamePlace j s u
got_place i j s t u got up ne = same_then j s t u (got.has.others j ne) (up.others j ne)

one_more_backed : (s u : Token) (g : Given) (front back : List Given) → slot_at s g.place ≡ gone → ((j : ℕ) → j ≢ g.place → SamePlace j s u)
    → IsBacked u g → Backs s (front ++ back) → Backs u (front ++ g ∷ back)
one_more_backed s u g front back new others here b = record {
  single = λ i. go i (cases_eq i g.place);
  backed =
      let were = backed_parts s front back b.backed in
      backed_joined u front (g ∷ back) (moved front were.0) (here, moved back were.1);
}
  where
    moved : (gs : List Given) → AreBacked s gs → AreBacked u gs
    moved gs are = same_all s u gs (λ i one. others i (λ is. gone_one gs are (subst (λ (k : ℕ). 1 ≤ times k (places_of gs)) is one))) are
      where
        gone_one : (hs : List Given) → AreBacked s hs → ¬ (1 ≤ times g.place (places_of hs))
        gone_one hs each one = absurd (omega (arith, absent s g.place hs new each, one))

    go : (i : ℕ) → (i ≡ g.place) ⊎ (i ≢ g.place) → times i (places_of (front ++ g ∷ back)) ≤ 1
    go i (inl is) =
        let none : times i (places_of (front ++ back)) ≡ 0 = absent s i (front ++ back) (ap (λ (k : ℕ). slot_at s k) is ∙ new) b.backed in
        let one : same i g.place ≡ 1 = ap (λ (k : ℕ). same k g.place) is ∙ same_self g.place in
        omega (arith, places_of-append i front (g ∷ back), places_of-append i front back, none, one)
    go i (inr ne) = omega (arith, places_of-append i front (g ∷ back), places_of-append i front back, b.single i, same_other i g.place ne)

pub claimed_backs : (s u : Token) (g : Given) (gs hs : List Given) → slot_at s g.place ≡ gone → ((j : ℕ) → j ≢ g.place → SamePlace j s u)
    → IsBacked u g → HasOneMore g gs hs → Backs s gs → Backs u hs
claimed_backs s u g gs hs new others here more b =
    subst (Backs u) (sym more.are) (one_more_backed s u g more.front more.back new others here (subst (Backs s) more.were b))

pub claimed_alone : (s u : Token) (g : Given) (gs hs : List Given) → ((j : ℕ) → j ≢ g.place → SamePlace j s u) → HasOneMore g gs hs
    → HoldsAlone s gs → HoldsAlone u hs
claimed_alone s u g gs hs others more alone i some = go (cases_eq i g.place)
  where
    counted : times i (places_of hs) ≡ times i (places_of more.front) + (same i g.place + times i (places_of more.back))
    counted = ap (λ l. times i (places_of l)) more.are ∙ places_of-append i more.front (g ∷ more.back)

    before : times i (places_of gs) ≡ times i (places_of more.front) + times i (places_of more.back)
    before = ap (λ l. times i (places_of l)) more.were ∙ places_of-append i more.front more.back

    go : (i ≡ g.place) ⊎ (i ≢ g.place) → 1 ≤ times i (places_of hs)
    go (inl is) =
        let one : same i g.place ≡ 1 = ap (λ (k : ℕ). same k g.place) is ∙ same_self g.place in
        omega (arith, counted, one)
    go (inr ne) = let was : 1 ≤ times i (places_of gs) = alone i (λ none. some ((others i ne).slot ∙ none)) in omega (arith, counted, before, was)
