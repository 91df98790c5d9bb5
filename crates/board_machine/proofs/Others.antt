-- An act of one actor leaves the hands of the others, and the words of the places in them.
use Rattle.std.proofs.Common.{◌≡◌, ◌≢◌, ℕ, zero, suc, ◌≤◌, ◌<◌, ◌==◌, true, false, List, [], ◌∷◌, ◌++◌, length, get_or, set, Option, Some, None, Ok, Err, refl, sym, ap, subst, ◌∙◌, inl, inr, ◌⊎◌, arith}
use Rattle.std.proofs.lemmas.Bool.{cases_eq, cond_both, cond-false, eqb-false}
use Rattle.std.proofs.lemmas.List.{get_or-set_other, get_or-set_same, get_or_append_left}
use Rattle.gentl_types.specs.declared.word.Word.{Word}
use Rattle.gentl_types.specs.declared.word.State.TheVariants.{Away}
use Rattle.board_machine.specs.declared.events.Entry.{Entry}
use Rattle.board_machine.specs.declared.events.Event.{Event}
use Rattle.board_machine.specs.declared.events.Event.TheVariants.{Look, LookPool, LookOut, LookRun, Enrol, Grab, Lay, Vacate, Pool, Claim, SweepPool, Fill, Take, SweepOut, Close, Post, Unpost, Start, Stop, Split, Join}
use Rattle.board_machine.specs.declared.events.TakeEnd.TheVariants.{Taken, Empty, Closed}
use Rattle.board_machine.specs.Places.{times}
use Rattle.board_machine.specs.Machine.{Board, vacant, word_at, hand_at, hand, held, no_actor, empty_hands, IsActor, InHand, Meets, after_event, next}
use Rattle.board_machine.specs.Histories.{after_from, RunsFrom, own_of}
use Rattle.board_machine.specs.Owners.{due, IsCounted}
use Rattle.board_machine.proofs.Boards.{two_hands, actor_within, empty_is_actor}
use Rattle.board_machine.proofs.Counts.{due_le, stands_away, hand_tally}
use Rattle.board_machine.proofs.Keeps.{keeps_next}

-- a list of hands with one of them changed, at another place
pub other_hand : (hs : List (Option (List ℕ))) (k n : ℕ) (h : Option (List ℕ)) → n ≢ k → get_or (set hs k h) n no_actor ≡ get_or hs n no_actor
other_hand hs k n h apart = get_or-set_other hs k n h no_actor apart

-- a new hand at the end, read at a place within the list
pub hand_before : (hs : List (Option (List ℕ))) (n : ℕ) (h : Option (List ℕ)) → n < length hs → get_or (hs ++ h ∷ []) n no_actor ≡ get_or hs n no_actor
hand_before hs n h within = get_or_append_left hs (h ∷ []) no_actor n within

-- What an actor's act does to another number that was given out: nothing, but for a join of it.
pub number_stays : (b : Board) (k n : ℕ) (event : Event) → n < length b.hands → n ≢ k → event ≢ Join n → hand_at (after_event b k event) n ≡ hand_at b n
number_stays b k n (Look i w) within apart other = refl
number_stays b k n (LookPool is) within apart other = refl
number_stays b k n (LookOut is closed) within apart other = refl
number_stays b k n (LookRun r) within apart other = refl
number_stays b k n (Enrol i size (Ok g)) within apart other = other_hand b.hands k n _ apart
number_stays b k n (Enrol i size (Err w)) within apart other = refl
number_stays b k n (Grab i g (Ok done)) within apart other = other_hand b.hands k n _ apart
number_stays b k n (Grab i g (Err w)) within apart other = refl
number_stays b k n (Lay i) within apart other = other_hand b.hands k n _ apart
number_stays b k n (Vacate i) within apart other = other_hand b.hands k n _ apart
number_stays b k n (Pool i) within apart other = other_hand b.hands k n _ apart
number_stays b k n (Claim (Some i)) within apart other = other_hand b.hands k n _ apart
number_stays b k n (Claim None) within apart other = refl
number_stays b k n (SweepPool is) within apart other = other_hand b.hands k n _ apart
number_stays b k n (Fill i f true) within apart other = other_hand b.hands k n _ apart
number_stays b k n (Fill i f false) within apart other = refl
number_stays b k n (Take (Taken i)) within apart other = other_hand b.hands k n _ apart
number_stays b k n (Take Empty) within apart other = refl
number_stays b k n (Take Closed) within apart other = refl
number_stays b k n (SweepOut is) within apart other = other_hand b.hands k n _ apart
number_stays b k n Close within apart other = refl
number_stays b k n Post within apart other = refl
number_stays b k n (Unpost stood) within apart other = refl
number_stays b k n (Start (Ok done)) within apart other = refl
number_stays b k n (Start (Err r)) within apart other = refl
number_stays b k n (Stop kill (Ok done)) within apart other = refl
number_stays b k n (Stop kill (Err r)) within apart other = refl
number_stays b k n (Split m) within apart other = hand_before b.hands n empty_hands within
number_stays b k n (Join m) within apart other = other_hand b.hands m n no_actor (λ e. other (ap Join (sym e)))

pub actor_stays : (b : Board) (k n : ℕ) (event : Event) → IsActor b n → n ≢ k → event ≢ Join n → hand_at (after_event b k event) n ≡ hand_at b n
actor_stays b k n event actor apart other = number_stays b k n event (actor_within b n actor) apart other

-- a new actor's hands are empty, as those of a number that is no actor
pub new_hand : (hs : List (Option (List ℕ))) (n : ℕ) → held (get_or (hs ++ empty_hands ∷ []) n no_actor) ≡ held (get_or hs n no_actor)
new_hand [] zero = refl
new_hand [] (suc n) = refl
new_hand (h ∷ hs) zero = refl
new_hand (h ∷ hs) (suc n) = new_hand hs n

-- an actor that is ended had empty hands
pub ended_hand : (b : Board) (n j : ℕ) → hand_at b j ≡ empty_hands → held (get_or (set b.hands j no_actor) n no_actor) ≡ hand b n
ended_hand b n j empty = go (cases_eq n j)
  where
    before : hand b j ≡ []
    before = ap held empty

    after : held (get_or (set b.hands j no_actor) j no_actor) ≡ []
    after = ap held (get_or-set_same b.hands j no_actor no_actor (actor_within b j (empty_is_actor b j empty)))

    go : (n ≡ j) ⊎ (n ≢ j) → held (get_or (set b.hands j no_actor) n no_actor) ≡ hand b n
    go (inl e) = subst (λ i. held (get_or (set b.hands j no_actor) i no_actor) ≡ hand b i) (sym e) (after ∙ sym before)
    go (inr apart) = ap held (other_hand b.hands j n no_actor apart)

-- the places in another actor's hands, whatever the act
pub hand_stays : (b : Board) (k n : ℕ) (event : Event) → Meets b k event → n ≢ k → hand (after_event b k event) n ≡ hand b n
hand_stays b k n (Look i w) m apart = refl
hand_stays b k n (LookPool is) m apart = refl
hand_stays b k n (LookOut is closed) m apart = refl
hand_stays b k n (LookRun r) m apart = refl
hand_stays b k n (Enrol i size (Ok g)) m apart = ap held (other_hand b.hands k n _ apart)
hand_stays b k n (Enrol i size (Err w)) m apart = refl
hand_stays b k n (Grab i g (Ok done)) m apart = ap held (other_hand b.hands k n _ apart)
hand_stays b k n (Grab i g (Err w)) m apart = refl
hand_stays b k n (Lay i) m apart = ap held (other_hand b.hands k n _ apart)
hand_stays b k n (Vacate i) m apart = ap held (other_hand b.hands k n _ apart)
hand_stays b k n (Pool i) m apart = ap held (other_hand b.hands k n _ apart)
hand_stays b k n (Claim (Some i)) m apart = ap held (other_hand b.hands k n _ apart)
hand_stays b k n (Claim None) m apart = refl
hand_stays b k n (SweepPool is) m apart = ap held (other_hand b.hands k n _ apart)
hand_stays b k n (Fill i f true) m apart = ap held (other_hand b.hands k n _ apart)
hand_stays b k n (Fill i f false) m apart = refl
hand_stays b k n (Take (Taken i)) m apart = ap held (other_hand b.hands k n _ apart)
hand_stays b k n (Take Empty) m apart = refl
hand_stays b k n (Take Closed) m apart = refl
hand_stays b k n (SweepOut is) m apart = ap held (other_hand b.hands k n _ apart)
hand_stays b k n Close m apart = refl
hand_stays b k n Post m apart = refl
hand_stays b k n (Unpost stood) m apart = refl
hand_stays b k n (Start (Ok done)) m apart = refl
hand_stays b k n (Start (Err r)) m apart = refl
hand_stays b k n (Stop kill (Ok done)) m apart = refl
hand_stays b k n (Stop kill (Err r)) m apart = refl
hand_stays b k n (Split s) m apart = new_hand b.hands n
hand_stays b k n (Join j) m apart = ended_hand b n j m.0

-- a place in another's hands isn't one whose word is of another state
pub apart_by_state : (b : Board) (n i j : ℕ) → IsCounted b → InHand b n i → due (word_at b j).state ≡ 0 → i ≢ j
apart_by_state b n i j owned in_hand none e =
    let away : (word_at b i).state ≡ Away = stands_away b i owned (hand_tally b n i in_hand) in
    let one : due (word_at b i).state ≡ 1 = ap due away in
    let moved : due (word_at b i).state ≡ due (word_at b j).state = ap (λ m. due (word_at b m).state) e in
    omega arith

-- two actors have no place in common
pub apart_by_hand : (b : Board) (k n i j : ℕ) → IsCounted b → n ≢ k → InHand b n i → InHand b k j → i ≢ j
apart_by_hand b k n i j owned apart mine other e =
    let other_has : 1 ≤ times i (hand b k) = subst (λ m. 1 ≤ times m (hand b k)) (sym e) other in
    omega (arith, two_hands i b.hands n k apart, owned.once i, due_le (word_at b i).state)

pub other_word : (b : Board) (i j : ℕ) (w : Word) → i ≢ j → get_or (set b.words j w) i vacant ≡ word_at b i
other_word b i j w apart = get_or-set_other b.words j i w vacant apart

-- the word of a place in another actor's hands
pub word_stays : (b : Board) (k n i : ℕ) (event : Event) → IsCounted b → Meets b k event → n ≢ k → InHand b n i → word_at (after_event b k event) i ≡ word_at b i
word_stays b k n i (Look j w) owned m apart mine = refl
word_stays b k n i (LookPool is) owned m apart mine = refl
word_stays b k n i (LookOut is closed) owned m apart mine = refl
word_stays b k n i (LookRun r) owned m apart mine = refl
word_stays b k n i (Enrol j size (Ok g)) owned m apart mine = other_word b i j _ (apart_by_state b n i j owned mine (ap due m.3.0))
word_stays b k n i (Enrol j size (Err w)) owned m apart mine = refl
word_stays b k n i (Grab j g (Ok done)) owned m apart mine = other_word b i j _ (apart_by_state b n i j owned mine (ap due m.1.0))
word_stays b k n i (Grab j g (Err w)) owned m apart mine = refl
word_stays b k n i (Lay j) owned m apart mine = other_word b i j _ (apart_by_hand b k n i j owned apart mine m)
word_stays b k n i (Vacate j) owned m apart mine = other_word b i j _ (apart_by_hand b k n i j owned apart mine m)
word_stays b k n i (Pool j) owned m apart mine = refl
word_stays b k n i (Claim (Some j)) owned m apart mine = refl
word_stays b k n i (Claim None) owned m apart mine = refl
word_stays b k n i (SweepPool is) owned m apart mine = refl
word_stays b k n i (Fill j f true) owned m apart mine = refl
word_stays b k n i (Fill j f false) owned m apart mine = refl
word_stays b k n i (Take (Taken j)) owned m apart mine = refl
word_stays b k n i (Take Empty) owned m apart mine = refl
word_stays b k n i (Take Closed) owned m apart mine = refl
word_stays b k n i (SweepOut is) owned m apart mine = refl
word_stays b k n i Close owned m apart mine = refl
word_stays b k n i Post owned m apart mine = refl
word_stays b k n i (Unpost stood) owned m apart mine = refl
word_stays b k n i (Start (Ok done)) owned m apart mine = refl
word_stays b k n i (Start (Err r)) owned m apart mine = refl
word_stays b k n i (Stop kill (Ok done)) owned m apart mine = refl
word_stays b k n i (Stop kill (Err r)) owned m apart mine = refl
word_stays b k n i (Split s) owned m apart mine = refl
word_stays b k n i (Join s) owned m apart mine = refl

-- Entries of others alone leave an actor's hands and the words of the places in them.
pub others_run : (b : Board) (n : ℕ) (h : List Entry) → IsCounted b → RunsFrom b h → own_of n h ≡ [] → (hand (after_from b h) n ≡ hand b n) × ((i : ℕ) → InHand b n i → word_at (after_from b h) i ≡ word_at b i)
others_run b n [] owned runs none = (refl, λ i mine. refl)
others_run b n (e ∷ h) owned runs none =
    let rest = others_run (next b e) n h (keeps_next b e owned runs.0) runs.1 later in
    (rest.0 ∙ same_hand, λ i mine. rest.1 i (subst (λ is. 1 ≤ times i is) (sym same_hand) mine) ∙ word_stays b e.by n i e.event owned runs.0.meets apart mine)
  where
    not_mine : (e.by == n) ≡ false
    not_mine = cond_both (e.by == n) (e ∷ own_of n h) (own_of n h) (λ es. es ≡ [] → (e.by == n) ≡ false) (λ holds bad. absurd (cc)) (λ fails rest. fails) none

    later : own_of n h ≡ []
    later = sym (cond-false (e.by == n) (e ∷ own_of n h) (own_of n h) not_mine) ∙ none

    apart : n ≢ e.by
    apart same_number = eqb-false e.by n not_mine (sym same_number)

    same_hand : hand (next b e) n ≡ hand b n
    same_hand = hand_stays b e.by n e.event runs.0.meets apart
