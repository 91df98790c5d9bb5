-- Each act keeps the count of each place: once where its word is Away, else nowhere.
use Rattle.std.proofs.Common.{◌≡◌, ◌≢◌, ℕ, zero, suc, ◌+◌, ◌≤◌, ◌<◌, ◌^◌, true, false, List, [], ◌∷◌, ◌++◌, length, get_or, replicate, Some, None, Ok, Err, refl, sym, ap, subst, ◌∙◌, arith}
use Rattle.std.proofs.lemmas.List.{length-set, length-replicate}
use Rattle.gentl_types.specs.declared.word.Word.{Word}
use Rattle.gentl_types.specs.declared.word.State.{State}
use Rattle.gentl_types.specs.declared.word.State.TheVariants.{Vacant, Held, Away}
use Rattle.gev_types.specs.Filling.{Filling}
use Rattle.gev_types.specs.Limits.{place_count, max_buffer_size}
use Rattle.board_machine.specs.declared.events.Entry.{Entry}
use Rattle.board_machine.specs.declared.events.Event.{Event}
use Rattle.board_machine.specs.declared.events.Event.TheVariants.{Look, LookPool, LookOut, LookRun, Enrol, Grab, Lay, Vacate, Pool, Claim, SweepPool, Fill, Take, SweepOut, Close, Post, Unpost, Start, Stop, Split, Join}
use Rattle.board_machine.specs.declared.events.TakeEnd.TheVariants.{Taken, Empty, Closed}
use Rattle.board_machine.specs.Places.{same, times, put_all, tail}
use Rattle.board_machine.specs.Machine.{Board, Item, item, vacant, word_at, hand_at, hand, held, places, no_actor, empty_hands, empty_board, IsActor, InHand, Meets, CanBeNext, after_event, next, set_word, picks, drops, with_state}
use Rattle.board_machine.specs.Owners.{tally, due, IsCounted, IsWord}
use Rattle.board_machine.proofs.Places.{same_self, same_other, times-append, times-put, times-put_all}
use Rattle.board_machine.proofs.Boards.{in_hands-set, in_hands-push, actor_within, empty_is_actor}
use Rattle.board_machine.proofs.Counts.{places-append, fits_set, words_set, sized_same, sized_apart, sized_tail, sized_push, tally_hand, tally_picks, tally_drops, stands_away, stands_below, hand_tally}

-- an Away word keeps its limits in another state
with_state_word : (w : Word) (s : State) → w.state ≢ Vacant → IsWord w → IsWord (with_state w s)
with_state_word w s used is = record {
  size = is.size;
  generation = is.generation;
  some_size = λ _. is.some_size used;
  some_generation = λ _. is.some_generation used;
}

pub away_used : (w : Word) (s : State) → w.state ≡ s → s ≢ Vacant → w.state ≢ Vacant
away_used w s e used vacant_state = used (sym e ∙ vacant_state)

pub away_not_vacant : Away ≢ Vacant
away_not_vacant e = cc

pub held_not_vacant : Held ≢ Vacant
held_not_vacant e = cc

-- a place comes into hand from nowhere, with a new word
keeps_pick_word : (b : Board) (k i : ℕ) (w : Word) → IsCounted b → IsActor b k → i < place_count → tally b i ≡ 0 → w.state ≡ Away → IsWord w → IsCounted (set_word (picks b k i) i w)
keeps_pick_word b k i w owned actor below nowhere away is_word = record {
  wide = length-set b.words i w ∙ owned.wide;
  once = fits_set b.words i w (tally (picks b k i)) within here others;
  words = words_set b.words i w within is_word owned.words;
  sized = sized_apart b.words b.out i w none owned.sized;
}
  where
    within : i < length b.words
    within = omega (arith, owned.wide)

    none : times i (places b.out) ≡ 0
    none = omega arith

    one : due w.state ≡ 1
    one = ap due away

    here : tally (picks b k i) i ≡ due w.state
    here = omega (arith, tally_picks b k i i actor, same_self i, one)

    others : (j : ℕ) → j ≢ i → tally (picks b k i) j ≡ due (word_at b j).state
    others j apart = omega (arith, tally_picks b k i j actor, same_other j i apart, owned.once j)

-- a place leaves a hand for nowhere, with a word in another state
keeps_drop_word : (b : Board) (k i : ℕ) (s : State) → IsCounted b → IsActor b k → InHand b k i → due s ≡ 0 → IsCounted (set_word (drops b k i) i (with_state (word_at b i) s))
keeps_drop_word b k i s owned actor in_hand none = record {
  wide = length-set b.words i w ∙ owned.wide;
  once = fits_set b.words i w (tally (drops b k i)) within here others;
  words = words_set b.words i w within is_word owned.words;
  sized = sized_same b.words b.out i w within refl owned.sized;
}
  where
    w : Word
    w = with_state (word_at b i) s

    stands : 1 ≤ tally b i
    stands = hand_tally b k i in_hand

    away : (word_at b i).state ≡ Away
    away = stands_away b i owned stands

    one : due (word_at b i).state ≡ 1
    one = ap due away

    within : i < length b.words
    within = omega (arith, owned.wide, stands_below b i owned stands)

    is_word : IsWord w
    is_word = with_state_word (word_at b i) s (away_used (word_at b i) Away away away_not_vacant) (owned.words i)

    here : tally (drops b k i) i ≡ due s
    here = omega (arith, tally_drops b k i i actor in_hand, same_self i, one, owned.once i)

    others : (j : ℕ) → j ≢ i → tally (drops b k i) j ≡ due (word_at b j).state
    others j apart = omega (arith, tally_drops b k i j actor in_hand, same_other j i apart, owned.once j)

keeps_pool : (b : Board) (k i : ℕ) → IsCounted b → IsActor b k → InHand b k i → IsCounted (after_event b k (Pool i))
keeps_pool b k i owned actor in_hand = record {
  wide = owned.wide;
  once = λ j. omega (arith, tally_drops b k i j actor in_hand, times-put j i b.pool, owned.once j);
  words = owned.words;
  sized = owned.sized;
}

keeps_claim : (b : Board) (k i : ℕ) (rest : List ℕ) → IsCounted b → IsActor b k → b.pool ≡ i ∷ rest → IsCounted (after_event b k (Claim (Some i)))
keeps_claim b k i rest owned actor first = record {
  wide = owned.wide;
  once = λ j. omega (arith, tally_picks b k i j actor, whole j, less j, owned.once j);
  words = owned.words;
  sized = owned.sized;
}
  where
    whole : (j : ℕ) → times j b.pool ≡ same j i + times j rest
    whole j = ap (λ is. times j is) first

    less : (j : ℕ) → times j (tail b.pool) ≡ times j rest
    less j = ap (λ is. times j (tail is)) first

keeps_sweep_pool : (b : Board) (k : ℕ) (is : List ℕ) → IsCounted b → IsActor b k → is ≡ b.pool → IsCounted (after_event b k (SweepPool is))
keeps_sweep_pool b k is owned actor all = record {
  wide = owned.wide;
  once = λ j. omega (arith, tally_hand b k j (put_all is (hand b k)) actor, times-put_all j is (hand b k), whole j, owned.once j);
  words = owned.words;
  sized = owned.sized;
}
  where
    whole : (j : ℕ) → times j is ≡ times j b.pool
    whole j = ap (λ is. times j is) all

keeps_fill : (b : Board) (k i : ℕ) (f : Filling) → IsCounted b → IsActor b k → InHand b k i → length f.bytes ≡ (word_at b i).size → IsCounted (after_event b k (Fill i f true))
keeps_fill b k i f owned actor in_hand size = record {
  wide = owned.wide;
  once = λ j. omega (arith, tally_drops b k i j actor in_hand, more j, owned.once j);
  words = owned.words;
  sized = sized_push b.words b.out (item i f) size owned.sized;
}
  where
    more : (j : ℕ) → times j (places (b.out ++ item i f ∷ [])) ≡ times j (places b.out) + same j i
    more j = omega (arith, ap (λ is. times j is) (places-append b.out (item i f ∷ [])), times-append j (places b.out) (i ∷ []))

keeps_take : (b : Board) (k i : ℕ) (f : Filling) (rest : List Item) → IsCounted b → IsActor b k → b.out ≡ item i f ∷ rest → IsCounted (after_event b k (Take (Taken i)))
keeps_take b k i f rest owned actor first = record {
  wide = owned.wide;
  once = λ j. omega (arith, tally_picks b k i j actor, whole j, less j, owned.once j);
  words = owned.words;
  sized = sized_tail b.words b.out owned.sized;
}
  where
    whole : (j : ℕ) → times j (places b.out) ≡ same j i + times j (places rest)
    whole j = ap (λ xs. times j (places xs)) first

    less : (j : ℕ) → times j (places (tail b.out)) ≡ times j (places rest)
    less j = ap (λ xs. times j (places (tail xs))) first

keeps_sweep_out : (b : Board) (k : ℕ) (is : List ℕ) → IsCounted b → IsActor b k → is ≡ places b.out → IsCounted (after_event b k (SweepOut is))
keeps_sweep_out b k is owned actor all = record {
  wide = owned.wide;
  once = λ j. omega (arith, tally_hand b k j (put_all is (hand b k)) actor, times-put_all j is (hand b k), whole j, owned.once j);
  words = owned.words;
  sized = λ n x h. absurd (cc);
}
  where
    whole : (j : ℕ) → times j is ≡ times j (places b.out)
    whole j = ap (λ is. times j is) all

keeps_split : (b : Board) (k n : ℕ) → IsCounted b → IsCounted (after_event b k (Split n))
keeps_split b k n owned = record {
  wide = owned.wide;
  once = λ j. omega (arith, in_hands-push j b.hands empty_hands, owned.once j);
  words = owned.words;
  sized = owned.sized;
}

keeps_join : (b : Board) (k n : ℕ) → IsCounted b → hand_at b n ≡ empty_hands → IsCounted (after_event b k (Join n))
keeps_join b k n owned empty = record {
  wide = owned.wide;
  once = λ j. omega (arith, in_hands-set j b.hands n no_actor (actor_within b n (empty_is_actor b n empty)), none j, owned.once j);
  words = owned.words;
  sized = owned.sized;
}
  where
    none : (j : ℕ) → times j (hand b n) ≡ 0
    none j = ap (λ h. times j (held h)) empty

enrolled_word : (size g : ℕ) → 1 ≤ size → size ≤ max_buffer_size → 1 ≤ g → g < 2 ^ 32 → IsWord (record { state = Away; size = size; generation = g })
enrolled_word size g some in_limits first last = record { size = in_limits; generation = last; some_size = λ _. some; some_generation = λ _. first }

-- each act keeps one owner for each place
pub keeps : (b : Board) (k : ℕ) (event : Event) → IsCounted b → IsActor b k → Meets b k event → IsCounted (after_event b k event)
keeps b k (Look i w) owned actor m = owned
keeps b k (LookPool is) owned actor m = owned
keeps b k (LookOut is closed) owned actor m = owned
keeps b k (LookRun r) owned actor m = owned
keeps b k (Enrol i size (Ok g)) owned actor m =
    let none : due (word_at b i).state ≡ 0 = ap due m.3.0 in
    let nowhere : tally b i ≡ 0 = omega (arith, owned.once i) in
    let first : 1 ≤ g = omega (arith, m.4) in
    let last : g < 2 ^ 32 = omega (arith, m.4, m.3.1) in
    keeps_pick_word b k i (record { state = Away; size = size; generation = g }) owned actor m.0 nowhere refl (enrolled_word size g m.1 m.2 first last)
keeps b k (Enrol i size (Err w)) owned actor m = owned
keeps b k (Grab i g (Ok done)) owned actor m =
    let none : due (word_at b i).state ≡ 0 = ap due m.1.0 in
    let nowhere : tally b i ≡ 0 = omega (arith, owned.once i) in
    let used : (word_at b i).state ≢ Vacant = away_used (word_at b i) Held m.1.0 held_not_vacant in
    keeps_pick_word b k i (with_state (word_at b i) Away) owned actor m.0 nowhere refl (with_state_word (word_at b i) Away used (owned.words i))
keeps b k (Grab i g (Err w)) owned actor m = owned
keeps b k (Lay i) owned actor m = keeps_drop_word b k i Held owned actor m refl
keeps b k (Vacate i) owned actor m = keeps_drop_word b k i Vacant owned actor m refl
keeps b k (Pool i) owned actor m = keeps_pool b k i owned actor m
keeps b k (Claim (Some i)) owned actor m = keeps_claim b k i m.0 owned actor m.1
keeps b k (Claim None) owned actor m = owned
keeps b k (SweepPool is) owned actor m = keeps_sweep_pool b k is owned actor m
keeps b k (Fill i f true) owned actor m = keeps_fill b k i f owned actor m.0 m.1
keeps b k (Fill i f false) owned actor m = owned
keeps b k (Take (Taken i)) owned actor m = keeps_take b k i m.1.0 m.1.1 owned actor m.1.2
keeps b k (Take Empty) owned actor m = owned
keeps b k (Take Closed) owned actor m = owned
keeps b k (SweepOut is) owned actor m = keeps_sweep_out b k is owned actor m
keeps b k Close owned actor m = record { wide = owned.wide; once = owned.once; words = owned.words; sized = owned.sized }
keeps b k Post owned actor m = record { wide = owned.wide; once = owned.once; words = owned.words; sized = owned.sized }
keeps b k (Unpost stood) owned actor m = record { wide = owned.wide; once = owned.once; words = owned.words; sized = owned.sized }
keeps b k (Start (Ok done)) owned actor m = record { wide = owned.wide; once = owned.once; words = owned.words; sized = owned.sized }
keeps b k (Start (Err r)) owned actor m = owned
keeps b k (Stop kill (Ok done)) owned actor m = record { wide = owned.wide; once = owned.once; words = owned.words; sized = owned.sized }
keeps b k (Stop kill (Err r)) owned actor m = owned
keeps b k (Split n) owned actor m = keeps_split b k n owned
keeps b k (Join n) owned actor m = keeps_join b k n owned m.0

pub keeps_next : (b : Board) (e : Entry) → IsCounted b → CanBeNext b e → IsCounted (next b e)
keeps_next b e owned stands = keeps b e.by e.event owned stands.actor stands.meets

-- every word of the empty board is vacant
pub empty_words : (n i : ℕ) → get_or (replicate n vacant) i vacant ≡ vacant
empty_words zero i = refl
empty_words (suc n) zero = refl
empty_words (suc n) (suc i) = empty_words n i

pub empty_owned : IsCounted empty_board
empty_owned = record {
  wide = length-replicate place_count vacant;
  once = λ j. sym (ap (λ w. due w.state) (empty_words place_count j));
  words = λ j. subst (λ w. IsWord w) (sym (empty_words place_count j)) vacant_word;
  sized = λ n x h. absurd (cc);
}
  where
    vacant_word : IsWord vacant
    vacant_word = record { size = omega arith; generation = omega arith; some_size = λ used. absurd (used refl); some_generation = λ used. absurd (used refl) }
