-- What acts leave of sizes and generations.
use Rattle.std.proofs.Common.{◌≡◌, ◌≢◌, ℕ, ◌≤◌, ◌<◌, true, false, List, [], ◌∷◌, length, get_or, set, Some, None, Ok, Err, refl, sym, ap, subst, inl, inr, ◌⊎◌}
use Rattle.std.proofs.lemmas.Bool.{cases_lt, cases_eq}
use Rattle.std.proofs.lemmas.List.{set_past, get_or-set_other, get_or-set_same}
use Rattle.gev_types.specs.Limits.{place_count}
use Rattle.gentl_types.specs.declared.word.Word.{Word}
use Rattle.gentl_types.specs.declared.word.State.{State}
use Rattle.gentl_types.specs.declared.word.State.TheVariants.{Vacant, Held, Away}
use Rattle.board_machine.specs.declared.events.Entry.{Entry}
use Rattle.board_machine.specs.declared.events.Event.{Event}
use Rattle.board_machine.specs.declared.events.Event.TheVariants.{Look, LookPool, LookOut, LookRun, Enrol, Grab, Lay, Vacate, Pool, Claim, SweepPool, Fill, Take, SweepOut, Close, Post, Unpost, Start, Stop, Split, Join}
use Rattle.board_machine.specs.declared.events.TakeEnd.TheVariants.{Taken, Empty, Closed}
use Rattle.board_machine.specs.Machine.{Board, empty_board, vacant, word_at, InHand, Meets, CanBeNext, after_event, next, with_state}
use Rattle.board_machine.specs.Histories.{after_from, RunsFrom, After, Run}
use Rattle.board_machine.specs.Owners.{due, IsOwned, IsCounted}
use Rattle.board_machine.specs.Sizes.{KeepsBuffer, BringsSize, BringOneSize, HaveOneSize}
use Rattle.board_machine.proofs.Counts.{stands_away, hand_tally}
use Rattle.board_machine.proofs.Keeps.{away_used, held_not_vacant, away_not_vacant, keeps_next, empty_owned, empty_words}
use Rattle.board_machine.proofs.Others.{other_word, apart_by_state, word_stays}
use Rattle.board_machine.proofs.Forms.{cases_owned}

still : (w : Word) → KeepsBuffer w w
still w = record { size = refl; generation = refl }

same_buffer : (v w : Word) → w ≡ v → KeepsBuffer v w
same_buffer v w e = record { size = ap (λ (u : Word). u.size) e; generation = ap (λ (u : Word). u.generation) e }

-- a place's word after another state was written somewhere
keeps_state : (ws : List Word) (j : ℕ) (s : State) (i : ℕ) → KeepsBuffer (get_or ws i vacant) (get_or (set ws j (with_state (get_or ws j vacant) s)) i vacant)
keeps_state ws j s i = go (cases_eq i j) (cases_lt j (length ws))
  where
    w : Word
    w = with_state (get_or ws j vacant) s

    go : (i ≡ j) ⊎ (i ≢ j) → (j < length ws) ⊎ (length ws ≤ j) → KeepsBuffer (get_or ws i vacant) (get_or (set ws j w) i vacant)
    go (inl e) (inl within) =
        let P : ℕ → Type 0 = λ n. KeepsBuffer (get_or ws n vacant) (get_or (set ws j w) n vacant) in
        subst P (sym e) (subst (λ v. KeepsBuffer (get_or ws j vacant) v) (sym (get_or-set_same ws j w vacant within)) (record { size = refl; generation = refl }))
    go (inl e) (inr past) = subst (λ vs. KeepsBuffer (get_or ws i vacant) (get_or vs i vacant)) (sym (set_past ws j w past)) (still (get_or ws i vacant))
    go (inr apart) _ = same_buffer (get_or ws i vacant) _ (get_or-set_other ws j i w vacant apart)

-- the word of a place in the acting actor's own hands
kept_word : (b : Board) (k n : ℕ) (event : Event) → IsCounted b → Meets b k event → InHand b k n → KeepsBuffer (word_at b n) (word_at (after_event b k event) n)
kept_word b k n (Look i w) owned m mine = still (word_at b n)
kept_word b k n (LookPool is) owned m mine = still (word_at b n)
kept_word b k n (LookOut is closed) owned m mine = still (word_at b n)
kept_word b k n (LookRun r) owned m mine = still (word_at b n)
kept_word b k n (Enrol i size (Ok g)) owned m mine = same_buffer (word_at b n) _ (other_word b n i _ (apart_by_state b k n i owned mine (ap due m.3.0)))
kept_word b k n (Enrol i size (Err w)) owned m mine = still (word_at b n)
kept_word b k n (Grab i g (Ok done)) owned m mine = keeps_state b.words i Away n
kept_word b k n (Grab i g (Err w)) owned m mine = still (word_at b n)
kept_word b k n (Lay i) owned m mine = keeps_state b.words i Held n
kept_word b k n (Vacate i) owned m mine = keeps_state b.words i Vacant n
kept_word b k n (Pool i) owned m mine = still (word_at b n)
kept_word b k n (Claim (Some i)) owned m mine = still (word_at b n)
kept_word b k n (Claim None) owned m mine = still (word_at b n)
kept_word b k n (SweepPool is) owned m mine = still (word_at b n)
kept_word b k n (Fill i f true) owned m mine = still (word_at b n)
kept_word b k n (Fill i f false) owned m mine = still (word_at b n)
kept_word b k n (Take (Taken i)) owned m mine = still (word_at b n)
kept_word b k n (Take Empty) owned m mine = still (word_at b n)
kept_word b k n (Take Closed) owned m mine = still (word_at b n)
kept_word b k n (SweepOut is) owned m mine = still (word_at b n)
kept_word b k n Close owned m mine = still (word_at b n)
kept_word b k n Post owned m mine = still (word_at b n)
kept_word b k n (Unpost stood) owned m mine = still (word_at b n)
kept_word b k n (Start (Ok done)) owned m mine = still (word_at b n)
kept_word b k n (Start (Err r)) owned m mine = still (word_at b n)
kept_word b k n (Stop kill (Ok done)) owned m mine = still (word_at b n)
kept_word b k n (Stop kill (Err r)) owned m mine = still (word_at b n)
kept_word b k n (Split s) owned m mine = still (word_at b n)
kept_word b k n (Join j) owned m mine = still (word_at b n)

pub held_stays : (b : Board) (e : Entry) (k i : ℕ) → IsOwned b → CanBeNext b e → InHand b k i → KeepsBuffer (word_at b i) (word_at (next b e) i)
held_stays b e k i owned may mine = go (cases_eq k e.by)
  where
    go : (k ≡ e.by) ⊎ (k ≢ e.by) → KeepsBuffer (word_at b i) (word_at (next b e) i)
    go (inl own) = kept_word b e.by i e.event (cases_owned b owned) may.meets (subst (λ n. InHand b n i) own mine)
    go (inr apart) = same_buffer (word_at b i) _ (word_stays b e.by k i e.event (cases_owned b owned) may.meets apart mine)

-- a word was written that has the size, or is vacant
sized_set : (ws : List Word) (j : ℕ) (w : Word) (size : ℕ) → (w.state ≢ Vacant → w.size ≡ size)
    → ((i : ℕ) → (get_or ws i vacant).state ≢ Vacant → (get_or ws i vacant).size ≡ size)
    → (i : ℕ) → (get_or (set ws j w) i vacant).state ≢ Vacant → (get_or (set ws j w) i vacant).size ≡ size
sized_set ws j w size here have i = go (cases_eq i j) (cases_lt j (length ws))
  where
    Has : Word → Type 0
    Has v = v.state ≢ Vacant → v.size ≡ size

    go : (i ≡ j) ⊎ (i ≢ j) → (j < length ws) ⊎ (length ws ≤ j) → (get_or (set ws j w) i vacant).state ≢ Vacant → (get_or (set ws j w) i vacant).size ≡ size
    go (inl e) (inl within) =
        let P : ℕ → Type 0 = λ n. (get_or (set ws j w) n vacant).state ≢ Vacant → (get_or (set ws j w) n vacant).size ≡ size in
        subst P (sym e) (subst (λ (v : Word). v.state ≢ Vacant → v.size ≡ size) (sym (get_or-set_same ws j w vacant within)) here)
    go (inl e) (inr past) = subst (λ (vs : List Word). (get_or vs i vacant).state ≢ Vacant → (get_or vs i vacant).size ≡ size) (sym (set_past ws j w past)) (have i)
    go (inr apart) _ = subst (λ (v : Word). v.state ≢ Vacant → v.size ≡ size) (sym (get_or-set_other ws j i w vacant apart)) (have i)

in_hand_used : (b : Board) (k i : ℕ) → IsCounted b → InHand b k i → (word_at b i).state ≢ Vacant
in_hand_used b k i owned mine = away_used (word_at b i) Away (stands_away b i owned (hand_tally b k i mine)) away_not_vacant

one_size_next : (b : Board) (k bytes : ℕ) (event : Event) → IsCounted b → Meets b k event → BringsSize bytes event → HaveOneSize bytes b → HaveOneSize bytes (after_event b k event)
one_size_next b k bytes (Look i w) owned m brings have = have
one_size_next b k bytes (LookPool is) owned m brings have = have
one_size_next b k bytes (LookOut is closed) owned m brings have = have
one_size_next b k bytes (LookRun r) owned m brings have = have
one_size_next b k bytes (Enrol i size (Ok g)) owned m brings have = sized_set b.words i _ bytes (λ _. brings) have
one_size_next b k bytes (Enrol i size (Err w)) owned m brings have = have
one_size_next b k bytes (Grab i g (Ok done)) owned m brings have = sized_set b.words i _ bytes (λ _. have i (away_used (word_at b i) Held m.1.0 held_not_vacant)) have
one_size_next b k bytes (Grab i g (Err w)) owned m brings have = have
one_size_next b k bytes (Lay i) owned m brings have = sized_set b.words i _ bytes (λ _. have i (in_hand_used b k i owned m)) have
one_size_next b k bytes (Vacate i) owned m brings have = sized_set b.words i _ bytes (λ used. absurd (used refl)) have
one_size_next b k bytes (Pool i) owned m brings have = have
one_size_next b k bytes (Claim (Some i)) owned m brings have = have
one_size_next b k bytes (Claim None) owned m brings have = have
one_size_next b k bytes (SweepPool is) owned m brings have = have
one_size_next b k bytes (Fill i f true) owned m brings have = have
one_size_next b k bytes (Fill i f false) owned m brings have = have
one_size_next b k bytes (Take (Taken i)) owned m brings have = have
one_size_next b k bytes (Take Empty) owned m brings have = have
one_size_next b k bytes (Take Closed) owned m brings have = have
one_size_next b k bytes (SweepOut is) owned m brings have = have
one_size_next b k bytes Close owned m brings have = have
one_size_next b k bytes Post owned m brings have = have
one_size_next b k bytes (Unpost stood) owned m brings have = have
one_size_next b k bytes (Start (Ok done)) owned m brings have = have
one_size_next b k bytes (Start (Err r)) owned m brings have = have
one_size_next b k bytes (Stop kill (Ok done)) owned m brings have = have
one_size_next b k bytes (Stop kill (Err r)) owned m brings have = have
one_size_next b k bytes (Split s) owned m brings have = have
one_size_next b k bytes (Join j) owned m brings have = have

one_size_from : (b : Board) (size : ℕ) (h : List Entry) → IsCounted b → RunsFrom b h → BringOneSize size h → HaveOneSize size b → HaveOneSize size (after_from b h)
one_size_from b size [] owned runs brings have = have
one_size_from b size (e ∷ h) owned runs brings have =
    one_size_from (next b e) size h (keeps_next b e owned runs.0) runs.1 brings.1 (one_size_next b e.by size e.event owned runs.0.meets brings.0 have)

pub one_size : (h : List Entry) (size : ℕ) → Run h → BringOneSize size h → HaveOneSize size (After h)
one_size h size run brings = one_size_from empty_board size h empty_owned run brings (λ i used. absurd (used (ap (λ (w : Word). w.state) (empty_words place_count i))))
