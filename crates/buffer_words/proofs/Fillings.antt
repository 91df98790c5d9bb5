-- The fill of a buffer into the output keeps the rule.
use Rattle.std.proofs.Common.{◌≡◌, ◌≢◌, ◌⊎◌, ℕ, zero, suc, ◌+◌, ◌<◌, ◌≤◌, true, false, List, [], ◌∷◌, ◌++◌, length, set, get_or, Some, refl, sym, ap, subst, ◌∙◌, inl, inr, eqb, arith}
use Rattle.std.proofs.lemmas.Bool.{cases_lt}
use Rattle.std.specs.Prelude.{slice_get}
use mathlib.Core.Option as opt
use prog.Atomic.{either}
use lib.ListN.{get_elem?}
use Rattle.atomic_table.specs.Table.{State, step, keeps, gives, put_back, Allows}
use Rattle.atomic_table.proofs.Lists.{set_here, set_else, exchanged}
use Rattle.gev_types.specs.Filling.{Filling}
use Rattle.gentl_types.specs.declared.word.State.TheVariants.{Away}
use Rattle.board_machine.specs.declared.events.Event.TheVariants.{Fill}
use Rattle.board_machine.specs.Places.{times}
use Rattle.board_machine.specs.Machine.{Board, Item, item, word_at, places, InHand, entry, drops}
use Rattle.board_machine.specs.Histories.{After}
use Rattle.board_machine.proofs.Counts.{stands_away, hand_tally, in_places, places-append}
use Rattle.board_machine.proofs.Runs.{run_owned, run_in_hand}
use Rattle.buffer_words.specs.declared.view.View.{View}
use Rattle.buffer_words.specs.declared.view.Stage.TheVariants.{Idle}
use Rattle.buffer_words.specs.Codes.{out_code, mark_code}
use Rattle.buffer_words.specs.Rule.{Slot, Homes, idle, Shelved, Kept}
use Rattle.buffer_words.specs.Plays.{Seated, HoldsBuffer}
use Rattle.buffer_words.specs.Output.{AreFields, HasLast, FillsOut, saw_mark, filled}
use Rattle.buffer_words.proofs.Frames.{idle_adds}
use Rattle.buffer_words.proofs.Shelves.{IsApart, apart_in_hand}
use Rattle.buffer_words.proofs.Own.{Makes, follows_idle, looking, hand_now}
use Rattle.buffer_words.proofs.Fields.{out_small, renamed, open_of, closed_of}
use Rattle.buffer_words.proofs.Outs.{with_out, shows_out, shelved_out, out_fields, waiting_out}

-- an entry of a list with one more at its end
push_cases : (xs : List Item) (z : Item) (n : ℕ) (y : Item) → slice_get (xs ++ z ∷ []) n ≡ Some y → (slice_get xs n ≡ Some y) ⊎ (z ≡ y)
push_cases [] z zero y e = inr (cc)
push_cases [] z (suc n) y e = absurd (cc)
push_cases (x ∷ xs) z zero y e = inl e
push_cases (x ∷ xs) z (suc n) y e = push_cases xs z n y e

-- the slots of the output with one more buffer
more_filled : (b : Board) (homes : Homes) (i : ℕ) (f : Filling) → i < 15 → times i (places b.out) ≡ 0 → Shelved b homes
    → (n : ℕ) (y : Item) → slice_get (b.out ++ item i f ∷ []) n ≡ Some y → get_elem? (set homes i (opt.some (Some f))) y.place ≡ opt.some (opt.some (Some y.filling))
more_filled b homes i f below none sh n y e = go (push_cases b.out (item i f) n y e)
  where
    go : (slice_get b.out n ≡ Some y) ⊎ (item i f ≡ y) → get_elem? (set homes i (opt.some (Some f))) y.place ≡ opt.some (opt.some (Some y.filling))
    go (inl there) =
        set_else homes i y.place (opt.some (Some f)) (λ q. absurd (omega (arith, in_places b.out n y there, ap (λ m. times m (places b.out)) q, none)))
        ∙ sh.filled n y there
    go (inr same_item) =
        subst (λ (x : Item). get_elem? (set homes i (opt.some (Some f))) x.place ≡ opt.some (opt.some (Some x.filling))) same_item
        (set_here homes i (opt.some (Some f)) (omega (arith, sh.wide, below)))

sees_by : (i slots id : ℕ) (me : Seated) → me.0.stage ≡ Idle → HoldsBuffer me i → (s : State Slot View) (k : Kept s) → get_elem? s.views id ≡ opt.some me.0
    → (get_or s.words 16 0 < 1152921504606846976) ⊎ (1152921504606846976 ≤ get_or s.words 16 0)
    → Makes s id 16 (get_or s.words 16 0) me (saw_mark i (step slots 16 0 0 opt.none) me (get_or s.words 16 0))
sees_by i slots id me st holds s k at (inl less) =
    let both = waiting_out s id me k st at in
    (idle me.0.number k.history, keeps, tt, both.0, ((λ large. absurd (omega (arith, less, large))), λ _. both.1))
sees_by i slots id me st holds s k at (inr large) =
    let b = After k.history in
    let follows = follows_idle s k id me.0 st at in
    let now : InHand b me.0.number i = hand_now s k me.0.number me.0.seen i follows holds.in_hand in
    let size : length holds.filling.bytes ≡ (word_at b i).size = holds.size ∙ sym (ap (λ w. w.size) (follows.words i now)) in
    let closed = closed_of (get_or s.words 16 0) (out_code (places b.out)) b.closed k.shows.out (out_small (places b.out) (out_fields b (run_owned k.history k.run))) large in
    let event = Fill i holds.filling false in
    let both = looking s id 16 me event k st at (now, size, closed) (λ j q. cc) refl in (
      idle me.0.number (k.history ++ entry me.0.number event ∷ []),
      keeps,
      tt,
      both.0,
      ((λ _. record { filling = holds.filling; front = holds.front; looks = both.1 }), λ less. absurd (omega (arith, less, large))),
    )

pub sees_mark : (i slots id : ℕ) (me : Seated) → me.0.stage ≡ Idle → HoldsBuffer me i → Allows Kept slots id me 16 (λ n. n) (saw_mark i (step slots 16 0 0 opt.none) me)
sees_mark i slots id me st holds s k homes at small = sees_by i slots id me st holds s k at (cases_lt (get_or s.words 16 0) 1152921504606846976)

-- the fill of this buffer
fills_last : (i id old new : ℕ) (me : Seated) → me.0.stage ≡ Idle → HoldsBuffer me i → old < 1152921504606846976 → HasLast old i new
    → (s : State Slot View) (k : Kept s) → get_elem? s.views id ≡ opt.some me.0 → get_or s.words 16 0 ≡ old
    → Makes s id 16 new me (FillsOut me i)
fills_last i id old new me st holds less last s k at hit =
    let b = After k.history in
    let owned = run_owned k.history k.run in
    let follows = follows_idle s k id me.0 st at in
    let now : InHand b me.0.number i = hand_now s k me.0.number me.0.seen i follows holds.in_hand in
    let size : length holds.filling.bytes ≡ (word_at b i).size = holds.size ∙ sym (ap (λ w. w.size) (follows.words i now)) in
    let below : i < 15 = run_in_hand k.history me.0.number i k.run now in
    let apart : IsApart b i = apart_in_hand b me.0.number i owned now in
    let away : (word_at b i).state ≡ Away = stands_away b i owned (hand_tally b me.0.number i now) in
    let is : old ≡ out_code (places b.out) + mark_code b.closed = sym hit ∙ k.shows.out in
    let open_now : b.closed ≡ false = open_of old (out_code (places b.out)) b.closed is less in
    let fields : AreFields old (places b.out) = renamed old (out_code (places b.out)) (places b.out) (omega (arith, is, ap mark_code open_now)) (out_fields b owned) in
    let out = b.out ++ item i holds.filling ∷ [] in
    let number : new ≡ out_code (places out) + mark_code b.closed =
    omega (arith, last (places b.out) fields, ap out_code (places-append b.out (item i holds.filling ∷ [])), ap mark_code open_now) in
    let event = Fill i holds.filling true in
    let hands = (drops b me.0.number i).hands in
    let homes' : put_back s.homes me.1 ≡ set s.homes i (opt.some (Some holds.filling)) = ap (λ c. put_back s.homes c) holds.front in
    let both = idle_adds s id 16 new me.1 gives me.0 event k st at (now, size, open_now) (λ j q. cc)
    (shows_out b hands out b.closed s.words new number k.shows)
    (subst (λ hs. Shelved (with_out b hands out b.closed) hs) (sym homes')
    (shelved_out b hands out s.homes i (opt.some (Some holds.filling)) away apart.pool (more_filled b s.homes i holds.filling below apart.out k.shelved) k.shelved)) in
    (idle me.0.number (k.history ++ entry me.0.number event ∷ []), gives, tt, both.0, record { filling = holds.filling; front = holds.front; gives = record { entered = both.1; slots = refl } })

filled_hit : (i slots id old new : ℕ) (me : Seated) (s : State Slot View) → get_or s.words 16 0 ≡ old → Makes s id 16 new me (FillsOut me i) → Makes s id 16 new me (filled i (step slots 16 old new opt.none) me (get_or s.words 16 0))
filled_hit i slots id old new me s hit made = (made.0, made.1, made.2, made.3, ((λ _. made.4), λ miss. absurd (miss hit)))

fills_hit : (i slots id old new : ℕ) (me : Seated) → me.0.stage ≡ Idle → HoldsBuffer me i → old < 1152921504606846976 → HasLast old i new
    → (s : State Slot View) (k : Kept s) → get_elem? s.views id ≡ opt.some me.0 → get_or s.words 16 0 ≡ old
    → Makes s id 16 new me (filled i (step slots 16 old new opt.none) me (get_or s.words 16 0))
fills_hit i slots id old new me st holds less last s k at hit = filled_hit i slots id old new me s hit (fills_last i id old new me st holds less last s k at hit)

fills_miss : (i slots id old new : ℕ) (me : Seated) → me.0.stage ≡ Idle → (s : State Slot View) (k : Kept s) → get_elem? s.views id ≡ opt.some me.0 → get_or s.words 16 0 ≢ old
    → Makes s id 16 (get_or s.words 16 0) me (filled i (step slots 16 old new opt.none) me (get_or s.words 16 0))
fills_miss i slots id old new me st s k at miss =
    let both = waiting_out s id me k st at in
    (idle me.0.number k.history, keeps, tt, both.0, ((λ hit. absurd (miss hit)), λ _. both.1))

pub fills : (i slots id old new : ℕ) (me : Seated) → me.0.stage ≡ Idle → HoldsBuffer me i → old < 1152921504606846976 → HasLast old i new
    → Allows Kept slots id me 16 (λ n. either (eqb n old) new n) (filled i (step slots 16 old new opt.none) me)
fills i slots id old new me st holds less last s k homes at small =
    exchanged (get_or s.words 16 0) old new
    (λ m. Makes s id 16 m me (filled i (step slots 16 old new opt.none) me (get_or s.words 16 0)))
    (fills_hit i slots id old new me st holds less last s k at)
    (fills_miss i slots id old new me st s k at)
