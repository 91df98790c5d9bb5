-- The take of the output's first place keeps the rule.
use Rattle.std.proofs.Common.{◌≡◌, ◌≢◌, ◌⊎◌, ℕ, suc, ◌+◌, ◌*◌, ◌/◌, ◌<◌, ◌≤◌, Bool, false, List, [], ◌∷◌, ◌++◌, length, set, get_or, Some, refl, sym, ap, ◌∙◌, inl, inr, eqb, arith}
use Rattle.std.proofs.lemmas.Bool.{cases_eq, cases_lt}
use Rattle.std.specs.Prelude.{slice_get}
use mathlib.Core.Option as opt
use prog.Atomic.{either}
use lib.ListN.{get_elem?}
use Rattle.atomic_table.specs.Table.{State, step, keeps, takes, Allows}
use Rattle.atomic_table.proofs.Lists.{set_else, exchanged}
use Rattle.gev_types.specs.Filling.{Filling}
use Rattle.gentl_types.specs.declared.word.State.TheVariants.{Away}
use Rattle.board_machine.specs.declared.events.Entry.{Entry}
use Rattle.board_machine.specs.declared.events.Event.{Event}
use Rattle.board_machine.specs.declared.events.Event.TheVariants.{Take}
use Rattle.board_machine.specs.declared.events.TakeEnd.TheVariants.{Taken, Empty, Closed}
use Rattle.board_machine.specs.Places.{same, times, tail}
use Rattle.board_machine.specs.Machine.{Board, Item, item, word_at, places, entry, next, picks}
use Rattle.board_machine.specs.Histories.{Run, After}
use Rattle.board_machine.specs.Laws.{TakesFirst}
use Rattle.board_machine.specs.Handout.{removed_items}
use Rattle.board_machine.proofs.Places.{same_self}
use Rattle.board_machine.proofs.Counts.{stands_away, in_places, due_le}
use Rattle.board_machine.proofs.Runs.{run_owned, after-push}
use Rattle.board_machine.proofs.Room.{out_few}
use Rattle.board_machine.proofs.Handed.{take_hands}
use Rattle.buffer_words.specs.declared.view.View.{View}
use Rattle.buffer_words.specs.declared.view.Stage.TheVariants.{Idle}
use Rattle.buffer_words.specs.Codes.{out_code, mark_code}
use Rattle.buffer_words.specs.Rule.{Slot, Homes, idle, Shelved, Kept}
use Rattle.buffer_words.specs.Plays.{Seated}
use Rattle.buffer_words.specs.Output.{TakesOut, first_in, saw_first, took}
use Rattle.buffer_words.proofs.Frames.{idle_adds}
use Rattle.buffer_words.proofs.Own.{Makes, looking}
use Rattle.buffer_words.proofs.Outs.{shows_out, shelved_out, out_fields, waiting_out}
use Rattle.buffer_words.proofs.Fields.{out_small, open_of, closed_of}

no_items : (out : List Item) → out_code (places out) ≡ 0 → out ≡ []
no_items [] none = refl
no_items (x ∷ out) none = absurd (omega (arith, none))

-- the output's first entry, whose place stands in the lowest field
record FirstItem (out : List Item) (n : ℕ) : Type 0 where
  pub filling : Filling
  pub rest : List Item
  pub is : out ≡ item (first_in n) filling ∷ rest

first_item : (n : ℕ) (closed : Bool) (out : List Item) → n ≡ out_code (places out) + mark_code closed → closed ≡ false → 0 < n → ((i : ℕ) → 1 ≤ times i (places out) → i < 15) → FirstItem out n
first_item n closed [] is open_now some below = absurd (omega (arith, is, ap mark_code open_now, some))
first_item n closed (x ∷ out) is open_now some below =
    let small : x.place < 15 = below x.place (omega (arith, same_self x.place)) in
    let place : x.place ≡ first_in n = omega (arith, is, ap mark_code open_now, small) in
    record { filling = x.filling; rest = out; is = ap (λ i. item i x.filling ∷ out) place }

sees_by : (slots id : ℕ) (me : Seated) → me.0.stage ≡ Idle → (s : State Slot View) (k : Kept s) → get_elem? s.views id ≡ opt.some me.0
    → (get_or s.words 16 0 < 1152921504606846976) ⊎ (1152921504606846976 ≤ get_or s.words 16 0) → (get_or s.words 16 0 ≡ 0) ⊎ (get_or s.words 16 0 ≢ 0)
    → Makes s id 16 (get_or s.words 16 0) me (saw_first (step slots 16 0 0 opt.none) me (get_or s.words 16 0))
sees_by slots id me st s k at (inr large) zero_or =
    let b = After k.history in
    let small = out_small (places b.out) (out_fields b (run_owned k.history k.run)) in
    let both = looking s id 16 me (Take Closed) k st at (closed_of (get_or s.words 16 0) (out_code (places b.out)) b.closed k.shows.out small large) (λ j q. cc) refl in (
      idle me.0.number (k.history ++ entry me.0.number (Take Closed) ∷ []),
      keeps,
      tt,
      both.0,
      ((λ _. both.1), (λ e. absurd (omega (arith, e, large))), (λ some less. absurd (omega (arith, less, large)))),
    )
sees_by slots id me st s k at (inl less) (inl none) =
    let b = After k.history in
    let open_now = open_of (get_or s.words 16 0) (out_code (places b.out)) b.closed k.shows.out less in
    let both = looking s id 16 me (Take Empty) k st at (open_now, no_items b.out (omega (arith, k.shows.out, none))) (λ j q. cc) refl in (
      idle me.0.number (k.history ++ entry me.0.number (Take Empty) ∷ []),
      keeps,
      tt,
      both.0,
      ((λ large. absurd (omega (arith, less, large))), (λ _. both.1), (λ some _. absurd (omega (arith, some, none)))),
    )
sees_by slots id me st s k at (inl less) (inr some) =
    let both = waiting_out s id me k st at in
    (idle me.0.number k.history, keeps, tt, both.0, ((λ large. absurd (omega (arith, less, large))), (λ none. absurd (some none)), (λ _ _. both.1)))

pub sees_first : (slots id : ℕ) (me : Seated) → me.0.stage ≡ Idle → Allows Kept slots id me 16 (λ n. n) (saw_first (step slots 16 0 0 opt.none) me)
sees_first slots id me st s k homes at small =
    sees_by slots id me st s k at (cases_lt (get_or s.words 16 0) 1152921504606846976) (cases_eq (get_or s.words 16 0) 0)

-- what is left of the output, where its first place is single
left_filled : (b : Board) (homes : Homes) (i : ℕ) (f : Filling) (rest : List Item) → b.out ≡ item i f ∷ rest → times i (places b.out) ≤ 1 → Shelved b homes
    → (n : ℕ) (y : Item) → slice_get (tail b.out) n ≡ Some y → get_elem? (set homes i opt.none) y.place ≡ opt.some (opt.some (Some y.filling))
left_filled b homes i f rest first single sh n y e =
    let left : slice_get rest n ≡ Some y = ap (λ xs. slice_get (tail xs) n) (sym first) ∙ e in
    set_else homes i y.place opt.none
    (λ q. absurd (omega (arith, in_places rest n y left, ap (λ m. times m (places rest)) q, ap (λ xs. times i (places xs)) first, same_self i, single)))
    ∙ sh.filled (suc n) y (ap (λ xs. slice_get xs (suc n)) first ∙ left)

-- the size of a place's word after an entry that leaves the word
size_after : (h : List Entry) (n i : ℕ) (event : Event) → word_at (next (After h) (entry n event)) i ≡ word_at (After h) i → (word_at (After h) i).size ≡ (word_at (After (h ++ entry n event ∷ [])) i).size
size_after h n i event same_word = sym (ap (λ b. (word_at b i).size) (after-push h (entry n event)) ∙ ap (λ w. w.size) same_word)

-- what was taken out ends with the first of the output
removes_first : (h : List Entry) (e : Entry) (i : ℕ) (f : Filling) (rest : List Item) → Run (h ++ e ∷ []) → e.event ≡ Take (Taken i) → (After h).out ≡ item i f ∷ rest → removed_items (h ++ e ∷ []) ≡ removed_items h ++ item i f ∷ []
removes_first h e i f rest run is first = told.removes ∙ ap (λ x. removed_items h ++ x ∷ []) (one (sym told.first ∙ first))
  where
    told : TakesFirst h i e
    told = take_hands h e i run is

    one : item i told.filling ∷ told.rest ≡ item i f ∷ rest → item i told.filling ≡ item i f
    one both = cc

-- the take of this place
takes_first : (id old i : ℕ) (f : Filling) (rest : List Item) (me : Seated) → me.0.stage ≡ Idle → (s : State Slot View) (k : Kept s) → get_elem? s.views id ≡ opt.some me.0
    → get_or s.words 16 0 ≡ old → (After k.history).closed ≡ false → (After k.history).out ≡ item i f ∷ rest
    → Makes s id 16 (old / 16) me (TakesOut me i)
takes_first id old i f rest me st s k at hit open_now first =
    let b = After k.history in
    let owned = run_owned k.history k.run in
    let few = out_few b owned in
    let once : times i (places b.out) ≡ same i i + times i (places rest) = ap (λ xs. times i (places xs)) first in
    let some : 1 ≤ times i (places b.out) = omega (arith, once, same_self i) in
    let below : i < 15 = few.below i some in
    let away : (word_at b i).state ≡ Away = stands_away b i owned (omega (arith, some)) in
    let unpooled : times i b.pool ≡ 0 = omega (arith, some, owned.once i, due_le (word_at b i).state) in
    let size : length f.bytes ≡ (word_at b i).size = owned.sized 0 (item i f) (ap (λ xs. slice_get xs 0) first) in
    let event = Take (Taken i) in
    let hands = (picks b me.0.number i).hands in
    let after : out_code (places b.out) ≡ (i + 1) + 16 * out_code (places (tail b.out)) = ap (λ xs. out_code (places xs)) first ∙ ap (λ xs. (i + 1) + 16 * out_code (places (tail xs))) (sym first) in
    let number : old / 16 ≡ out_code (places (tail b.out)) + mark_code b.closed = omega (arith, hit, k.shows.out, after, ap mark_code open_now, below) in
    let both = idle_adds s id 16 (old / 16) me.1 (takes i (Some f)) me.0 event k st at (open_now, (f, rest, first)) (λ j q. cc)
    (shows_out b hands (tail b.out) b.closed s.words (old / 16) number k.shows)
    (shelved_out b hands (tail b.out) s.homes i opt.none away unpooled (left_filled b s.homes i f rest first (few.once i) k.shelved) k.shelved) in (
      idle me.0.number (k.history ++ entry me.0.number event ∷ []),
      takes i (Some f),
      k.shelved.filled 0 (item i f) (ap (λ xs. slice_get xs 0) first),
      both.0,
      record {
        takes = record { filling = f; takes = record { entered = both.1; slots = refl }; size = size ∙ size_after k.history me.0.number i event refl };
        earlier = removed_items k.history;
        removed = removes_first k.history (entry me.0.number event) i f rest both.1.run refl first;
      },
    )

took_hit : (slots id old new : ℕ) (me : Seated) (s : State Slot View) → get_or s.words 16 0 ≡ old → Makes s id 16 new me (TakesOut me (first_in old)) → Makes s id 16 new me (took (step slots 16 old new opt.none) me (get_or s.words 16 0))
took_hit slots id old new me s hit made = (made.0, made.1, made.2, made.3, ((λ _. made.4), λ miss. absurd (miss hit)))

takes_hit : (slots id old : ℕ) (me : Seated) → me.0.stage ≡ Idle → 0 < old → old < 1152921504606846976 → (s : State Slot View) (k : Kept s) → get_elem? s.views id ≡ opt.some me.0
    → get_or s.words 16 0 ≡ old
    → Makes s id 16 (old / 16) me (took (step slots 16 old (old / 16) opt.none) me (get_or s.words 16 0))
takes_hit slots id old me st some less s k at hit =
    let b = After k.history in
    let is : old ≡ out_code (places b.out) + mark_code b.closed = sym hit ∙ k.shows.out in
    let open_now = open_of old (out_code (places b.out)) b.closed is less in
    let first = first_item old b.closed b.out is open_now some (out_few b (run_owned k.history k.run)).below in
    took_hit slots id old (old / 16) me s hit (takes_first id old (first_in old) first.filling first.rest me st s k at hit open_now first.is)

takes_miss : (slots id old new : ℕ) (me : Seated) → me.0.stage ≡ Idle → (s : State Slot View) (k : Kept s) → get_elem? s.views id ≡ opt.some me.0 → get_or s.words 16 0 ≢ old
    → Makes s id 16 (get_or s.words 16 0) me (took (step slots 16 old new opt.none) me (get_or s.words 16 0))
takes_miss slots id old new me st s k at miss =
    let both = waiting_out s id me k st at in
    (idle me.0.number k.history, keeps, tt, both.0, ((λ hit. absurd (miss hit)), λ _. both.1))

pub takes_out : (slots id old : ℕ) (me : Seated) → me.0.stage ≡ Idle → 0 < old → old < 1152921504606846976
    → Allows Kept slots id me 16 (λ n. either (eqb n old) (old / 16) n) (took (step slots 16 old (old / 16) opt.none) me)
takes_out slots id old me st some less s k homes at small =
    exchanged (get_or s.words 16 0) old (old / 16)
    (λ m. Makes s id 16 m me (took (step slots 16 old (old / 16) opt.none) me (get_or s.words 16 0)))
    (takes_hit slots id old me st some less s k at)
    (takes_miss slots id old (old / 16) me st s k at)
