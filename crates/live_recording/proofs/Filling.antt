-- All that was filled in a live run's history, and what was taken of it.
use Rattle.std.proofs.Common.{◌≡◌, ℕ, ◌==◌, Bool, true, false, cond, List, [], ◌∷◌, ◌++◌, length, map, refl, sym, ap, subst, ◌∙◌, append_assoc, drop, arith}
use Rattle.std.proofs.lemmas.Bool.{eq-eqb}
use Rattle.std.proofs.lemmas.List.{take-append-drop}
use Rattle.gev_types.specs.Filling.{Filling}
use Rattle.board_machine.specs.declared.events.Entry.{Entry}
use Rattle.board_machine.specs.declared.events.Event.{Event}
use Rattle.board_machine.specs.declared.events.Event.TheVariants.{Fill, Take, SweepOut, Claim}
use Rattle.board_machine.specs.declared.events.TakeEnd.TheVariants.{Taken}
use Rattle.board_machine.specs.Places.{IsPrefix}
use Rattle.board_machine.specs.Kinds.{HasNone, is_fill_refused}
use Rattle.board_machine.specs.Machine.{Item}
use Rattle.board_machine.specs.Histories.{own_of}
use Rattle.board_machine.specs.Handout.{filled_by, filled, removed, marks_by, marks, marked, removed_items, handed_items, taken_items, every_actor}
use Rattle.board_machine.specs.Adding.{entries_of}
use Rattle.board_machine.proofs.Places.{same_is}
use Rattle.board_machine.proofs.Quiet.{open_takes_fills}
use Rattle.acquisition_machine.specs.declared.config.AcqConfig.{AcqConfig}
use Rattle.acquisition_machine.specs.declared.retired.Retired.{Retired}
use Rattle.acquisition_machine.specs.Blocks.{fills}
use Rattle.acquisition_machine.specs.Machine.{Input}
use Rattle.acquisition_machine.specs.Runs.{first_state, retired_from}
use Rattle.acquisition_machine.specs.Erased.{images}
use Rattle.block_fills.specs.Fills.{tried_by, tried, item_of, retired_items}
use Rattle.buffer_words.specs.Workers.{AreOf, AreEvents, OnlyBy}
use Rattle.gev_live.specs.Kinds.{is_live, is_filling}
use Rattle.board_calls.specs.declared.mode.Mode.{Mode}
use Rattle.gev_live.specs.History.{Crew, live_size, LiveHistory}
use Rattle.gev_live.proofs.Quiet.{is_beginning, beginning_are, none_both, never_closed}
use Rattle.live_recording.specs.Replayed.{contents}

-- ---- what was filled is what the reader tried to fill

same_filled : (event : Event) → is_fill_refused event ≡ false → filled_by event ≡ tried_by event
same_filled (Fill i f true) well = refl
same_filled (Fill i f false) well = absurd (cc)
same_filled _ well = refl

-- all claims and fills are actor k's
abbrev ByOne : ℕ → List Entry → Type 0
ByOne k [] = Unit {0}
ByOne k (e ∷ h) = (is_filling e.event ≡ true → e.by ≡ k) × ByOne k h

begins_unfilled : (event : Event) → is_beginning event ≡ true → is_filling event ≡ true → ⊥
begins_unfilled (Claim place) begins is = absurd (cc)
begins_unfilled (Fill i f filled) begins is = absurd (cc)
begins_unfilled _ begins is = absurd (cc)

beginning_by : (k n : ℕ) (es : List Event) → AreEvents is_beginning es → ByOne k (entries_of n es)
beginning_by k n [] are = tt
beginning_by k n (e ∷ es) are = ((λ is. absurd (begins_unfilled e are.0 is)), beginning_by k n es are.1)

since_by : (k : ℕ) (es : List Entry) → OnlyBy is_filling (k ∷ []) es → ByOne k es
since_by k [] only = tt
since_by k (e ∷ es) only = ((λ is. same_is e.by k (omega (arith, only.0 is))), since_by k es only.1)

by_both : (k : ℕ) (g h : List Entry) → ByOne k g → ByOne k h → ByOne k (g ++ h)
by_both k [] h first second = second
by_both k (e ∷ g) h first second = (first.0, by_both k g h first.1 second)

by_reader : (mode : Mode) (buffers : ℕ) (k : Crew) (h : List Entry) → LiveHistory mode buffers k h → ByOne k.reader h
by_reader mode buffers k h history =
    subst (λ l. ByOne k.reader l) (sym history.begins)
    (by_both k.reader (entries_of 0 history.prepared) history.since (beginning_by k.reader 0 history.prepared (beginning_are live_size buffers history.prepared history.prepares))
    (since_by k.reader history.since history.fills))

none_filled : (k by : ℕ) (event : Event) → (by == k) ≡ false → (is_filling event ≡ true → by ≡ k) → filled_by event ≡ []
none_filled k by (Fill i f filled) other own = let same : (by == k) ≡ true = eq-eqb by k (own refl) in absurd (cc)
none_filled k by _ other own = refl

one_filled : (k : ℕ) (e : Entry) (own later : List Entry) (mine : Bool) → (e.by == k) ≡ mine → (is_filling e.event ≡ true → e.by ≡ k) → is_fill_refused e.event ≡ false → filled later ≡ tried own
    → filled_by e.event ++ filled later ≡ tried (cond mine (e ∷ own) own)
one_filled k e own later true so alone well rest = ap (λ l. l ++ filled later) (same_filled e.event well) ∙ ap (λ l. tried_by e.event ++ l) rest
one_filled k e own later false so alone well rest = ap (λ l. l ++ filled later) (none_filled k e.by e.event so alone) ∙ rest

filled_tried : (k : ℕ) (h : List Entry) → ByOne k h → HasNone is_fill_refused h → filled h ≡ tried (own_of k h)
filled_tried k [] alone none = refl
filled_tried k (e ∷ h) alone none = one_filled k e (own_of k h) h (e.by == k) refl alone.0 none.0 (filled_tried k h alone.1 none.1)

contents_retired : (xs : List Retired) → contents (map item_of xs) ≡ images xs
contents_retired [] = refl
contents_retired (x ∷ xs) = ap (λ (fs : List Filling). x.buf ∷ fs) (contents_retired xs)

-- all that was filled, wherever it lay, is what the reader's inputs retire
pub filled_images : (mode : Mode) (c : AcqConfig) (buffers : ℕ) (k : Crew) (h : List Entry) (q : List Input) → LiveHistory mode buffers k h → tried (own_of k.reader h) ≡ retired_items c q
    → contents (filled h) ≡ images (fills c.p (retired_from c first_state q))
filled_images mode c buffers k h q history is =
    ap contents (filled_tried k.reader h (by_reader mode buffers k h history) unrefused ∙ is) ∙ contents_retired (fills c.p (retired_from c first_state q))
  where
    unrefused : HasNone is_fill_refused h
    unrefused = open_takes_fills [] h history.run refl (never_closed live_size buffers history.prepared history.since h history.prepares history.begins history.kinds)

-- ---- nobody sweeps, so what was taken is a front

abbrev is_sweep : Event → Bool
is_sweep (SweepOut places) = true
is_sweep _ = false

begins_unswept : (event : Event) → is_beginning event ≡ true → is_sweep event ≡ false
begins_unswept (SweepOut places) is = absurd (cc)
begins_unswept _ is = refl

live_unswept : (event : Event) → is_live event ≡ true → is_sweep event ≡ false
live_unswept (SweepOut places) is = absurd (cc)
live_unswept _ is = refl

events_unswept : (n : ℕ) (es : List Event) → AreEvents is_beginning es → HasNone is_sweep (entries_of n es)
events_unswept n [] are = tt
events_unswept n (e ∷ es) are = (begins_unswept e are.0, events_unswept n es are.1)

since_unswept : (es : List Entry) → AreOf is_live es → HasNone is_sweep es
since_unswept [] are = tt
since_unswept (e ∷ es) are = (live_unswept e.event are.0, since_unswept es are.1)

never_swept : (mode : Mode) (buffers : ℕ) (k : Crew) (h : List Entry) → LiveHistory mode buffers k h → HasNone is_sweep h
never_swept mode buffers k h history =
    subst (λ l. HasNone is_sweep l) (sym history.begins)
    (none_both is_sweep (entries_of 0 history.prepared) history.since (events_unswept 0 history.prepared (beginning_are live_size buffers history.prepared history.prepares)) (since_unswept history.since history.kinds))

abbrev AreTrue : List Bool → Type 0
AreTrue [] = Unit {0}
AreTrue (m ∷ ms) = (m ≡ true) × AreTrue ms

true_both : (ms ns : List Bool) → AreTrue ms → AreTrue ns → AreTrue (ms ++ ns)
true_both [] ns first second = second
true_both (m ∷ ms) ns first second = (first.0, true_both ms ns first.1 second)

one_true : (by : ℕ) (event : Event) → is_sweep event ≡ false → AreTrue (marks_by every_actor by event)
one_true by (Take (Taken i)) none = (refl, tt)
one_true by (SweepOut places) none = absurd (cc)
one_true by _ none = tt

all_true : (h : List Entry) → HasNone is_sweep h → AreTrue (marks every_actor h)
all_true [] none = tt
all_true (e ∷ h) none = true_both (marks_by every_actor e.by e.event) (marks every_actor h) (one_true e.by e.event none.0) (all_true h none.1)

marked_front : (ms : List Bool) (xs : List Item) → AreTrue ms → IsPrefix (marked ms xs) xs
marked_front [] xs all = record { rest = xs; is = refl }
marked_front (m ∷ ms) [] all = record { rest = []; is = refl }
marked_front (true ∷ ms) (x ∷ xs) all = let later : IsPrefix (marked ms xs) xs = marked_front ms xs all.1 in record { rest = later.rest; is = ap (λ (l : List Item). x ∷ l) later.is }
marked_front (false ∷ ms) (x ∷ xs) all = let bad : false ≡ true = all.0 in absurd (cc)

contents-append : (xs ys : List Item) → contents (xs ++ ys) ≡ contents xs ++ contents ys
contents-append [] ys = refl
contents-append (x ∷ xs) ys = ap (λ (fs : List Filling). x.filling ∷ fs) (contents-append xs ys)

-- what the application took comes first in what was filled
pub taken_front : (mode : Mode) (buffers : ℕ) (k : Crew) (h : List Entry) → LiveHistory mode buffers k h → handed_items h ≡ taken_items k.application h → IsPrefix (contents (taken_items k.application h)) (contents (filled h))
taken_front mode buffers k h history handed =
    subst (λ l. IsPrefix (contents l) (contents (filled h))) handed
    (record { rest = contents (front.rest ++ drop (length (removed h)) (filled h)); is = whole })
  where
    front : IsPrefix (handed_items h) (removed_items h)
    front = marked_front (marks every_actor h) (removed_items h) (all_true h (never_swept mode buffers k h history))

    whole : contents (filled h) ≡ contents (handed_items h) ++ contents (front.rest ++ drop (length (removed h)) (filled h))
    whole =
        ap contents (sym (take-append-drop (length (removed h)) (filled h))
        ∙ (ap (λ (l : List Item). l ++ drop (length (removed h)) (filled h)) front.is ∙ append_assoc (handed_items h) front.rest (drop (length (removed h)) (filled h))))
        ∙ contents-append (handed_items h) (front.rest ++ drop (length (removed h)) (filled h))
