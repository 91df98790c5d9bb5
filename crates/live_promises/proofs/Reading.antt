-- The reader's part in the whole history.
use Rattle.std.proofs.Common.{◌≡◌, ℕ, Bool, true, false, List, [], ◌∷◌, ◌++◌, refl, sym, ap, subst, ◌∙◌}
use Rattle.std.proofs.lemmas.List.{append-nil}
use Rattle.board_machine.specs.declared.events.Entry.{Entry}
use Rattle.board_machine.specs.declared.events.Event.{Event}
use Rattle.board_machine.specs.declared.events.Event.TheVariants as act
use Rattle.board_machine.specs.Places.{IsPrefix}
use Rattle.board_machine.specs.Machine.{empty_board}
use Rattle.board_machine.specs.Histories.{Run, own_of}
use Rattle.board_machine.specs.Adding.{entries_of}
use Rattle.board_machine.specs.Sizes.{BringOneSize}
use Rattle.board_machine.specs.Kinds.{HasNone, is_fill_refused}
use Rattle.board_machine.proofs.Quiet.{none_front, none_rest}
use Rattle.board_machine.proofs.Runs.{own_of-append}
use Rattle.acquisition_machine.specs.declared.config.AcqConfig.{AcqConfig}
use Rattle.acquisition_machine.specs.declared.counts.Counts.{Counts}
use Rattle.acquisition_machine.specs.declared.retired.Retired.{Retired}
use Rattle.acquisition_machine.specs.Machine.{Input, State, tick, stop}
use Rattle.acquisition_machine.specs.Runs.{after_from, After}
use Rattle.block_fills.specs.Fills.{tried, retired_items}
use Rattle.block_fills.proofs.Tries.{items_from, items_from-append, entries-append}
use Rattle.buffer_words.specs.Passes.{Token, own}
use Rattle.buffer_words.specs.Several.{EntersEach}
use Rattle.buffer_words.specs.Workers.{AreOf, AreEvents}
use Rattle.buffer_words.proofs.Working.{are_of_entries}
use Rattle.board_calls.specs.declared.mode.Mode.{Mode}
use Rattle.gev_links.specs.Links.{Address}
use Rattle.packet_requests.specs.declared.id_mode.IdMode.{IdMode}
use Rattle.gev_acq.specs.Filling.{laid_unless}
use Rattle.gev_acq.specs.Serving.{Serves}
use Rattle.gev_acq.specs.Claims.{claims_in, met_by, claims_by}
use Rattle.gev_acq.specs.Turns.{Turned, Outside, inputs_of}
use Rattle.gev_acq.specs.Acquired.{inputs_in, ServesTurns}
use Rattle.gev_acq.specs.Kinds.{is_strict_readers}
use Rattle.gev_acq.specs.History.{AreSized}
use Rattle.gev_acq.proofs.Filled.{tried_both, served_fills, turns_fill}
use Rattle.gev_acq.proofs.OfKind.{drops_so}
use Rattle.gev_acq.proofs.Parts.{Holds, served_hold}
use Rattle.gev_acq.proofs.Whole.{claims_whole, claims_sized, met_sized}
use Rattle.camera_reader.specs.declared.reader_end.ReaderEnd.{ReaderEnd}
use Rattle.camera_reader.specs.declared.reader_end.ReaderEnd.TheVariants.{Stopped, Silent, Ended}
use Rattle.gev_receive.specs.Reader.{LastLook, inputs_from, ReadsFrames}
use Rattle.gev_receive.specs.Frames.{CameraReading}

-- the receiver that was told a moment
abbrev pub begun : AcqConfig → ℕ → State
begun c begin = After c (tick begin ∷ [])

-- all that a new pass did is what it entered
own_entered : (s t : Token) (events : List Event) → own s ≡ [] → EntersEach s events t → own t ≡ entries_of s.number events
own_entered s t events none e =
    ap (λ n. own_of n t.seen) e.number
    ∙ (ap (λ l. own_of s.number l) e.seen
    ∙ (own_of-append s.number s.seen e.between ∙ (ap (λ l. l ++ own_of s.number e.between) none ∙ e.own)))

pub part_stays : (mode : Mode) (c : AcqConfig) (ids : IdMode) (camera : Address) (silence : ℕ) (o n : Outside) (counts : Counts) (end : ReaderEnd) (s t : Token)
    (reads : ReadsFrames mode c ids camera silence o n counts end s t) (h : List Entry) → own s ≡ [] → IsPrefix t.seen h → own_of s.number h ≡ own t
    → CameraReading mode c s.number end reads.begin reads.made h
part_stays mode c ids camera silence o n counts end s t reads h none front whole = record {
  turned = reads.turned;
  turns = reads.on.serves;
  last = reads.last;
  looks = reads.on.looks;
  drained = reads.drained;
  drains = reads.drains;
  answer = reads.answer;
  own = whole ∙ own_entered s t _ none reads.enters;
  claims =
      claims_whole mode (inputs_in reads.made) s t front.rest none reads.enters.number (subst (λ l. own_of s.number l ≡ own t) front.is whole) reads.claims
      ∙ ap (λ l. claims_by mode s.number empty_board l) (sym front.is);
}

-- ---- the fills

last_tries : (k : ℕ) (end : ReaderEnd) (es : List Event) → LastLook end es → tried (entries_of k es) ≡ []
last_tries k Stopped es look = ap (λ l. tried (entries_of k l)) look.2
last_tries k Silent es none = ap (λ l. tried (entries_of k l)) none
last_tries k (Ended cause) es none = ap (λ l. tried (entries_of k l)) none

pub part_fills : (mode : Mode) (c : AcqConfig) (n : ℕ) (end : ReaderEnd) (begin : ℕ) (made : List Turned) (h : List Entry) → CameraReading mode c n end begin made h
    → tried (own_of n h) ≡ retired_items c (inputs_from begin made ++ stop ∷ [])
part_fills mode c n end begin made h part =
    ap tried part.own
    ∙ (tried_both n part.turned (part.last ++ (part.drained ++ act.Stop false part.answer ∷ []))
    ∙ (ap (λ l. l ++ tried (entries_of n (part.last ++ (part.drained ++ act.Stop false part.answer ∷ [])))) (turns_fill mode n c (begun c begin) made part.turned part.turns)
    ∙ (ap (λ l. items_from c (begun c begin) (inputs_in made) ++ l) rest
    ∙ sym (items_from-append c (begun c begin) (inputs_in made) (stop ∷ [])))))
  where
    rest : tried (entries_of n (part.last ++ (part.drained ++ act.Stop false part.answer ∷ []))) ≡ items_from c (After c (inputs_from begin made)) (stop ∷ [])
    rest =
        tried_both n part.last (part.drained ++ act.Stop false part.answer ∷ [])
        ∙ (ap (λ l. l ++ tried (entries_of n (part.drained ++ act.Stop false part.answer ∷ []))) (last_tries n end part.last part.looks)
        ∙ (tried_both n part.drained (act.Stop false part.answer ∷ [])
        ∙ (append-nil (tried (entries_of n part.drained))
        ∙ served_fills mode n c (After c (inputs_from begin made)) (stop ∷ []) part.drained part.drains)))

-- ---- the sizes

pub part_sized : (mode : Mode) (c : AcqConfig) (n : ℕ) (end : ReaderEnd) (begin : ℕ) (made : List Turned) (h : List Entry) (size : ℕ) → CameraReading mode c n end begin made h → Run h → BringOneSize size h
    → AreSized size (claims_in (inputs_in made))
part_sized mode c n end begin made h size part run brings = subst (AreSized size) (sym part.claims) (claims_sized mode size (met_by n empty_board h) (met_sized size n [] h run brings))

-- ---- where no fill was refused nothing was laid

abbrev Are : Mode → List Event → Type 0
Are mode es = AreEvents (is_strict_readers mode) es

-- none of these is a fill that was refused
abbrev None : ℕ → List Event → Type 0
None k es = HasNone is_fill_refused (entries_of k es)

same_are : (mode : Mode) (es fs : List Event) → es ≡ fs → Are mode fs → Are mode es
same_are mode es fs is are = subst (λ (gs : List Event). Are mode gs) (sym is) are

both_are : (mode : Mode) (es fs : List Event) → Are mode es → Are mode fs → Are mode (es ++ fs)
both_are mode [] fs first second = second
both_are mode (e ∷ es) fs first second = (first.0, both_are mode es fs first.1 second)

none_first : (k : ℕ) (es fs : List Event) → None k (es ++ fs) → None k es
none_first k es fs none = none_front is_fill_refused (entries_of k es) (entries_of k fs) (subst (HasNone is_fill_refused) (entries-append k es fs) none)

none_then : (k : ℕ) (es fs : List Event) → None k (es ++ fs) → None k fs
none_then k es fs none = none_rest is_fill_refused (entries_of k es) (entries_of k fs) (subst (HasNone is_fill_refused) (entries-append k es fs) none)

-- where no fill of them was refused, none of these events is a lay
abbrev AreIf : Mode → ℕ → List Event → Type 0
AreIf mode k es = None k es → Are mode es

are_hold : (mode : Mode) (k : ℕ) → Holds mode (AreIf mode k)
are_hold mode k = record {
  none = λ none. tt;
  both = λ es fs first second none. both_are mode es fs (first (none_first k es fs none)) (second (none_then k es fs none));
  take = λ may end none. (drops_so mode may, tt);
  pool = λ may i none. (drops_so mode may, tt);
}

fill_is : (mode : Mode) (k : ℕ) (r : Retired) (filled : Bool) → AreIf mode k (act.Fill r.place r.buf filled ∷ laid_unless filled r.place)
fill_is mode k r true none = (refl, tt)
fill_is mode k r false none = let bad : true ≡ false = none.0 in let no : ⊥ = cc in absurd no

served_are : (mode : Mode) (k : ℕ) (c : AcqConfig) (s : State) (is : List Input) (es : List Event) → Serves mode c s is es → None k es → Are mode es
served_are mode k c s is es serves = served_hold mode (AreIf mode k) c s is es (are_hold mode k) (λ place none. (refl, tt)) (fill_is mode k) serves

turns_are : (mode : Mode) (k : ℕ) (c : AcqConfig) (s : State) (made : List Turned) (es : List Event) → ServesTurns mode c s made es → None k es → Are mode es
turns_are mode k c s [] es is none = same_are mode es [] is tt
turns_are mode k c s (t ∷ ts) es each none =
    let whole : None k (act.LookRun 1 ∷ (each.0 ++ each.1)) = subst (λ (gs : List Event). None k gs) each.4 none in
    same_are mode es (act.LookRun 1 ∷ (each.0 ++ each.1)) each.4 (
      refl,
      both_are mode each.0 each.1 (served_are mode k c s (inputs_of t) each.0 each.2 (none_first k each.0 each.1 whole.1))
          (turns_are mode k c (after_from c s (inputs_of t)) ts each.1 each.3 (none_then k each.0 each.1 whole.1)),
    )

last_is : (mode : Mode) (end : ReaderEnd) (es : List Event) → LastLook end es → Are mode es
last_is mode Stopped es look = same_are mode es (act.LookRun look.0 ∷ []) look.2 (refl, tt)
last_is mode Silent es none = same_are mode es [] none tt
last_is mode (Ended cause) es none = same_are mode es [] none tt

pub part_lays_nothing : (mode : Mode) (c : AcqConfig) (n : ℕ) (end : ReaderEnd) (begin : ℕ) (made : List Turned) (h : List Entry) → CameraReading mode c n end begin made h
    → HasNone is_fill_refused (own_of n h) → AreOf (is_strict_readers mode) (own_of n h)
part_lays_nothing mode c n end begin made h part none =
    subst (AreOf (is_strict_readers mode)) (sym part.own)
    (are_of_entries (is_strict_readers mode) n (part.turned ++ (part.last ++ (part.drained ++ stops)))
    (both_are mode part.turned (part.last ++ (part.drained ++ stops)) (turns_are mode n c (begun c begin) made part.turned part.turns (none_first n part.turned _ all))
    (both_are mode part.last (part.drained ++ stops) (last_is mode end part.last part.looks)
    (both_are mode part.drained stops
    (served_are mode n c (After c (inputs_from begin made)) (stop ∷ []) part.drained part.drains
    (none_first n part.drained stops (none_then n part.last (part.drained ++ stops) (none_then n part.turned (part.last ++ (part.drained ++ stops)) all))))
    (refl, tt)))))
  where
    stops : List Event
    stops = act.Stop false part.answer ∷ []

    all : None n (part.turned ++ (part.last ++ (part.drained ++ stops)))
    all = subst (HasNone is_fill_refused) part.own none
