-- The reader's part in the whole history.
use Rattle.std.proofs.Common.{◌≡◌, ◌≢◌, ℕ, ◌≤◌, ◌==◌, Bool, true, false, cond, List, [], ◌∷◌, ◌++◌, Option, Some, None, ap, sym, ◌∙◌, subst, append_assoc, arith}
use Rattle.std.proofs.lemmas.List.{append-nil, append_cancel_left}
use Rattle.gentl_types.specs.declared.word.State.TheVariants.{Vacant, Away}
use Rattle.board_machine.specs.declared.events.Entry.{Entry}
use Rattle.board_machine.specs.declared.events.Event.{Event}
use Rattle.board_machine.specs.declared.events.Event.TheVariants as act
use Rattle.board_machine.specs.declared.events.TakeEnd.TheVariants.{Taken}
use Rattle.board_machine.specs.Machine.{Board, Item, places, empty_board, Meets, CanBeNext, word_at, next}
use Rattle.board_machine.specs.Histories.{Run, own_of, After}
use Rattle.board_machine.specs.Adding.{entries_of}
use Rattle.board_machine.specs.Owners.{IsCounted}
use Rattle.board_machine.specs.Places.{IsPrefix, times}
use Rattle.board_machine.specs.Sizes.{BringOneSize, HaveOneSize}
use Rattle.board_machine.proofs.Counts.{stands_away}
use Rattle.board_machine.proofs.Keeps.{away_used, away_not_vacant}
use Rattle.board_machine.proofs.Places.{same_self}
use Rattle.board_machine.proofs.Runs.{own_of-append, runs_front, runs_rest, after-append, run_owned}
use Rattle.board_machine.proofs.Sizes.{one_size}
use Rattle.acquisition_machine.specs.declared.config.AcqConfig.{AcqConfig}
use Rattle.acquisition_machine.specs.Blocks.{Given}
use Rattle.acquisition_machine.specs.Machine.{Input, stop}
use Rattle.acquisition_machine.specs.Runs.{first_state, After as AfterInputs}
use Rattle.gev_links.specs.Links.{Address}
use Rattle.block_fills.specs.Fills.{tried}
use Rattle.block_fills.proofs.Tries.{items_from, items_from-append}
use Rattle.buffer_words.specs.Passes.{Token, own}
use Rattle.buffer_words.specs.Several.{EntersEach}
use Rattle.gev_control.specs.declared.acq_end.AcqEnd.{AcqEnd}
use Rattle.gev_control.specs.declared.acq_end.AcqEnd.TheVariants as how
use Rattle.board_calls.specs.declared.mode.Mode.{Mode}
use Rattle.board_calls.specs.declared.mode.Mode.TheVariants.{OldestFirst, OldestFirstOverwrite, NewestOnly}
use Rattle.gev_acq.specs.declared.turn.Turn.{Turn}
use Rattle.gev_acq.specs.Claims.{claims_in, Met, met, met_by, given_by_take, taken_next, given_later, given_by, claims_of, claims_by, Claims}
use Rattle.gev_acq.specs.Turns.{Turned, Outside}
use Rattle.gev_acq.specs.Acquired.{inputs_in}
use Rattle.gev_acq.proofs.Owning.{met_by-append, met_none}
use Rattle.gev_acq.proofs.Filled.{tried_both, served_fills, turns_fill}
use Rattle.gev_acq.specs.Reads.{LastLook, Reads}
use Rattle.gev_acq.specs.History.{LiveReading, AreSized}

-- all that a new pass did is what it entered
own_entered : (s t : Token) (events : List Event) → own s ≡ [] → EntersEach s events t → own t ≡ entries_of s.number events
own_entered s t events none e =
    ap (λ n. own_of n t.seen) e.number
    ∙ (ap (λ l. own_of s.number l) e.seen
    ∙ (own_of-append s.number s.seen e.between ∙ (ap (λ l. l ++ own_of s.number e.between) none ∙ e.own)))

nothing_more : {A : Type 0} (xs ys : List A) → xs ++ ys ≡ xs → ys ≡ []
nothing_more xs ys is = append_cancel_left xs ys [] (is ∙ sym (append-nil xs))

-- What the claims of a new pass gave is what they gave in the whole history.
pub claims_whole : (mode : Mode) (is : List Input) (s t : Token) (rest : List Entry) → own s ≡ [] → t.number ≡ s.number → own_of s.number (t.seen ++ rest) ≡ own t
    → Claims mode is s t → claims_in is ≡ claims_by mode s.number empty_board (t.seen ++ rest)
claims_whole mode is s t rest none number whole claims =
    sym (append-nil (claims_in is))
    ∙ (claims.are []
    ∙ ap (λ ms. claims_of mode ms) (append-nil (met_by s.number (After s.seen) claims.between) ∙ sym met_whole))
  where
    own_rest : own_of s.number rest ≡ []
    own_rest =
        nothing_more (own_of s.number t.seen) (own_of s.number rest)
        (sym (own_of-append s.number t.seen rest) ∙ (whole ∙ ap (λ n. own_of n t.seen) number))

    met_whole : met_by s.number empty_board (t.seen ++ rest) ≡ met_by s.number (After s.seen) claims.between
    met_whole =
        met_by-append s.number empty_board t.seen rest
        ∙ (ap (λ ms. met_by s.number empty_board t.seen ++ ms) (met_none s.number (After t.seen) rest own_rest)
        ∙ (append-nil (met_by s.number empty_board t.seen)
        ∙ (ap (λ l. met_by s.number empty_board l) claims.seen
        ∙ (met_by-append s.number empty_board s.seen claims.between
        ∙ ap (λ ms. ms ++ met_by s.number (After s.seen) claims.between) (met_none s.number empty_board s.seen none)))))

pub part_stays : (mode : Mode) (c : AcqConfig) (camera stream : Address) (o n : Outside) (journal journal_after : List Turn) (turns : ℕ) (end : AcqEnd) (s t : Token)
    (reads : Reads mode c camera stream o n journal journal_after turns end s t) (h : List Entry) → own s ≡ [] → IsPrefix t.seen h → own_of s.number h ≡ own t
    → LiveReading mode c s.number end reads.made h
part_stays mode c camera stream o n journal journal_after turns end s t reads h none front whole = record {
  turned = reads.turned;
  turns = reads.on.serves;
  last = reads.last;
  looks = reads.on.looks;
  drained = reads.drained;
  drains = reads.drains;
  answer = reads.answer;
  own = whole ∙ own_entered s t _ none reads.enters;
  claims =
      claims_whole mode (inputs_in reads.made) s t front.rest none reads.enters.number (subst (λ l. own_of s.number l ≡ own t) front.is whole) reads.claims
      ∙ ap (λ l. claims_by mode s.number empty_board l) (sym front.is);
}

-- ---- the fills

last_tries : (k : ℕ) (end : AcqEnd) (es : List Event) → LastLook end es → tried (entries_of k es) ≡ []
last_tries k how.Stopped es look = ap (λ l. tried (entries_of k l)) look.2
last_tries k how.Spent es none = ap (λ l. tried (entries_of k l)) none
last_tries k how.Fault es none = ap (λ l. tried (entries_of k l)) none
last_tries k (how.NoAnswer req) es none = ap (λ l. tried (entries_of k l)) none
last_tries k (how.Refused status) es none = ap (λ l. tried (entries_of k l)) none

pub part_fills : (mode : Mode) (c : AcqConfig) (n : ℕ) (end : AcqEnd) (made : List Turned) (h : List Entry) → LiveReading mode c n end made h
    → tried (own_of n h) ≡ items_from c first_state (inputs_in made ++ stop ∷ [])
part_fills mode c n end made h part =
    ap tried part.own
    ∙ (tried_both n part.turned (part.last ++ (part.drained ++ act.Stop false part.answer ∷ []))
    ∙ (ap (λ l. l ++ tried (entries_of n (part.last ++ (part.drained ++ act.Stop false part.answer ∷ [])))) (turns_fill mode n c first_state made part.turned part.turns)
    ∙ (ap (λ l. items_from c first_state (inputs_in made) ++ l) rest
    ∙ sym (items_from-append c first_state (inputs_in made) (stop ∷ [])))))
  where
    rest : tried (entries_of n (part.last ++ (part.drained ++ act.Stop false part.answer ∷ []))) ≡ items_from c (AfterInputs c (inputs_in made)) (stop ∷ [])
    rest =
        tried_both n part.last (part.drained ++ act.Stop false part.answer ∷ [])
        ∙ (ap (λ l. l ++ tried (entries_of n (part.drained ++ act.Stop false part.answer ∷ []))) (last_tries n end part.last part.looks)
        ∙ (tried_both n part.drained (act.Stop false part.answer ∷ [])
        ∙ (append-nil (tried (entries_of n part.drained))
        ∙ served_fills mode n c (AfterInputs c (inputs_in made)) (stop ∷ []) part.drained part.drains)))

-- ---- the sizes

pub sized-append : (size : ℕ) (gs hs : List (Option Given)) → AreSized size gs → AreSized size hs → AreSized size (gs ++ hs)
sized-append size [] hs first second = second
sized-append size (None ∷ gs) hs first second = sized-append size gs hs first second
sized-append size (Some g ∷ gs) hs first second = (first.0, sized-append size gs hs first.1 second)

-- a claimed place is used
claimed_used : (b : Board) (k i : ℕ) → IsCounted b → Meets b k (act.Claim (Some i)) → (word_at b i).state ≢ Vacant
claimed_used b k i counted meets =
    let here : 1 ≤ times i b.pool = subst (λ (l : List ℕ). 1 ≤ times i l) (sym meets.1) (omega (arith, same_self i)) in
    away_used (word_at b i) Away (stands_away b i counted (omega (arith, here))) away_not_vacant

-- and so is a taken place
taken_used : (b : Board) (k i : ℕ) → IsCounted b → Meets b k (act.Take (Taken i)) → (word_at b i).state ≢ Vacant
taken_used b k i counted meets =
    let here : 1 ≤ times i (places b.out) = subst (λ (l : List Item). 1 ≤ times i (places l)) (sym meets.1.2) (omega (arith, same_self i)) in
    away_used (word_at b i) Away (stands_away b i counted (omega (arith, here))) away_not_vacant

-- An act with the machine's answer, on a board whose buffers have one size.
pub record IsSized (size : ℕ) (m : Met) : Type 0 where
  by : ℕ
  counted : IsCounted m.board
  meets : Meets m.board by m.event
  have : HaveOneSize size m.board

abbrev pub AllSized : ℕ → List Met → Type 0
AllSized size [] = Unit {0}
AllSized size (m ∷ ms) = IsSized size m × AllSized size ms

all_sized-append : (size : ℕ) (ms ns : List Met) → AllSized size ms → AllSized size ns → AllSized size (ms ++ ns)
all_sized-append size [] ns first second = second
all_sized-append size (m ∷ ms) ns first second = (first.0, all_sized-append size ms ns first.1 second)

take_sized : (size : ℕ) (b : Board) (k : ℕ) (event : Event) → IsCounted b → Meets b k event → HaveOneSize size b → AreSized size (given_by_take b event ∷ [])
take_sized size b k (act.Take (Taken i)) counted meets have = (have i (taken_used b k i counted meets), tt)
take_sized size b k _ counted meets have = tt

next_sized : (size : ℕ) (ms : List Met) → AllSized size ms → AreSized size (taken_next ms ∷ [])
next_sized size [] all = tt
next_sized size (m ∷ ms) all = take_sized size m.board all.0.by m.event all.0.counted all.0.meets all.0.have

later_sized : (mode : Mode) (size : ℕ) (ms : List Met) → AllSized size ms → AreSized size (given_later mode ms ∷ [])
later_sized OldestFirst size ms all = tt
later_sized OldestFirstOverwrite size ms all = next_sized size ms all
later_sized NewestOnly size ms all = next_sized size ms all

given_sized : (mode : Mode) (size : ℕ) (b : Board) (k : ℕ) (event : Event) (ms : List Met) → IsCounted b → Meets b k event → HaveOneSize size b → AllSized size ms
    → AreSized size (given_by mode b event ms)
given_sized mode size b k (act.Claim (Some i)) ms counted meets have all = (have i (claimed_used b k i counted meets), tt)
given_sized mode size b k (act.Claim None) ms counted meets have all = later_sized mode size ms all
given_sized mode size b k _ ms counted meets have all = tt

pub claims_sized : (mode : Mode) (size : ℕ) (ms : List Met) → AllSized size ms → AreSized size (claims_of mode ms)
claims_sized mode size [] all = tt
claims_sized mode size (m ∷ ms) all =
    sized-append size (given_by mode m.board m.event ms) (claims_of mode ms)
    (given_sized mode size m.board all.0.by m.event ms all.0.counted all.0.meets all.0.have all.1) (claims_sized mode size ms all.1)

cond_sized : (v : Bool) (size : ℕ) (m : Met) → IsSized size m → AllSized size (cond v (m ∷ []) [])
cond_sized true size m is = (is, tt)
cond_sized false size m is = tt

brings_front : (size : ℕ) (g h : List Entry) → BringOneSize size (g ++ h) → BringOneSize size g
brings_front size [] h brings = tt
brings_front size (e ∷ g) h brings = (brings.0, brings_front size g h brings.1)

pub met_sized : (size n : ℕ) (front h : List Entry) → Run (front ++ h) → BringOneSize size (front ++ h) → AllSized size (met_by n (After front) h)
met_sized size n front [] run brings = tt
met_sized size n front (e ∷ h) run brings =
    all_sized-append size (cond (e.by == n) (met (After front) e.event ∷ []) []) (met_by n (next (After front) e) h)
    (cond_sized (e.by == n) size (met (After front) e.event) (record {
      by = e.by;
      counted = run_owned front run_before;
      meets = may.meets;
      have = one_size front size run_before (brings_front size front (e ∷ h) brings);
    }))
    (subst (λ b. AllSized size (met_by n b h)) (after-append empty_board front (e ∷ []))
    (met_sized size n (front ++ e ∷ []) h (subst Run (sym again) run) (subst (BringOneSize size) (sym again) brings)))
  where
    run_before : Run front
    run_before = runs_front empty_board front (e ∷ h) run

    may : CanBeNext (After front) e
    may = (runs_rest empty_board front (e ∷ h) run).0

    again : (front ++ e ∷ []) ++ h ≡ front ++ e ∷ h
    again = append_assoc front (e ∷ []) h

pub part_sized : (mode : Mode) (c : AcqConfig) (n : ℕ) (end : AcqEnd) (made : List Turned) (h : List Entry) (size : ℕ) → LiveReading mode c n end made h → Run h → BringOneSize size h
    → AreSized size (claims_in (inputs_in made))
part_sized mode c n end made h size part run brings = subst (AreSized size) (sym part.claims) (claims_sized mode size (met_by n empty_board h) (met_sized size n [] h run brings))
