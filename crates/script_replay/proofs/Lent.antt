-- Buffers that are lent to the application and given back.
use Rattle.std.specs.Prelude.{⊤}
use Rattle.std.proofs.Common.{◌≡◌, ℕ, Bool, true, false, List, [], ◌∷◌, ◌++◌, length, slice_get, codes, option_map, Option, Some, None, Result, Ok, Err, IfOk, OnOk, refl, sym, ap, subst, ◌∙◌, inl, inr}
use Rattle.std.proofs.lemmas.Result.{on_ok_weaker}
use Rattle.gev_types.specs.Filling.{Filling}
use Rattle.gev_types.specs.declared.memory.NoMemory.{NoMemory}
use Rattle.gentl_types.specs.declared.buffer_id.BufferId.{BufferId}
use Rattle.gentl_types.specs.declared.errors.GcError.{GcError}
use Rattle.gentl_types.specs.declared.errors.GcError.TheVariants.{InvalidHandle}
use Rattle.gentl_types.specs.declared.errors.Shown.TheVariants.{NoHandle}
use Rattle.gentl_handles.specs.Handles.{Handles, child_of}
use Rattle.gentl_handles.specs.declared.opened.Opened.{Opened}
use Rattle.gev_report.specs.ReplayLines.{take_line}
use Rattle.board_machine.specs.declared.events.Entry.{Entry}
use Rattle.board_machine.specs.declared.events.Event.{Event}
use Rattle.board_machine.specs.declared.events.Event.TheVariants.{Take, Lay}
use Rattle.board_machine.specs.declared.events.TakeEnd.TheVariants.{Taken}
use Rattle.board_machine.specs.Machine.{Board, Item, item, word_at}
use Rattle.board_machine.specs.Adding.{entries_of, AddsOf}
use Rattle.board_machine.specs.Histories.{RunsFrom, after_from}
use Rattle.board_machine.specs.Handout.{handed}
use Rattle.board_machine.proofs.Adding.{adds_more}
use Rattle.board_calls.specs.Calls.{Borrows, Returns, Gets, itself}
use Rattle.board_calls.specs.Infos.{BufferInfos}
use Rattle.board_calls.specs.Loans.{loan_value}
use Rattle.board_model.specs.Plain.{PlainState, lying, nothing, content_at, filling_of, AreKept}
use Rattle.script_trace.specs.Trace.{Trace, acts}
use Rattle.script_trace.specs.Answers.{refused_text, value_text}
use Rattle.script_trace.specs.BoardLines.{AsksBuffer, BufferInfoLine, is_of_loan, TakeIfOpen, TakeLine, open_event, buffer}
use Rattle.script_trace.specs.Contents.{contents_of, contents_from, FillsFrom}
use Rattle.script_replay.specs.Boards.{LiesAsTold, IsLeftBy, IsReady, Acts}
use Rattle.script_replay.specs.Acquiring.{CallsBoard}
use Rattle.script_replay.specs.Takes.{ActsUnder}
use Rattle.script_replay.proofs.Quiet.{AreQuiet, quiet_as, both_quiet, borrow_quiet, return_quiet, get_quiet, buffer_info_quiet}
use Rattle.script_replay.proofs.Lines.{left_by, lies_after, acts_by, calm_acts, ready_by, quiet_acts, quiet_ready, acts_line, silent_as, caller_apart}
use Rattle.script_replay.proofs.Resting.{lifted_same}
use Rattle.script_replay.proofs.Calling.{quiet_calls}

-- ---- binfo

-- a buffer is borrowed and returned
abbrev pub Lends : BufferId → List Event → Type 0
Lends id es = (borrows : List Event) × (returns : List Event) × Borrows {T = Unit {0}} id (Ok tt) borrows × Returns id.place returns × (es ≡ borrows ++ returns)

pub lends : (b mid new : Board) (id : BufferId) (place : ℕ) → place ≡ id.place → AddsOf b 0 (Borrows {T = ℕ} id (Ok place)) mid → AddsOf mid 0 (Returns place) new → AddsOf b 0 (Lends id) new
lends b mid new id place is borrowed returned =
    adds_more b mid new 0 (Borrows {T = ℕ} id (Ok place)) (Returns place) (Lends id)
    (λ es fs first second. (es, fs, first, subst (λ p. Returns p fs) is second, refl)) borrowed returned

lends_quiet : (id : BufferId) (es : List Event) → Lends id es → AreQuiet es
lends_quiet id es kind =
    quiet_as es _ kind.4 (both_quiet kind.0 kind.1 (borrow_quiet {T = Unit {0}} id (Ok tt) kind.0 kind.2) (return_quiet id.place kind.1 kind.3))

-- what lies at a place is what was told
lies_so : (s : PlainState) (told : List (Option Filling)) (i : ℕ) (f : Filling) → LiesAsTold s.board s.contents told i → lying s.contents i ≡ Some f → filling_of (lying told i) ≡ f
lies_so s told i f (inl e) has = ap filling_of (sym e ∙ has)
lies_so s told i f (inr lifted) has = absurd (nothing_lies f (sym lifted.0 ∙ has))
  where
    nothing_lies : (g : Filling) → nothing ≡ Some g → ⊥
    nothing_lies g e = cc

pub loan_calls : (report : Result ⊤ NoMemory) (s mid new : PlainState) (id : BufferId) (which place : ℕ) (f : Filling) (said : List ℕ) → place ≡ id.place → AddsOf s.board 0 (Borrows {T = ℕ} id (Ok place)) mid.board → mid.contents ≡ s.contents
    → content_at mid place ≡ Some f → AddsOf mid.board 0 (Returns place) new.board → new.contents ≡ mid.contents
    → IsReady s → OnOk report (said ≡ value_text (codes "binfo") which (loan_value f.rec which)) → CallsBoard (λ t. AsksBuffer t id which true) report s said new
loan_calls report s mid new id which place f said is borrowed same lies returned same_too ready told = record {
  acts = on_ok_weaker report (calm_acts s new 0 (Lends id) (λ t. AsksBuffer t id which true) (value_text (codes "binfo") which (loan_value f.rec which)) said caller_apart called (lends_quiet id called.events called.kind) spells (same_too ∙ same)) told;
  ready = quiet_ready s new 0 (Lends id) caller_apart (lends_quiet id) ready called (same_too ∙ same);
  lifted = lifted_same s new (same_too ∙ same);
}
  where
    called : AddsOf s.board 0 (Lends id) new.board
    called = lends s.board mid.board new.board id place is borrowed returned

    has : lying s.contents id.place ≡ Some f
    has = ap (λ c. lying c id.place) (sym same) ∙ ap (λ p. lying mid.contents p) (sym is) ∙ lies

    spells : (t : Trace) → IsLeftBy s t.entries → AsksBuffer t id which true (acts t 0 called.events (value_text (codes "binfo") which (loan_value f.rec which)))
    spells t left = (
      Ok tt,
      (
        called.kind.0,
        called.kind.1,
        called.kind.2,
        called.kind.3,
        ap (λ es. acts t 0 es (value_text (codes "binfo") which (loan_value f.rec which))) called.kind.4
            ∙ ap (λ (g : Filling). acts t 0 (called.kind.0 ++ called.kind.1) (value_text (codes "binfo") which (loan_value g.rec which))) (sym (lies_so s (contents_of t.entries) id.place f (left.lies id.place) has)),
      ),
    )

-- ---- take

-- a buffer is taken and given to the application
abbrev pub TakesOne : ℕ → List Event → Type 0
TakesOne place es = es ≡ Take (Taken place) ∷ Lay place ∷ []

pub takes_one : (b mid new : Board) (place : ℕ) → AddsOf b 0 (Gets {T = ℕ} 0 itself (Ok place)) mid → AddsOf mid 0 (Returns place) new → AddsOf b 0 (TakesOne place) new
takes_one b mid new place got returned =
    adds_more b mid new 0 (Gets {T = ℕ} 0 itself (Ok place)) (Returns place) (TakesOne place)
    (λ es fs first second. ap (λ gs. gs ++ fs) first ∙ ap (λ gs. Take (Taken place) ∷ gs) second) got returned

take_leaves : (s new : PlainState) (place : ℕ) (h : List Entry) (called : AddsOf s.board 0 (TakesOne place) new.board) → new.contents ≡ s.contents → IsLeftBy s h → IsLeftBy new (h ++ entries_of 0 called.events)
take_leaves s new place h called same left =
    left_by s new 0 (TakesOne place) h called
    (λ i. subst (λ (es : List Event). LiesAsTold new.board new.contents (contents_from (contents_of h) (entries_of 0 es)) i) (sym called.kind)
    (subst (λ (c : List (Option Filling)). LiesAsTold new.board c (contents_of h) i) (sym same)
    (lies_after s new.board 0 (TakesOne place) (contents_of h) i caller_apart called (left.lies i))))
    left

-- what a take found
pub taken_first : (b new : Board) (place : ℕ) → AddsOf b 0 (TakesOne place) new → (f : Filling) × (rest : List Item) × (b.out ≡ item place f ∷ rest)
taken_first b new place called =
    let runs : RunsFrom b (entries_of 0 (Take (Taken place) ∷ Lay place ∷ [])) = subst (λ (es : List Event). RunsFrom b (entries_of 0 es)) called.kind called.adds.runs in
    runs.0.meets.1

pub first_lies : (s : PlainState) (place : ℕ) (f : Filling) (rest : List Item) → AreKept s → s.board.out ≡ item place f ∷ rest → content_at s place ≡ Some f
first_lies s place f rest kept is = kept.output 0 (item place f) (ap (λ o. slice_get o 0) is)

same_filling : (x : Option Filling) (f g : Filling) → x ≡ Some f → x ≡ Some g → f ≡ g
same_filling x f g e d = ap filling_of (sym e ∙ d)

pub take_acts : (s mid new : PlainState) (place generation : ℕ) (buf : Filling) (said : List ℕ) (event : Opened) → AreKept s → AddsOf s.board 0 (Gets {T = ℕ} 0 itself (Ok place)) mid.board → mid.contents ≡ s.contents
    → generation ≡ (word_at mid.board place).generation → AddsOf mid.board 0 (Returns place) new.board → new.contents ≡ mid.contents → content_at new place ≡ Some buf
    → said ≡ take_line (buffer place generation) buf → Acts (λ t. TakeIfOpen t (Some event)) 0 1 s said new
take_acts s mid new place generation buf said event kept got same told returned same_too lies text =
    acts_by s new 0 1 (TakesOne place) (λ t. TakeIfOpen t (Some event)) (take_line (buffer place generation) buf) said called spells
    (λ h left. subst (λ (es : List Event). FillsFrom (contents_of h) (entries_of 0 es)) (sym called.kind) (tt, (tt, tt)))
    (ap (λ es. length (handed (entries_of 0 es))) called.kind) (λ h left. take_leaves s new place h called (same_too ∙ same) left) text
  where
    called : AddsOf s.board 0 (TakesOne place) new.board
    called = takes_one s.board mid.board new.board place got returned

    first : (f : Filling) × (rest : List Item) × (s.board.out ≡ item place f ∷ rest)
    first = taken_first s.board new.board place called

    is_buf : first.0 ≡ buf
    is_buf = same_filling (content_at new place) first.0 buf (ap (λ c. lying c place) (same_too ∙ same) ∙ first_lies s place first.0 first.1 kept first.2) lies

    word_kept : (word_at mid.board place).generation ≡ (word_at s.board place).generation
    word_kept = ap (λ (b : Board). (word_at b place).generation) (got.adds.after ∙ ap (λ es. after_from s.board (entries_of 0 es)) got.kind)

    spells : (t : Trace) → IsLeftBy s t.entries → TakeIfOpen t (Some event) (acts t 0 called.events (take_line (buffer place generation) buf))
    spells t left = (
      0,
      inl (record {
        place = place;
        filling = first.0;
        rest = first.1;
        first = ap (λ (b : Board). b.out) (sym left.board.state) ∙ first.2;
        gets = Take (Taken place) ∷ [];
        got = refl;
        returns = Lay place ∷ [];
        returned = refl;
        is =
            ap (λ es. acts t 0 es (take_line (buffer place generation) buf)) called.kind
            ∙ ap (λ (f : Filling). acts t 0 (Take (Taken place) ∷ Lay place ∷ []) (take_line (buffer place generation) f)) (sym is_buf)
            ∙ ap (λ g. acts t 0 (Take (Taken place) ∷ Lay place ∷ []) (take_line (buffer place g) first.0))
            (told ∙ word_kept ∙ ap (λ (b : Board). (word_at b place).generation) left.board.state);
      }),
    )

pub take_ready : (s mid new : PlainState) (place : ℕ) → AddsOf s.board 0 (Gets {T = ℕ} 0 itself (Ok place)) mid.board → mid.contents ≡ s.contents
    → AddsOf mid.board 0 (Returns place) new.board → new.contents ≡ mid.contents → IsReady s → IsReady new
take_ready s mid new place got same returned same_too ready =
    let called = takes_one s.board mid.board new.board place got returned in
    ready_by s new 0 (TakesOne place) ready called (λ h left. take_leaves s new place h called (same_too ∙ same) left)

pub no_take_acts : (s new : PlainState) (refusal : GcError) (said : List ℕ) (event : Opened) → AddsOf s.board 0 (Gets {T = ℕ} 0 itself (Err refusal)) new.board → new.contents ≡ s.contents
    → said ≡ refused_text (codes "take") refusal → Acts (λ t. TakeIfOpen t (Some event)) 0 0 s said new
no_take_acts s new refusal said event called same text =
    quiet_acts s new 0 (Gets {T = ℕ} 0 itself (Err refusal)) (λ t. TakeIfOpen t (Some event)) (refused_text (codes "take") refusal) said caller_apart (get_quiet {T = ℕ} 0 itself refusal)
    (λ t es kind. (0, inr (record { refusal = refusal; calls = record { events = es; kind = kind; is = refl } }))) called same text

-- ---- the lines

pub buffer_info_calls : (report : Result ⊤ NoMemory) (s new : PlainState) (id : BufferId) (which : ℕ) (answer : Result ℕ GcError) (said : List ℕ) → is_of_loan which ≡ false → AddsOf s.board 0 (BufferInfos id which answer) new.board → new.contents ≡ s.contents
    → IsReady s → OnOk report (said ≡ value_text (codes "binfo") which answer) → CallsBoard (λ t. BufferInfoLine t id which) report s said new
buffer_info_calls report s new id which answer said other called same ready told =
    quiet_calls report s new (BufferInfos id which answer) (λ t. BufferInfoLine t id which) (value_text (codes "binfo") which answer) said (buffer_info_quiet id which answer)
    (λ t es kind. subst (λ (b : Bool). AsksBuffer t id which b (acts t 0 es (value_text (codes "binfo") which answer))) (sym other) (answer, record { events = es; kind = kind; is = refl })) ready called same told

pub no_loan_calls : (report : Result ⊤ NoMemory) (s new : PlainState) (id : BufferId) (which : ℕ) (refusal : GcError) (said : List ℕ) → AddsOf s.board 0 (Borrows {T = ℕ} id (Err refusal)) new.board → new.contents ≡ s.contents
    → IsReady s → OnOk report (said ≡ refused_text (codes "binfo") refusal) → CallsBoard (λ t. AsksBuffer t id which true) report s said new
no_loan_calls report s new id which refusal said called same ready told =
    quiet_calls report s new (Borrows {T = ℕ} id (Err refusal)) (λ t. AsksBuffer t id which true) (refused_text (codes "binfo") refusal) said (borrow_quiet {T = ℕ} id (Err refusal))
    (λ t es kind. (Err refusal, record { events = es; kind = kind; is = refl })) ready called same told

an_event : (x : Option Opened) (n : ℕ) → Some n ≡ option_map (λ o. o.serial) x → (event : Opened) × (x ≡ Some event)
an_event None n e = absurd cc
an_event (Some event) n e = (event, refl)

no_event : (x : Option Opened) → None ≡ option_map (λ o. o.serial) x → x ≡ None
no_event None e = refl
no_event (Some event) e = absurd cc

open_under : (t : Trace) (handles : Handles) (n : ℕ) → n ≡ 4 → t.handles ≡ handles → open_event t ≡ child_of (Some n) 0 handles.handles
open_under t handles n four same = ap (λ (hs : Handles). child_of (Some 4) 0 hs.handles) same ∙ ap (λ m. child_of (Some m) 0 handles.handles) (sym four)

pub take_under : (s new : PlainState) (handles : Handles) (n serial count : ℕ) (said : List ℕ) → n ≡ 4 → Some serial ≡ option_map (λ o. o.serial) (child_of (Some n) 0 handles.handles)
    → ((event : Opened) → Acts (λ t. TakeIfOpen t (Some event)) 0 count s said new) → ActsUnder handles TakeLine 0 count s said new
take_under s new handles n serial count said four opened acts_so t same left =
    let found = an_event (child_of (Some n) 0 handles.handles) serial opened in
    acts_line (λ u. TakeIfOpen u (Some found.0)) TakeLine 0 count said new t
    (λ part line. subst (λ (x : Option Opened). TakeIfOpen t x part) (sym (open_under t handles n four same ∙ found.1)) line) (acts_so found.0 t left)

pub no_take_under : (s : PlainState) (handles : Handles) (n : ℕ) (said : List ℕ) → n ≡ 4 → None ≡ option_map (λ o. o.serial) (child_of (Some n) 0 handles.handles)
    → said ≡ refused_text (codes "take") (InvalidHandle (NoHandle 4)) → ActsUnder handles TakeLine 0 0 s said s
no_take_under s handles n said four closed text t same left =
    silent_as s 0 TakeLine (refused_text (codes "take") (InvalidHandle (NoHandle 4))) said t caller_apart
    (subst (λ (x : Option Opened). TakeIfOpen t x (acts t 0 [] (refused_text (codes "take") (InvalidHandle (NoHandle 4))))) (sym (open_under t handles n four same ∙ no_event _ closed)) refl)
    text left

-- what was added to an empty report
pub begun_empty : (old new line : List ℕ) → new ≡ old ++ line → old ≡ [] → new ≡ line
begun_empty old new line added empty = added ∙ ap (λ (begun : List ℕ). begun ++ line) empty

-- whatever the event is
pub for_each : {E : Type 0} (answer : Result ℕ E) (P : Opened → ℕ → Type 0) (Q : ℕ → Type 0) → ((event : Opened) → IfOk answer (P event)) → ((n : ℕ) → ((event : Opened) → P event n) → Q n) → IfOk answer Q
for_each (Ok n) P Q each whole = whole n (λ event. each event)
for_each (Err e) P Q each whole = tt
