-- What a `take` line got, by what it found.
use Rattle.std.proofs.Common.{◌≡◌, ◌⊎◌, ℕ, ◌+◌, ◌-◌, true, false, List, [], ◌∷◌, ◌++◌, length, Option, Some, None, Err, refl, sym, ap, subst, ◌∙◌, arith, inl, inr}
use Rattle.gev_types.specs.Filling.{Filling}
use Rattle.gentl_types.specs.declared.errors.GcError.{GcError}
use Rattle.gentl_types.specs.declared.errors.GcError.TheVariants.{InvalidHandle, Timeout, Abort}
use Rattle.gentl_types.specs.declared.errors.Shown.TheVariants as shown
use Rattle.gentl_handles.specs.declared.opened.Opened.{Opened}
use Rattle.gentl_handles.specs.Handles.{Handles}
use Rattle.gev_script.specs.Lines as script_line
use Rattle.board_machine.specs.declared.events.Event.{Event}
use Rattle.board_machine.specs.Machine.{Board, Item, item}
use Rattle.board_machine.specs.Adding.{entries_of}
use Rattle.board_machine.specs.Histories.{RunsFrom}
use Rattle.board_machine.specs.Handout.{handed}
use Rattle.board_calls.specs.Calls.{Gets, itself}
use Rattle.board_model.specs.Plain.{PlainState}
use Rattle.acquisition_machine.specs.declared.config.AcqConfig.{AcqConfig}
use Rattle.script_trace.specs.Trace.{Trace, Part, board, grown, caller}
use Rattle.script_trace.specs.Adding.{AddsPart}
use Rattle.script_trace.specs.BoardLines.{TakesBuffer, TakeIfOpen, open_event}
use Rattle.script_trace.specs.Modes.{handed_out}
use Rattle.script_replay.specs.declared.script.Script.{Script}
use Rattle.script_replay.proofs.Counted.{taken_counts, others_hand}
use Rattle.script_replay.proofs.Lines.{caller_apart}
use Rattle.script_replay.proofs.Quiet.{get_quiet, quiet_hands}
use Rattle.script_image.specs.Found.{FindsBuffer, Finds, event_under, FindsUnder}
use Rattle.script_image.specs.Lines.{TookAt}

-- ---- what runs of events tell of the board before

-- the same events on the same board
runs_as : (b c : Board) (es fs : List Event) → b ≡ c → es ≡ fs → RunsFrom b (entries_of caller es) → RunsFrom c (entries_of caller fs)
runs_as b c es fs same are runs =
    subst (λ (d : Board). RunsFrom d (entries_of caller fs)) same (subst (λ (gs : List Event). RunsFrom b (entries_of caller gs)) are runs)

-- A turn of the wait that is refused found the output empty or the stream closed.
refused_finds : (b : Board) (moment : ℕ) (refusal : GcError) (es : List Event) → Gets {T = ℕ} moment itself (Err refusal) es → RunsFrom b (entries_of caller es) → (b.out ≡ []) ⊎ (b.closed ≡ true)
refused_finds b moment (InvalidHandle shown.Closed) es kind runs = inr (runs_as b b es _ refl kind runs).0.meets
refused_finds b moment Abort es kind runs = inl (runs_as b b es _ refl kind runs).0.meets.1
refused_finds b moment (Timeout first last) es kind runs = inl (runs_as b b es _ refl kind.2 runs).0.meets.1
refused_finds b moment refusal es kind runs = absurd kind

-- One that took a buffer found the stream unclosed.
taken_open : (t : Trace) (moment : ℕ) (part : Part) → (takes : TakesBuffer t moment part) → RunsFrom (board t) part.entries → (board t).closed ≡ false
taken_open t moment part takes runs =
    let all : RunsFrom (board t) (entries_of caller (takes.gets ++ takes.returns)) = subst (λ (p : Part). RunsFrom (board t) p.entries) takes.is runs in
    (runs_as (board t) (board t) (takes.gets ++ takes.returns) _ refl (ap (λ es. es ++ takes.returns) takes.got) all).0.meets.0

not_both : (b : Board) → (b.out ≡ []) ⊎ (b.closed ≡ true) → (x : Item) (xs : List Item) → b.out ≡ x ∷ xs → b.closed ≡ false → ⊥
not_both b (inl empty) x xs some unclosed = let both : [] ≡ x ∷ xs = sym empty ∙ some in cc
not_both b (inr closed) x xs some unclosed = let both : true ≡ false = sym closed ∙ unclosed in cc

-- ---- what is handed out

pub handed_none : (t : Trace) (moment : ℕ) (refusal : GcError) (es : List Event) → Gets {T = ℕ} moment itself (Err refusal) es → length (handed_out (t.entries ++ entries_of caller es)) ≡ length (handed_out t.entries)
handed_none t moment refusal es kind =
    taken_counts _ t.entries (entries_of caller es)
    ∙ ap (λ is. length (handed_out t.entries) + length is) (others_hand caller es caller_apart ∙ quiet_hands caller es (get_quiet {T = ℕ} moment itself refusal es kind))
    ∙ omega arith

pub handed_one : (t : Trace) (moment : ℕ) (part : Part) → (takes : TakesBuffer t moment part) → length (handed_out (t.entries ++ part.entries)) ≡ length (handed_out t.entries) + 1
handed_one t moment part takes =
    let es : List Event = takes.gets ++ takes.returns in
    let one : handed (entries_of caller es) ≡ takes.place ∷ [] =
    ap (λ (gs : List Event). handed (entries_of caller (gs ++ takes.returns))) takes.got ∙ ap (λ (gs : List Event). takes.place ∷ handed (entries_of caller gs)) takes.returned in
    ap (λ (p : Part). length (handed_out (t.entries ++ p.entries))) takes.is
    ∙ taken_counts _ t.entries (entries_of caller es)
    ∙ ap (λ is. length (handed_out t.entries) + length is) (others_hand caller es caller_apart ∙ one)

-- ---- the line, by what was found

same_event : (t : Trace) (handles : Handles) (x : Option Opened) → handles ≡ t.handles → event_under handles ≡ x → open_event t ≡ x
same_event t handles x same is = ap (λ (hs : Handles). event_under hs) (sym same) ∙ is

-- nothing was found: nothing is handed out
none_by : (t : Trace) (part : Part) (handles : Handles) (s : PlainState) (event : Option Opened) → open_event t ≡ event → handles ≡ t.handles → s.board ≡ board t
    → (event_under handles ≡ None) ⊎ Finds None s s → TakeIfOpen t event part → RunsFrom (board t) part.entries
    → length (handed_out (t.entries ++ part.entries)) ≡ length (handed_out t.entries)
none_by t part handles s None is same here found spells runs =
    ap (λ (p : Part). length (handed_out (t.entries ++ p.entries))) spells ∙ taken_counts _ t.entries [] ∙ omega arith
none_by t part handles s (Some event) is same here (inl none) (moment, inl takes) runs =
    let both : Some event ≡ None = sym is ∙ same_event t handles None same none in absurd cc
none_by t part handles s (Some event) is same here (inr finds) (moment, inl takes) runs =
    absurd (not_both (board t) (subst (λ (b : Board). (b.out ≡ []) ⊎ (b.closed ≡ true)) here finds) (item takes.place takes.filling) takes.rest takes.first (taken_open t moment part takes runs))
none_by t part handles s (Some event) is same here found (moment, inr nothing) runs =
    ap (λ (p : Part). length (handed_out (t.entries ++ p.entries))) nothing.calls.is ∙ handed_none t moment nothing.refusal nothing.calls.events nothing.calls.kind

abbrev front_item : Item → List Item → Item
front_item x [] = x
front_item x (y ∷ ys) = y

-- a buffer was found: it's taken
record SomeBy (t : Trace) (part : Part) (place : ℕ) (filling : Filling) : Type 0 where
  moment : ℕ
  takes : TakesBuffer t moment part
  here : takes.place ≡ place
  what : takes.filling ≡ filling

some_by : (t : Trace) (part : Part) (place : ℕ) (s new : PlainState) (event : Option Opened) (opened : Opened) → open_event t ≡ event → open_event t ≡ Some opened → s.board ≡ board t
    → (finds : FindsBuffer place s new) → TakeIfOpen t event part → RunsFrom (board t) part.entries → SomeBy t part place finds.filling
some_by t part place s new None opened is open_is here finds spells runs = let both : None ≡ Some opened = sym is ∙ open_is in absurd cc
some_by t part place s new (Some event) opened is open_is here finds (moment, inl takes) runs =
    let same : item place finds.filling ∷ finds.rest ≡ item takes.place takes.filling ∷ takes.rest = sym finds.first ∙ ap (λ (b : Board). b.out) here ∙ takes.first in
    let one : item takes.place takes.filling ≡ item place finds.filling = ap (front_item (item place finds.filling)) (sym same) in
    record { moment = moment; takes = takes; here = ap (λ (x : Item). x.place) one; what = ap (λ (x : Item). x.filling) one }
some_by t part place s new (Some event) opened is open_is here finds (moment, inr nothing) runs =
    let es : List Event = nothing.calls.events in
    let all : RunsFrom (board t) (entries_of caller es) = subst (λ (p : Part). RunsFrom (board t) p.entries) nothing.calls.is runs in
    absurd (not_both (board t) (refused_finds (board t) moment nothing.refusal es nothing.calls.kind all) (item place finds.filling) finds.rest
    (sym (ap (λ (b : Board). b.out) here) ∙ finds.first) (sym (ap (λ (b : Board). b.closed) here) ∙ finds.unclosed))

-- The line's part, by what was found.
pub none_took : (c : AcqConfig) (t : Trace) (part : Part) (handles : Handles) (s new : PlainState) → handles ≡ t.handles → s.board ≡ board t → FindsUnder None handles s new → AddsPart c t script_line.take part
    → length (handed_out (grown t part).entries) - length (handed_out t.entries) ≡ 0
none_took c t part handles s new same here found adds =
    let e = none_by t part handles s (open_event t) refl same here found adds.spells adds.runs in omega (arith, e)

pub some_took : (c : AcqConfig) (t : Trace) (part : Part) (place : ℕ) (handles : Handles) (s : PlainState) (new : Script) → handles ≡ t.handles → s.board ≡ board t → FindsUnder (Some place) handles s new.running.board
    → AddsPart c t script_line.take part → (after : Trace) → after ≡ grown t part
    → (took : TookAt c place new t after) × (length (handed_out (grown t part).entries) - length (handed_out t.entries) ≡ 1)
some_took c t part place handles s new same here ((opened, event_is), finds) adds after is =
    let by = some_by t part place s new.running.board (open_event t) opened refl (same_event t handles (Some opened) same event_is) here finds adds.spells adds.runs in
    let one = handed_one t by.moment part by.takes in (
      record {
        part = part;
        adds = adds;
        is = is;
        moment = by.moment;
        takes = by.takes;
        here = by.here;
        lies = finds.lies ∙ ap (λ f. Some f) (sym by.what);
      },
      omega (arith, one),
    )
