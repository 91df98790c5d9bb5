-- A stop and a moment, with what they tell.
use Rattle.std.proofs.Common.{◌≡◌, ℕ, ◌≤◌, Bool, true, false, List, [], ◌∷◌, ◌++◌, map, codes, None, Result, Ok, Err, OnOk, refl, sym, ap, subst, ◌∙◌, append-nil}
use Rattle.gentl_types.specs.declared.errors.GcError.{GcError}
use Rattle.board_machine.specs.declared.events.Entry.{Entry}
use Rattle.board_machine.specs.declared.events.Event.{Event}
use Rattle.board_machine.specs.Machine.{Board}
use Rattle.board_machine.specs.Adding.{entries_of, AddsOf}
use Rattle.board_machine.specs.Histories.{After, after_from}
use Rattle.board_machine.proofs.Runs.{after-append}
use Rattle.board_calls.specs.Calls.{Stops}
use Rattle.board_model.specs.Plain.{PlainState}
use Rattle.acquisition_machine.specs.declared.config.AcqConfig.{AcqConfig}
use Rattle.acquisition_machine.specs.declared.retired.Retired.{Retired}
use Rattle.acquisition_machine.specs.Blocks.{Given}
use Rattle.acquisition_machine.specs.Machine.{Input, State, Request, request_bytes, tick, stop, settled, unasked, step}
use Rattle.acquisition_machine.specs.Runs.{turn, first_state}
use Rattle.acquisition_machine.specs.Runs.{After as StateAfter}
use Rattle.acquisition_machine.proofs.Joining.{after_from-append}
use Rattle.acquisition_machine.proofs.Window.{blocks_are_in_order}
use Rattle.acq_core.specs.declared.window.Window.{Window}
use Rattle.acq_core.specs.Receiver.{config_of, is_telling, asked_block, buffers, Stands, Takes, KeepsBlocks}
use Rattle.acq_core.specs.Waiting.{waiting_fills, waiting_requests, waiting_resends}
use Rattle.board_calls.specs.declared.mode.Mode.{Mode}
use Rattle.script_trace.specs.Inputs.{retired_notes, round_notes}
use Rattle.note_tape.specs.declared.told.Told.{Told}
use Rattle.note_tape.specs.Tells.{Tells}
use Rattle.note_tape.proofs.Rounds.{rounds_are_told}
use Rattle.script_trace.specs.Trace.{Trace, caller, acquirer}
use Rattle.script_trace.specs.Trace.{board as board_of}
use Rattle.script_trace.specs.Modes.{FillsInMode}
use Rattle.script_trace.specs.StreamLines.{retired_by, requests_text, TickLine}
use Rattle.script_trace.specs.Answers.{done_text, refused_text}
use Rattle.script_trace.specs.Drops.{drops_from}
use Rattle.script_replay.specs.declared.fill_counts.FillCounts.{FillCounts}
use Rattle.script_replay.specs.Acquiring.{AreAway, IsAtRest, IsBehindTrace, Drives}
use Rattle.script_replay.proofs.Quiet.{stop_quiet}
use Rattle.script_replay.proofs.Lines.{quiet_acts, caller_apart}
use Rattle.script_replay.proofs.Retiring.{keeps_twice}
use Rattle.script_replay.proofs.Driving.{Called, none_called, called_by, settles_with, drives_as, rests}
use Rattle.explain_lines.specs.Marks.{KeepsMarks}
use Rattle.explain_lines.specs.Retiring.{TellsAll}
use Rattle.explain_lines.specs.Asking.{lines_by, resend_notes}
use Rattle.explain_lines.specs.Hearing.{Retires, TellsPart, StopsIn, TicksTold}
use Rattle.explain_lines.proofs.Marks.{same_marks, marks_as, marks_then, stop_marks}
use Rattle.explain_lines.proofs.Dropped.{drops_both, drops_end, callers_drop}
use Rattle.explain_lines.proofs.Tapes.{tells_none, tells_both, tells_as}
use Rattle.explain_lines.proofs.Requests.{no_resend_left, notes_asked}
use Rattle.explain_lines.proofs.Datagrams.{retires_by, rest_kept, drives_kept}
use Rattle.explain_lines.proofs.Noted.{plain_lines}

-- what retires behind the calls of a line
retired_part : (mode : Mode) (i : Input) (s mid new : PlainState) (m n : Window) (a b : FillCounts) (tape after : List Told) (calls : List Event) (retires : Retires mode i mid m a tape new n b after) → Called s calls mid → KeepsMarks s.board mid.board
    → (t : Trace) → IsBehindTrace t s m
    → Tells tape after (retired_notes (config_of m) (board_of t) (drops_from t.entries false [] (entries_of caller calls ++ entries_of acquirer retires.settled.all.events)) (StateAfter (config_of m) t.inputs).floor (turn (config_of m) t.inputs i).retired)
retired_part mode i s mid new m n a b tape after calls retires called marks t behind =
    let es : List Entry = entries_of acquirer retires.settled.all.events in
    let mid_is : mid.board ≡ After (t.entries ++ entries_of caller calls)
    = called.adds.after ∙ ap (λ (c : Board). after_from c (entries_of caller calls)) behind.board.board.state ∙ sym (after-append _ t.entries (entries_of caller calls)) in
    tells_as tape after (retired_notes (config_of m) (board_of t) (retires.gone ++ []) (StateAfter (config_of m) t.inputs).floor (turn (config_of m) t.inputs i).retired) _
    (ap (λ ds. retired_notes (config_of m) (board_of t) ds (StateAfter (config_of m) t.inputs).floor (turn (config_of m) t.inputs i).retired)
    (sym (drops_end t.entries (entries_of caller calls ++ es) retires.gone
    (drops_both t.entries (entries_of caller calls) es [] retires.gone (callers_drop t.entries calls) (retires.dropped (t.entries ++ entries_of caller calls) mid_is)))))
    (retires.told t.inputs behind.inputs (board_of t) (marks_then (board_of t) s.board mid.board (marks_as (board_of t) s.board behind.board.board.state) marks) [])

-- the same fills, told of the trace
fills_told : (mode told : Mode) (xs : List Retired) (es : List Event) → told ≡ mode → FillsInMode mode xs es → FillsInMode told xs es
fills_told mode told xs es same filled = subst (λ (k : Mode). FillsInMode k xs es) (sym same) filled

-- ---- stop

pub stop_drives : (mode : Mode) (s mid new : PlainState) (m telling stopped n : Window) (a b : FillCounts) (flags : ℕ) (said : List ℕ) (tape after : List Told) → (called : AddsOf s.board caller (Stops flags (Ok tt)) mid.board) → mid.contents ≡ s.contents
    → KeepsBlocks m telling → is_telling telling ≡ true → waiting_fills telling ≡ [] → Takes telling stopped stop → TellsAll mode stopped mid a tape new b after → KeepsBlocks stopped n → said ≡ done_text (codes "stop")
    → Drives (λ t part. StopsIn (config_of m) mode flags t part × TellsPart (config_of m) tape after t part) 0 s m a said new n b
stop_drives mode s mid new m telling stopped n a b flags said tape after called same begun tells_now none takes all keeps is =
    drives_kept (λ c t part. StopsIn c mode flags t part × TellsPart c tape after t part) said s new m telling n a b begun
    (λ t behind.
    settles_with mode s mid new telling n a b called.events stop retires.settled.retired (done_text (codes "stop")) said (λ u part. StopsIn (config_of telling) mode flags u part × TellsPart (config_of telling) tape after u part) t retires.settled.all
    (λ filled. (
      (λ same_mode. (Ok tt, called.events, called.kind, record { events = retires.settled.all.events; filled = fills_told mode t.mode (retired_by (config_of telling) t.inputs stop) retires.settled.all.events same_mode filled; is = refl })),
      tells_as tape after (retired_notes (config_of telling) (board_of t) (drops_from t.entries false [] (entries_of caller called.events ++ entries_of acquirer retires.settled.all.events)) (StateAfter (config_of telling) t.inputs).floor (turn (config_of telling) t.inputs stop).retired) _ (sym (append-nil _))
          (retired_part mode stop s mid new telling n a b tape after called.events retires calls marks t behind),
    ))
    calls retires.settled.turned is behind)
  where
    retires : Retires mode stop mid telling a tape new n b after
    retires = retires_by mode stop mid new telling stopped n a b tape after tells_now none takes keeps all

    calls : Called s called.events mid
    calls = called_by s mid (Stops flags (Ok tt)) (stop_quiet flags (Ok tt)) called same

    marks : KeepsMarks s.board mid.board
    marks = stop_marks flags called.events caller s.board mid.board called.kind called.adds

pub no_stop_drives : (mode : Mode) (s mid : PlainState) (m : Window) (a : FillCounts) (c : AcqConfig) (flags : ℕ) (error : GcError) (said : List ℕ) (tape : List Told) → AddsOf s.board caller (Stops flags (Err error)) mid.board → mid.contents ≡ s.contents → said ≡ refused_text (codes "stop") error
    → Drives (λ t part. StopsIn c mode flags t part × TellsPart c tape tape t part) 0 s m a said mid m a
no_stop_drives mode s mid m a c flags error said tape called same is =
    drives_as (λ t part. StopsIn c mode flags t part × TellsPart c tape tape t part) caller said s mid m a caller_apart
    (quiet_acts s mid caller (Stops flags (Err error)) (λ t part. StopsIn c mode flags t part × TellsPart c tape tape t part) (refused_text (codes "stop") error) said caller_apart (stop_quiet flags (Err error))
    (λ t es kind. ((λ in_mode. (Err error, es, kind, refl)), tells_none tape)) called same is)

-- ---- t

-- what was asked for at this moment
asked_part : (m mid fed : Window) (moment : ℕ) (tape after : List Told) (t : Trace) → 1 ≤ (config_of m).window → Takes m mid (tick moment) → waiting_resends m ≡ [] → KeepsBlocks mid fed → waiting_resends fed ≡ waiting_resends mid
    → ((q : List Input) → Stands fed q → Tells tape after (resend_notes (StateAfter (config_of fed) q).opens (waiting_resends fed))) → Stands m t.inputs
    → Tells tape after (round_notes (config_of m) (turn (config_of m) t.inputs (tick moment)).after.now (settled (config_of m) (record (unasked (StateAfter (config_of m) t.inputs)) { now = (turn (config_of m) t.inputs (tick moment)).after.now })).opens)
asked_part m mid fed moment tape after t some takes none keeps same told stands = tells_as tape after _ _ notes (told q fed_stands)
  where
    c : AcqConfig
    c = config_of m

    start : State
    start = StateAfter c t.inputs

    q : List Input
    q = t.inputs ++ tick moment ∷ []

    fed_stands : Stands fed q
    fed_stands = keeps.stands q (takes.stands t.inputs stands)

    requests : List Request
    requests = (step c start (tick moment)).requests

    resends : waiting_resends fed ≡ map (λ r. r.resend) requests
    resends = same ∙ takes.resends t.inputs stands ∙ ap (λ rs. rs ++ map (λ r. r.resend) requests) none

    notes : resend_notes (StateAfter (config_of fed) q).opens (waiting_resends fed) ≡ round_notes c (step c start (tick moment)).after.now (settled c (record (unasked start) { now = (step c start (tick moment)).after.now })).opens
    notes =
        ap (λ (x : AcqConfig). resend_notes (StateAfter x q).opens (waiting_resends fed)) (keeps.config ∙ takes.config)
        ∙ ap (λ (x : State). resend_notes x.opens (waiting_resends fed)) (after_from-append c first_state t.inputs (tick moment ∷ []))
        ∙ ap (resend_notes (step c start (tick moment)).after.opens) resends
        ∙ notes_asked (step c start (tick moment)).after.opens requests
        ∙ rounds_are_told c start moment (let sound = blocks_are_in_order c t.inputs some in sound.rise)

pub tick_told : (mode : Mode) (moment : ℕ) (standard : Bool) (s new : PlainState) (m telling mid fed n : Window) (a b : FillCounts) (old said : List ℕ) (tape one after : List Told) → IsAtRest s m
    → KeepsBlocks m telling → is_telling telling ≡ true → waiting_fills telling ≡ waiting_fills m → waiting_requests telling ≡ waiting_requests m → Takes telling mid (tick moment) → TellsAll mode mid s a tape new b one
    → KeepsBlocks mid fed → waiting_requests fed ≡ waiting_requests mid → waiting_resends fed ≡ waiting_resends mid → KeepsBlocks fed n
    → ((q : List Input) → Stands fed q → Tells one after (resend_notes (StateAfter (config_of fed) q).opens (waiting_resends fed)))
    → old ≡ [] → said ≡ old ++ lines_by standard (waiting_requests fed) → TicksTold mode moment standard s m a tape said new n b after
tick_told mode moment standard s new m telling mid fed n a b old said tape one after rest begun tells_now fills_same requests_same takes all keeps same same_resends keeps_too asked empty is = record {
  commands = waiting_requests fed;
  drives = drives_kept (λ c t part. (t.mode ≡ mode → TickLine c t moment part) × TellsPart c tape after t part) (lines_by false (waiting_requests fed)) s new m telling n a b begun
      (λ t behind.
      settles_with mode s s new telling n a b [] (tick moment) retires.settled.retired (requests_text (turn (config_of telling) t.inputs (tick moment)).requests) (lines_by false (waiting_requests fed))
      (λ u part. (u.mode ≡ mode → TickLine (config_of telling) u moment part) × TellsPart (config_of telling) tape after u part) t retires.settled.all
      (λ filled. (
        (λ same_mode. record { events = retires.settled.all.events; filled = fills_told mode t.mode (retired_by (config_of telling) t.inputs (tick moment)) retires.settled.all.events same_mode filled; is = refl }),
        tells_as tape after _ _ (sym (append-nil _))
            (tells_both tape one after _ _
            (retired_part mode (tick moment) s s new telling n a b tape one [] retires (none_called s) (same_marks s.board) t behind)
            (asked_part telling mid fed moment one after t some takes none_resend keeps same_resends asked behind.inputs)),
      ))
      (none_called s) retires.settled.turned (ap (lines_by false) (commands_are t behind) ∙ plain_lines (turn (config_of telling) t.inputs (tick moment)).requests) behind);
  said_is = is ∙ ap (λ l. l ++ lines_by standard (waiting_requests fed)) empty;
  are = λ t behind.
      commands_are t (record { board = behind.board; inputs = begun.stands t.inputs behind.inputs })
      ∙ ap (λ (c : AcqConfig). map request_bytes (turn c t.inputs (tick moment)).requests) begun.config;
  config = keeps_too.config ∙ (keeps.config ∙ (takes.config ∙ begun.config));
}
  where
    none_fill : waiting_fills telling ≡ []
    none_fill = fills_same ∙ rest.no_fill

    none_request : waiting_requests telling ≡ []
    none_request = requests_same ∙ rest.no_request

    none_resend : waiting_resends telling ≡ []
    none_resend = no_resend_left telling none_request

    some : 1 ≤ (config_of telling).window
    some = subst (λ (c : AcqConfig). 1 ≤ c.window) (sym begun.config) rest.config.window_some

    retires : Retires mode (tick moment) s telling a tape new n b one
    retires = retires_by mode (tick moment) s new telling mid n a b tape one tells_now none_fill takes (keeps_twice mid fed n keeps keeps_too) all

    commands_are : (t : Trace) → IsBehindTrace t s telling → waiting_requests fed ≡ map request_bytes (turn (config_of telling) t.inputs (tick moment)).requests
    commands_are t behind = same ∙ takes.requests t.inputs behind.inputs ∙ ap (λ rs. rs ++ map request_bytes (turn (config_of telling) t.inputs (tick moment)).requests) none_request

-- ---- where there was memory

pub tick_told_ok : {A E : Type 0} (r : Result A E) (mode : Mode) (moment : ℕ) (standard : Bool) (s new : PlainState) (m telling mid fed n : Window) (a b : FillCounts) (old said : List ℕ) (tape one after : List Told) → IsAtRest s m
    → KeepsBlocks m telling → is_telling telling ≡ true → waiting_fills telling ≡ waiting_fills m → waiting_requests telling ≡ waiting_requests m → Takes telling mid (tick moment) → TellsAll mode mid s a tape new b one
    → KeepsBlocks mid fed → waiting_requests fed ≡ waiting_requests mid → waiting_resends fed ≡ waiting_resends mid → old ≡ []
    → OnOk r (KeepsBlocks fed n)
    → OnOk r ((q : List Input) → Stands fed q → Tells one after (resend_notes (StateAfter (config_of fed) q).opens (waiting_resends fed)))
    → OnOk r (said ≡ old ++ lines_by standard (waiting_requests fed)) → OnOk r (TicksTold mode moment standard s m a tape said new n b after)
tick_told_ok (Ok v) mode moment standard s new m telling mid fed n a b old said tape one after rest begun tells_now fills_same requests_same takes all keeps same same_resends empty keeps_too asked is =
    tick_told mode moment standard s new m telling mid fed n a b old said tape one after rest begun tells_now fills_same requests_same takes all keeps same same_resends keeps_too asked empty is
tick_told_ok (Err e) mode moment standard s new m telling mid fed n a b old said tape one after rest begun tells_now fills_same requests_same takes all keeps same same_resends empty keeps_too asked is = tt

pub tick_rests_ok : {A E : Type 0} (r : Result A E) (mode : Mode) (moment : ℕ) (s new : PlainState) (m telling mid fed n : Window) (a b : FillCounts) (tape one : List Told) → IsAtRest s m
    → KeepsBlocks m telling → waiting_fills telling ≡ waiting_fills m → waiting_requests telling ≡ waiting_requests m → Takes telling mid (tick moment) → asked_block mid ≡ None → TellsAll mode mid s a tape new b one
    → KeepsBlocks mid fed → waiting_fills fed ≡ [] → AreAway new (buffers fed)
    → OnOk r (KeepsBlocks fed n) → OnOk r (waiting_fills n ≡ waiting_fills fed) → OnOk r (waiting_requests n ≡ []) → OnOk r (IsAtRest new n)
tick_rests_ok (Ok v) mode moment s new m telling mid fed n a b tape one rest begun fills_same requests_same takes asked all keeps no_fill away keeps_too fills_too no_request =
    rests (waiting_fills mid) s new telling mid n (tick moment) (rest_kept s m telling rest begun fills_same requests_same) takes (keeps_twice mid fed n keeps keeps_too) asked rest.ready all.all (fills_too ∙ no_fill) no_request
    (subst (λ (gs : List Given). AreAway new gs) (sym keeps_too.buffers) away)
tick_rests_ok (Err e) mode moment s new m telling mid fed n a b tape one rest begun fills_same requests_same takes asked all keeps no_fill away keeps_too fills_too no_request = tt
