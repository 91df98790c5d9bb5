-- What a `take` line finds, by the calls that it makes.
use Rattle.std.proofs.Common.{◌≡◌, ℕ, ◌+◌, ◌-◌, ◌^◌, min, List, length, codes, option_map, Option, Some, None, Ok, Err, refl, sym, ap, subst, ◌∙◌, arith, inl, inr}
use Rattle.std.specs.Prelude.{if◌then◌else◌}
use Rattle.gentl_types.specs.declared.errors.GcError.{GcError}
use Rattle.gentl_types.specs.declared.errors.GcError.TheVariants.{InvalidHandle, Timeout, Abort}
use Rattle.gentl_types.specs.declared.errors.Shown.TheVariants as shown
use Rattle.gentl_handles.specs.declared.opened.Opened.{Opened}
use Rattle.gentl_handles.specs.Handles.{Handles, child_of}
use Rattle.gev_report.specs.ReplayLines.{take_line}
use Rattle.gev_script.specs.Lines as script_line
use Rattle.board_machine.specs.declared.events.Event.{Event}
use Rattle.board_machine.specs.Machine.{Board, word_at}
use Rattle.board_machine.specs.Adding.{entries_of, AddsOf}
use Rattle.board_machine.specs.Histories.{RunsFrom}
use Rattle.board_calls.specs.Calls.{Returns, Gets, itself}
use Rattle.board_model.specs.Plain.{PlainState, lying, content_at, AreKept}
use Rattle.script_trace.specs.Trace.{caller}
use Rattle.script_trace.specs.Answers.{refused_text}
use Rattle.script_trace.specs.BoardLines.{TakeLine, buffer}
use Rattle.script_trace.specs.Ending.{as_count}
use Rattle.script_trace.specs.Modes.{handed_out}
use Rattle.script_trace.specs.Wide.{is_started_at}
use Rattle.script_replay.specs.declared.running.Running.{Running}
use Rattle.script_replay.specs.declared.script.Script.{Script}
use Rattle.script_replay.specs.declared.widening.Widening.{Widening}
use Rattle.script_replay.specs.Boards.{IsReady}
use Rattle.script_replay.specs.Replays.{IsReplaying, DoneLine}
use Rattle.script_replay.proofs.Quiet.{get_quiet}
use Rattle.script_replay.proofs.Lines.{caller_apart, quiet_ready}
use Rattle.script_replay.proofs.Lent.{takes_one, taken_first, first_lies, take_acts, take_ready, no_take_acts, take_under, no_take_under}
use Rattle.script_replay.proofs.Replaying.{under_goes}
use Rattle.script_replay.proofs.Resting.{lifted_same}
use Rattle.script_replay.proofs.Widened.{other_does, line_done}
use Rattle.script_image.specs.Found.{Finds, TakesFirst, event_under, RunsTakeOn, RunsTake}

-- ---- the board

first_meets : (b new : Board) (es : List Event) (Kind : List Event → Type 0) (called : AddsOf b 0 Kind new) → called.events ≡ es → RunsFrom b (entries_of 0 es)
first_meets b new es Kind called is = subst (λ (fs : List Event). RunsFrom b (entries_of 0 fs)) is called.adds.runs

err_finds : (s : PlainState) (new : Board) (error : GcError) → (called : AddsOf s.board 0 (Gets {T = ℕ} 0 itself (Err error)) new) → Gets {T = ℕ} 0 itself (Err error) called.events → Finds None s s
err_finds s new (InvalidHandle shown.Closed) called kind = inr (first_meets s.board new _ _ called kind).0.meets
err_finds s new Abort called kind = inl (first_meets s.board new _ _ called kind).0.meets.1
err_finds s new (Timeout first last) called kind = inl (first_meets s.board new _ _ called kind.2).0.meets.1
err_finds s new error called kind = absurd kind

pub takes_none : (s new : PlainState) (error : GcError) → IsReady s → AddsOf s.board 0 (Gets {T = ℕ} 0 itself (Err error)) new.board → new.contents ≡ s.contents → TakesFirst None s new
takes_none s new error ready called same = record {
  said = refused_text (codes "take") error;
  acts = λ event. no_take_acts s new error (refused_text (codes "take") error) event called same refl;
  ready = quiet_ready s new 0 (Gets {T = ℕ} 0 itself (Err error)) caller_apart (get_quiet {T = ℕ} 0 itself error) ready called same;
  lifted = lifted_same s new same;
  finds = err_finds s new.board error called called.kind;
}

pub takes_some : (s mid new : PlainState) (place : ℕ) → IsReady s → AreKept s → AddsOf s.board 0 (Gets {T = ℕ} 0 itself (Ok place)) mid.board → mid.contents ≡ s.contents
    → AddsOf mid.board 0 (Returns place) new.board → new.contents ≡ mid.contents → TakesFirst (Some place) s new
takes_some s mid new place ready kept got same returned same_too =
    let found = taken_first s.board new.board place (takes_one s.board mid.board new.board place got returned) in
    let lies : content_at new place ≡ Some found.0 = ap (λ c. lying c place) (same_too ∙ same) ∙ first_lies s place found.0 found.1 kept found.2 in
    let generation : ℕ = (word_at mid.board place).generation in
    record {
      said = take_line (buffer place generation) found.0;
      acts = λ event. take_acts s mid new place generation found.0 (take_line (buffer place generation) found.0) event kept got same refl returned same_too lies refl;
      ready = take_ready s mid new place got same returned same_too ready;
      lifted = lifted_same s new (same_too ∙ same);
      finds = record {
        unclosed = (first_meets s.board mid.board _ _ got got.kind).0.meets.0;
        filling = found.0;
        rest = found.1;
        first = found.2;
        lies = lies;
      };
    }

-- ---- the stream's event

an_event : (x : Option Opened) (n : ℕ) → Some n ≡ option_map (λ o. o.serial) x → (event : Opened) × (x ≡ Some event)
an_event None n e = absurd cc
an_event (Some event) n e = (event, refl)

no_event : (x : Option Opened) → None ≡ option_map (λ o. o.serial) x → x ≡ None
no_event None e = refl
no_event (Some event) e = absurd cc

four_under : (handles : Handles) (n : ℕ) → n ≡ 4 → event_under handles ≡ child_of (Some n) 0 handles.handles
four_under handles n four = ap (λ m. child_of (Some m) 0 handles.handles) (sym four)

-- the count of what was handed out stands where it stood
still : (n m : ℕ) → n ≡ as_count m → n ≡ min (n + 0) (2 ^ 64 - 1)
still n m e = omega (arith, e)

taken_still : (r : Running) → IsReplaying r → r.taken ≡ min (r.taken + 0) (2 ^ 64 - 1)
taken_still r keeps = still r.taken (length (handed_out keeps.trace.entries)) keeps.stands.taken

-- The output had a buffer.
pub open_some : (old : Running) (new : PlainState) (serial place n : ℕ) → IsReplaying old → Some serial ≡ option_map (λ o. o.serial) (child_of (Some old.stream.serial) 0 old.tree.handles)
    → TakesFirst (Some place) old.board new → n ≡ min (old.taken + 1) (2 ^ 64 - 1) → RunsTakeOn (Some place) old (record old { board = new; taken = n })
open_some old new serial place n keeps opened takes counted = record {
  said = takes.said;
  goes =
      under_goes script_line.take TakeLine caller 1 old takes.said new caller_apart keeps
      (take_under old.board new old.tree old.stream.serial serial 1 takes.said keeps.stream opened takes.acts) takes.ready takes.lifted
      (λ t part spells. spells) n counted;
  finds =
      let found = an_event (child_of (Some old.stream.serial) 0 old.tree.handles) serial opened in
      ((found.0, four_under old.tree old.stream.serial keeps.stream ∙ found.1), takes.finds);
}

-- It had none.
pub open_none : (old : Running) (new : PlainState) (serial : ℕ) → IsReplaying old → Some serial ≡ option_map (λ o. o.serial) (child_of (Some old.stream.serial) 0 old.tree.handles)
    → TakesFirst None old.board new → RunsTakeOn None old (record old { board = new })
open_none old new serial keeps opened takes = record {
  said = takes.said;
  goes =
      under_goes script_line.take TakeLine caller 0 old takes.said new caller_apart keeps
      (take_under old.board new old.tree old.stream.serial serial 0 takes.said keeps.stream opened takes.acts) takes.ready takes.lifted
      (λ t part spells. spells) old.taken (taken_still old keeps);
  finds = inr takes.finds;
}

-- The event isn't open.
pub not_open : (old : Running) → IsReplaying old → None ≡ option_map (λ o. o.serial) (child_of (Some old.stream.serial) 0 old.tree.handles) → RunsTakeOn None old old
not_open old keeps closed =
    let said : List ℕ = refused_text (codes "take") (InvalidHandle (shown.NoHandle 4)) in
    record {
      said = said;
      goes =
          under_goes script_line.take TakeLine caller 0 old said old.board caller_apart keeps
          (no_take_under old.board old.tree old.stream.serial said keeps.stream closed refl) keeps.rest.ready (lifted_same old.board old.board refl)
          (λ t part spells. spells) old.taken (taken_still old keeps);
      finds = inl (four_under old.tree old.stream.serial keeps.stream ∙ no_event _ closed);
    }

-- What is kept beside the trace is noted.
pub take_runs : (got : Option ℕ) (old : Script) (new : Running) (before after : ℕ) (kept : Widening) → RunsTakeOn got old.running new
    → before ≡ old.running.board.board.run → after ≡ new.board.board.run → kept ≡ (if is_started_at before after then record old.widening { widener = 0 } else old.widening)
    → RunsTake got old (record { running = new; widening = kept })
take_runs got old new before after kept runs was is same = record {
  said = runs.said;
  done =
      subst (λ k. DoneLine script_line.take old runs.said (record { running = new; widening = k })) (sym same)
      (line_done script_line.take old (record old { running = new }) runs.said before after (other_does script_line.take old runs.said new tt runs.goes) was is);
  finds = runs.finds;
}
