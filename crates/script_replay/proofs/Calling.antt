-- What a call of the plain board is to a line of calls, whatever becomes of its report.
use Rattle.std.specs.Prelude.{⊤}
use Rattle.std.proofs.Common.{◌≡◌, ℕ, List, ◌++◌, length, Result, OnOk}
use Rattle.std.proofs.lemmas.Result.{on_ok_weaker}
use Rattle.gev_types.specs.declared.memory.NoMemory.{NoMemory}
use Rattle.board_machine.specs.declared.events.Entry.{Entry}
use Rattle.board_machine.specs.declared.events.Event.{Event}
use Rattle.board_machine.specs.Adding.{entries_of, AddsOf}
use Rattle.board_machine.specs.Handout.{handed}
use Rattle.board_model.specs.Plain.{PlainState}
use Rattle.script_trace.specs.Trace.{Trace, Part, acts, caller}
use Rattle.script_trace.specs.Contents.{contents_of, FillsFrom}
use Rattle.script_replay.specs.Boards.{IsLeftBy, IsReady}
use Rattle.script_replay.specs.Acquiring.{KeepsLifted, CallsBoard}
use Rattle.script_replay.proofs.Quiet.{AreQuiet}
use Rattle.script_replay.proofs.Lines.{quiet_acts, quiet_ready, acts_by, ready_by, caller_apart}
use Rattle.script_replay.proofs.Resting.{lifted_same}

-- The call leaves alone what lies at the places, and hands nothing out.
pub quiet_calls : (answer : Result ⊤ NoMemory) (s new : PlainState) (Kind : List Event → Type 0) (Line : Trace → Part → Type 0) (text said : List ℕ)
    → ((es : List Event) → Kind es → AreQuiet es)
    → ((t : Trace) (es : List Event) → Kind es → Line t (acts t caller es text))
    → IsReady s → AddsOf s.board caller Kind new.board → new.contents ≡ s.contents → OnOk answer (said ≡ text) → CallsBoard Line answer s said new
quiet_calls answer s new Kind Line text said quiet spells ready called same told = record {
  acts = on_ok_weaker answer (λ is. quiet_acts s new caller Kind Line text said caller_apart quiet spells called same is) told;
  ready = quiet_ready s new caller Kind caller_apart quiet ready called same;
  lifted = lifted_same s new same;
}

-- It changes what lies at the places.
pub calls_by : (answer : Result ⊤ NoMemory) (s new : PlainState) (Kind : List Event → Type 0) (Line : Trace → Part → Type 0) (text said : List ℕ) (called : AddsOf s.board caller Kind new.board)
    → ((t : Trace) → IsLeftBy s t.entries → Line t (acts t caller called.events text))
    → ((h : List Entry) → IsLeftBy s h → FillsFrom (contents_of h) (entries_of caller called.events))
    → length (handed (entries_of caller called.events)) ≡ 0
    → ((h : List Entry) → IsLeftBy s h → IsLeftBy new (h ++ entries_of caller called.events))
    → KeepsLifted s new → IsReady s → OnOk answer (said ≡ text) → CallsBoard Line answer s said new
calls_by answer s new Kind Line text said called spells fills taken leaves lifted ready told = record {
  acts = on_ok_weaker answer (λ is. acts_by s new caller 0 Kind Line text said called spells fills taken leaves is) told;
  ready = ready_by s new caller Kind ready called leaves;
  lifted = lifted;
}
