-- What lines that open and close handles add.
use Rattle.std.specs.Prelude.{◌≡◌, ℕ, Bool, true, false, List, [], codes, Option, Some, Result, Ok, Err}
use Rattle.gentl_types.specs.declared.errors.GcError.{GcError}
use Rattle.gentl_handles.specs.declared.opened.Opened.{Opened}
use Rattle.gentl_handles.specs.Handles.{Handles}
use Rattle.gentl_handles.specs.Opening.{opening, with_opened}
use Rattle.gentl_handles.specs.Closing.{closing, without_closed, is_among}
use Rattle.gev_report.specs.ReplayLines.{number_line}
use Rattle.board_machine.specs.declared.events.Event.{Event}
use Rattle.board_machine.specs.Adding.{entries_of}
use Rattle.board_calls.specs.Calls.{Closes}
use Rattle.script_trace.specs.Trace.{Trace, Part, caller}
use Rattle.script_trace.specs.Answers.{refused_text, done_text}

-- acts of the line's caller, these handles, and the line's report
abbrev pub handles_are : Trace → List Event → Handles → List ℕ → Part
handles_are t events handles said = record {
  entries = entries_of caller events;
  inputs = [];
  handles = handles;
  idle = 0;
  text = said;
  mode = t.mode;
  told_mode = t.told_mode;
}

-- the new handle's serial, or the refusal
abbrev pub opened_text : Result Opened GcError → List ℕ
opened_text (Ok o) = number_line (codes "open") o.serial
opened_text (Err error) = refused_text (codes "open") error

-- a parent of None is a system's; a second stream that a line opens has no board
abbrev pub OpenLine : Trace → Option ℕ → ℕ → Part → Type 0
OpenLine t parent index part =
    part ≡ handles_are t [] (with_opened t.handles (opening t.handles parent index)) (opened_text (opening t.handles parent index))

-- the handles after a close
abbrev pub left_open : Trace → ℕ → Handles
left_open t serial = without_closed t.handles serial (closing t.handles serial)

-- by whether the stream with serial 4 is among what is closed: then its board is closed too
abbrev pub ClosesStream : Trace → ℕ → Bool → Part → Type 0
ClosesStream t serial false part = part ≡ handles_are t [] (left_open t serial) (done_text (codes "close"))
ClosesStream t serial true part =
    (events : List Event) × Closes events × (part ≡ handles_are t events (left_open t serial) (done_text (codes "close")))

abbrev pub ClosesHandle : Trace → ℕ → Result (List ℕ) GcError → Part → Type 0
ClosesHandle t serial (Ok closed) part = ClosesStream t serial (is_among closed (Some 4)) part
ClosesHandle t serial (Err error) part = part ≡ handles_are t [] t.handles (refused_text (codes "close") error)

abbrev pub CloseLine : Trace → ℕ → Part → Type 0
CloseLine t serial part = ClosesHandle t serial (closing t.handles serial) part
