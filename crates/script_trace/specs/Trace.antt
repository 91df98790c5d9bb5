-- The trace of a replay script: what its lines have done so far, and what one more line adds.
use Rattle.std.specs.Prelude.{◌≡◌, ℕ, ◌+◌, Bool, List, [], ◌++◌}
use Rattle.acquisition_machine.specs.Machine.{Input}
use Rattle.board_machine.specs.declared.events.Entry.{Entry}
use Rattle.board_machine.specs.declared.events.Event.{Event}
use Rattle.board_machine.specs.Machine.{Board}
use Rattle.board_machine.specs.Histories.{After}
use Rattle.board_machine.specs.Adding.{entries_of}
use Rattle.gentl_handles.specs.Handles.{Handles}
use Rattle.board_calls.specs.declared.mode.Mode.{Mode}

pub record Trace : Type 0 where
  -- the history of the board of the stream with serial 4
  pub entries : List Entry
  -- what the acquisition was told
  pub inputs : List Input
  -- the open handles
  pub handles : Handles
  -- the datagrams that came while the stream wasn't running
  pub idle : ℕ
  -- the report so far
  pub text : List ℕ
  -- the buffer handling mode
  pub mode : Mode
  -- whether a line that sets it was answered ok
  pub told_mode : Bool

-- what one line adds, with the handles that are open after it, and the mode
pub record Part : Type 0 where
  pub entries : List Entry
  pub inputs : List Input
  pub handles : Handles
  pub idle : ℕ
  pub text : List ℕ
  pub mode : Mode
  pub told_mode : Bool

-- the trace with this part added
abbrev pub grown : Trace → Part → Trace
grown t part = record {
  entries = t.entries ++ part.entries;
  inputs = t.inputs ++ part.inputs;
  handles = part.handles;
  idle = t.idle + part.idle;
  text = t.text ++ part.text;
  mode = part.mode;
  told_mode = part.told_mode;
}

-- the board after the trace
abbrev pub board : Trace → Board
board t = After t.entries

-- who makes the calls of the lines
abbrev pub caller : ℕ
caller = 0

-- who claims, fills and lays for the acquisition; 1 to 4 are the actors of `step` lines
abbrev pub acquirer : ℕ
acquirer = 5

-- a line that touches neither board nor acquisition nor handles, with its report
abbrev pub only_says : Trace → List ℕ → Part
only_says t said = record { entries = []; inputs = []; handles = t.handles; idle = 0; text = said; mode = t.mode; told_mode = t.told_mode }

-- these acts of one actor, and the line's report
abbrev pub acts : Trace → ℕ → List Event → List ℕ → Part
acts t k events said = record {
  entries = entries_of k events;
  inputs = [];
  handles = t.handles;
  idle = 0;
  text = said;
  mode = t.mode;
  told_mode = t.told_mode;
}

-- The line is a call of this actor, with events of this kind, and with this report.
pub record Calls (t : Trace) (k : ℕ) (Kind : List Event → Type 0) (said : List ℕ) (part : Part) : Type 0 where
  pub events : List Event
  pub kind : Kind events
  pub is : part ≡ acts t k events said
