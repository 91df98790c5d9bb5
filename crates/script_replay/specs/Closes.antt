-- What a `close` line does to the handles and the board.
use Rattle.std.specs.Prelude.{◌≡◌, ℕ, Bool, true, false, List, [], ◌++◌, length, codes}
use Rattle.gentl_handles.specs.Handles.{Handles}
use Rattle.board_machine.specs.declared.events.Event.{Event}
use Rattle.board_machine.specs.Adding.{entries_of}
use Rattle.board_machine.specs.Histories.{RunsFrom}
use Rattle.board_machine.specs.Handout.{handed}
use Rattle.board_model.specs.Plain.{PlainState}
use Rattle.script_trace.specs.Trace.{Trace, Part, board, caller, acts}
use Rattle.script_trace.specs.Contents.{contents_of, FillsFrom}
use Rattle.script_trace.specs.HandleLines.{CloseLine, handles_are, left_open}
use Rattle.board_calls.specs.Calls.{Closes}
use Rattle.script_trace.specs.Answers.{done_text}
use Rattle.script_replay.specs.Boards.{IsLeftBy}

-- Behind a trace whose history left the board, the line closes these handles and adds acts of its caller,
-- which hand out nothing, with this report, and the history with them leaves the new board.
pub record ClosesAs (serial : ℕ) (said : List ℕ) (new : PlainState) (t : Trace) : Type 0 where
  pub events : List Event
  pub spells : CloseLine t serial (handles_are t events (left_open t serial) said)
  pub runs : RunsFrom (board t) (entries_of caller events)
  pub fills : FillsFrom (contents_of t.entries) (entries_of caller events)
  pub taken : length (handed (entries_of caller events)) ≡ 0
  pub left : IsLeftBy new (t.entries ++ entries_of caller events)

-- So it is behind every such trace with these open handles.
abbrev pub ClosesUnder : Handles → ℕ → PlainState → List ℕ → PlainState → Type 0
ClosesUnder handles serial old said new =
    (t : Trace) → t.handles ≡ handles → IsLeftBy old t.entries → ClosesAs serial said new t

-- The board is closed where its stream was, and that the handles were closed is told.
abbrev pub ClosesIf : Trace → Bool → Part → Type 0
ClosesIf t true part = (events : List Event) × Closes events × (part ≡ acts t caller events (done_text (codes "close")))
ClosesIf t false part = part ≡ acts t caller [] (done_text (codes "close"))
