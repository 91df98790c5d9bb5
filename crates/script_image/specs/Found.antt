-- What a `take` line finds, and what it does.
use Rattle.std.specs.Prelude.{◌≡◌, ◌⊎◌, ℕ, true, false, List, [], ◌∷◌, Option, Some, None}
use Rattle.gev_types.specs.Filling.{Filling}
use Rattle.gentl_handles.specs.declared.opened.Opened.{Opened}
use Rattle.gentl_handles.specs.Handles.{Handles, child_of}
use Rattle.gev_script.specs.Lines as script_line
use Rattle.board_machine.specs.Machine.{Item, item}
use Rattle.board_model.specs.Plain.{PlainState, content_at}
use Rattle.script_trace.specs.BoardLines.{TakeIfOpen}
use Rattle.script_replay.specs.declared.running.Running.{Running}
use Rattle.script_replay.specs.declared.script.Script.{Script}
use Rattle.script_replay.specs.Acquiring.{KeepsLifted}
use Rattle.script_replay.specs.Boards.{IsReady, Acts}
use Rattle.script_replay.specs.Replays.{Goes, DoneLine}

-- The output had this buffer first, and the buffer lies at its place still.
pub record FindsBuffer (place : ℕ) (s new : PlainState) : Type 0 where
  pub unclosed : s.board.closed ≡ false
  pub filling : Filling
  pub rest : List Item
  pub first : s.board.out ≡ item place filling ∷ rest
  pub lies : content_at new place ≡ Some filling

-- what was found in an output
abbrev pub Finds : Option ℕ → PlainState → PlainState → Type 0
Finds None s new = (s.board.out ≡ []) ⊎ (s.board.closed ≡ true)
Finds (Some place) s new = FindsBuffer place s new

-- how many buffers were taken
abbrev pub count_of : Option ℕ → ℕ
count_of None = 0
count_of (Some place) = 1

-- With this report, which isn't made, the line takes the first buffer of the output or finds none, where the
-- stream's event is open.
pub record TakesFirst (got : Option ℕ) (s new : PlainState) : Type 0 where
  pub said : List ℕ
  pub acts : (event : Opened) → Acts (λ t. TakeIfOpen t (Some event)) 0 (count_of got) s said new
  pub ready : IsReady new
  pub lifted : KeepsLifted s new
  pub finds : Finds got s new

-- the event of the stream, under the handle of the stream with serial 4
abbrev pub event_under : Handles → Option Opened
event_under handles = child_of (Some 4) 0 handles.handles

-- what a line found by the open handles
abbrev pub FindsUnder : Option ℕ → Handles → PlainState → PlainState → Type 0
FindsUnder None handles s new = (event_under handles ≡ None) ⊎ Finds None s new
FindsUnder (Some place) handles s new = ((event : Opened) × (event_under handles ≡ Some event)) × FindsBuffer place s new

-- The `take` line was run, as a replay runs it.
pub record RunsTakeOn (got : Option ℕ) (old new : Running) : Type 0 where
  pub said : List ℕ
  pub goes : Goes script_line.take old said new
  pub finds : FindsUnder got old.tree old.board new.board

-- The same, with what is kept beside it.
pub record RunsTake (got : Option ℕ) (old new : Script) : Type 0 where
  pub said : List ℕ
  pub done : DoneLine script_line.take old said new
  pub finds : FindsUnder got old.running.tree old.running.board new.running.board
