-- Blocks that retired: their buffers are filled, and all is told.
use Rattle.std.specs.Prelude.{◌≡◌, ℕ, true, List, [], ◌∷◌, ◌++◌, length, take, Some}
use Rattle.board_machine.specs.declared.events.Entry.{Entry}
use Rattle.board_machine.specs.Machine.{Board, Item}
use Rattle.board_machine.specs.Adding.{entries_of}
use Rattle.board_machine.specs.Histories.{After}
use Rattle.board_model.specs.Plain.{PlainState}
use Rattle.acquisition_machine.specs.declared.config.AcqConfig.{AcqConfig}
use Rattle.acquisition_machine.specs.declared.retired.Retired.{Retired}
use Rattle.acquisition_machine.specs.Blocks.{Given, Open, Cause, Retirement, fills}
use Rattle.acq_core.specs.declared.ended.Ended.{Ended}
use Rattle.acq_core.specs.declared.window.Window.{Window}
use Rattle.acquisition_machine.specs.Blocks.{cause_of}
use Rattle.acq_core.specs.Ending.{end_of, ends_of}
use Rattle.acq_core.specs.Waiting.{waiting_fills, waiting_ends}
use Rattle.board_calls.specs.declared.mode.Mode.{Mode}
use Rattle.script_trace.specs.Inputs.{drop_notes, after_ends, retired_notes}
use Rattle.note_tape.specs.declared.told.Told.{Told}
use Rattle.note_tape.specs.Tells.{Tells, own_note}
use Rattle.script_trace.specs.Trace.{acquirer}
use Rattle.script_replay.specs.declared.fill_counts.FillCounts.{FillCounts}
use Rattle.script_replay.specs.Acquiring.{CountsOne, FillsAll}
use Rattle.explain_lines.specs.Marks.{KeepsMarks}
use Rattle.explain_lines.specs.Dropping.{DropsAs}

-- What waits in the receiver is what these blocks gave as they retired, behind this floor.
pub record Gives (c : AcqConfig) (floor : ℕ) (rs : List Retirement) (m : Window) : Type 0 where
  pub ends : waiting_ends m ≡ ends_of true c.p floor rs
  pub fills : waiting_fills m ≡ fills c.p rs

pub record GivesSome (m : Window) : Type 0 where
  pub config : AcqConfig
  pub floor : ℕ
  pub retired : List Retirement
  pub gives : Gives config floor retired m

-- One buffer was filled, and its block told, behind the images that gave way to it.
pub record TellsFill (mode : Mode) (end : Ended) (x : Retired) (s : PlainState) (a : FillCounts) (tape : List Told) (new : PlainState) (b : FillCounts) (after : List Told) : Type 0 where
  pub one : CountsOne mode x s a new b
  pub told : (c : AcqConfig) (floor : ℕ) (cause : Cause) (o : Open) (g : Given) → end ≡ end_of c.p floor (cause_of cause) o → o.given ≡ Some g → x.place ≡ g.place
      → (before : Board) → KeepsMarks before s.board
      → Tells tape after (drop_notes before (take (length one.dropped) s.board.out) ++ own_note c before o cause ∷ [])

-- All that waits was filled, and all blocks were told.
pub record TellsAll (mode : Mode) (m : Window) (s : PlainState) (a : FillCounts) (tape : List Told) (new : PlainState) (b : FillCounts) (after : List Told) : Type 0 where
  pub all : FillsAll mode (waiting_fills m) s a new b
  -- what was dropped for each fill
  pub gone : List (List Item)
  pub dropped : (h : List Entry) → s.board ≡ After h → DropsAs h (entries_of acquirer all.events) gone
  pub marks : KeepsMarks s.board new.board
  pub used : (c : AcqConfig) (floor : ℕ) (rs : List Retirement) → Gives c floor rs m → (rest : List (List Item)) → after_ends (gone ++ rest) rs ≡ rest
  pub told : (c : AcqConfig) (floor : ℕ) (rs : List Retirement) → Gives c floor rs m → (before : Board) → KeepsMarks before s.board → (rest : List (List Item))
      → Tells tape after (retired_notes c before (gone ++ rest) floor rs)
