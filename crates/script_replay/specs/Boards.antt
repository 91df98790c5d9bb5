-- What a plain board is to the history of a trace, and what a line of calls does to both.
use Rattle.std.specs.Prelude.{◌≡◌, ◌⊎◌, ℕ, ◌≤◌, List, ◌++◌, length, Option}
use Rattle.gev_types.specs.Filling.{Filling}
use Rattle.board_machine.specs.declared.events.Entry.{Entry}
use Rattle.board_machine.specs.declared.events.Event.{Event}
use Rattle.board_machine.specs.Machine.{Board, IsActor, InHand}
use Rattle.board_machine.specs.Adding.{entries_of}
use Rattle.board_machine.specs.Histories.{StandsFor, RunsFrom}
use Rattle.board_machine.specs.Handout.{handed}
use Rattle.board_model.specs.Plain.{PlainState, lying, nothing}
use Rattle.script_trace.specs.Trace.{Trace, Part, board, acts, acquirer}
use Rattle.script_trace.specs.Contents.{contents_of, FillsFrom}

-- At the place lies what was told; or nothing, where the acquisition has the place in its hands and has
-- lifted the buffer.
abbrev pub LiesAsTold : Board → List (Option Filling) → List (Option Filling) → ℕ → Type 0
LiesAsTold b contents told i = (lying contents i ≡ lying told i) ⊎ ((lying contents i ≡ nothing) × InHand b acquirer i)

-- The board, and what lies at its places, are what this history leaves.
pub record IsLeftBy (s : PlainState) (h : List Entry) : Type 0 where
  pub board : StandsFor s.board h
  pub lies : (i : ℕ) → LiesAsTold s.board s.contents (contents_of h) i

-- A history left the board, on which the calls of the lines, the four actors of `step` lines and the
-- acquisition each have an actor.
pub record IsReady (s : PlainState) : Type 0 where
  pub actors : (k : ℕ) → k ≤ acquirer → IsActor s.board k
  pub history : List Entry
  pub left : IsLeftBy s history

-- Behind a trace whose history left the board, the line adds acts of actor k, which hand out so many
-- buffers, with this report, and the history with them leaves the new board.
pub record ActsAs (Line : Trace → Part → Type 0) (k count : ℕ) (said : List ℕ) (new : PlainState) (t : Trace) : Type 0 where
  pub events : List Event
  pub spells : Line t (acts t k events said)
  pub runs : RunsFrom (board t) (entries_of k events)
  pub fills : FillsFrom (contents_of t.entries) (entries_of k events)
  pub taken : length (handed (entries_of k events)) ≡ count
  pub left : IsLeftBy new (t.entries ++ entries_of k events)

-- So it is behind every such trace.
abbrev pub Acts : (Trace → Part → Type 0) → ℕ → ℕ → PlainState → List ℕ → PlainState → Type 0
Acts Line k count old said new = (t : Trace) → IsLeftBy old t.entries → ActsAs Line k count said new t
