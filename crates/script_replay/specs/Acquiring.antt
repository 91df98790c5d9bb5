-- The acquisition beside the board: where the buffers of its open blocks are, and what a line that drives it
-- does to both.
use Rattle.std.specs.Prelude.{◌≡◌, ◌≢◌, ⊤, ℕ, ◌<◌, Bool, if◌then◌else◌, List, [], ◌∷◌, ◌++◌, length, Option, None, Some, Result, OnOk, slice_set}
use Rattle.gev_types.specs.declared.memory.NoMemory.{NoMemory}
use Rattle.gev_script.specs.declared.act.Act.{Act}
use Rattle.gev_report.specs.ReplayLines.{request_line}
use Rattle.gev_report.specs.declared.step_text.StepText.{StepText}
use Rattle.gev_report.specs.StepLine.{step_line}
use Rattle.board_machine.specs.declared.events.Entry.{Entry}
use Rattle.board_machine.specs.declared.events.Event.{Event}
use Rattle.board_machine.specs.Machine.{Board, InHand, word_at}
use Rattle.board_machine.specs.Adding.{entries_of, Adds, KeepsActors}
use Rattle.board_machine.specs.Histories.{RunsFrom}
use Rattle.board_calls.specs.Rounds.{filled_or_laid}
use Rattle.board_model.specs.Plain.{PlainState, IsLifted}
use Rattle.acquisition_machine.specs.declared.retired.Retired.{Retired}
use Rattle.acquisition_machine.specs.Blocks.{Given, fills}
use Rattle.acquisition_machine.specs.Machine.{Input, claimed}
use Rattle.acquisition_machine.specs.Runs.{turn}
use Rattle.acq_core.specs.declared.window.Window.{Window}
use Rattle.acq_core.specs.Standing.{IsConfig}
use Rattle.acq_core.specs.Receiver.{config_of, asked_block, buffers, Stands, Takes}
use Rattle.acq_core.specs.Waiting.{waiting_fills, waiting_requests}
use Rattle.board_calls.specs.declared.mode.Mode.{Mode}
use Rattle.board_calls.specs.Modes.{DropsFor, ClaimsFor}
use Rattle.script_trace.specs.Trace.{Trace, Part, board, grown, caller, acquirer}
use Rattle.script_trace.specs.Contents.{contents_of, FillsFrom}
use Rattle.script_trace.specs.StreamLines.{outcome}
use Rattle.script_trace.specs.Modes.{FillsInMode, place_of, handed_out}
use Rattle.script_replay.specs.declared.fill_counts.FillCounts.{FillCounts}
use Rattle.script_replay.specs.Boards.{IsLeftBy, IsReady, Acts}
use Rattle.script_replay.specs.Counting.{with_fill, with_dropped, counted_in}
use Rattle.script_replay.specs.Steps.{word_of}

-- ---- the buffers of open blocks

-- The buffer is the acquisition's: its place is in the acquisition's hands, and the buffer is lifted out of it.
pub record IsAway (s : PlainState) (g : Given) : Type 0 where
  pub in_hand : InHand s.board acquirer g.place
  pub lifted : IsLifted s g.place
  pub size : g.size ≡ (word_at s.board g.place).size
  pub within : g.place < length s.contents

-- none of these is the buffer of this place
abbrev pub AreApart : ℕ → List Given → Type 0
AreApart i [] = ⊤
AreApart i (g ∷ gs) = (g.place ≢ i) × AreApart i gs

-- These buffers are the acquisition's, each of another place.
abbrev pub AreAway : PlainState → List Given → Type 0
AreAway s [] = ⊤
AreAway s (g ∷ gs) = IsAway s g × AreApart g.place gs × AreAway s gs

-- Between two lines nothing waits in the receiver, it awaits no claim, and the buffers of its open blocks
-- are the acquisition's.
pub record IsAtRest (s : PlainState) (m : Window) : Type 0 where
  pub ready : IsReady s
  pub config : IsConfig (config_of m)
  pub inputs : List Input
  pub stands : Stands m inputs
  pub no_fill : waiting_fills m ≡ []
  pub no_request : waiting_requests m ≡ []
  pub unasked : asked_block m ≡ None
  pub away : AreAway s (buffers m)

-- What is lifted out of a place in the acquisition's hands stays lifted.
pub record KeepsLifted (s new : PlainState) : Type 0 where
  pub lifted : (i : ℕ) → InHand s.board acquirer i → IsLifted s i → IsLifted new i
  pub wide : length new.contents ≡ length s.contents

-- A line of calls was run, with this answer. Where there was memory for its report, which is this, it adds acts that
-- hand out nothing. With each answer the board is ready for the next line, and what is lifted stays lifted.
pub record CallsBoard (Line : Trace → Part → Type 0) (answer : Result ⊤ NoMemory) (s : PlainState) (said : List ℕ) (new : PlainState) : Type 0 where
  pub acts : OnOk answer (Acts Line caller 0 s said new)
  pub ready : IsReady new
  pub lifted : KeepsLifted s new

-- A step of actor k was made, of which its line tells this: it adds acts that hand out so many buffers. The board is ready
-- for the next line, and what is lifted stays lifted.
pub record StepsBoard (Line : Trace → Part → Type 0) (k count : ℕ) (act : Act) (text : StepText) (s new : PlainState) : Type 0 where
  pub acts : (said : List ℕ) → said ≡ step_line k (word_of act) text → Acts Line k count s said new
  pub ready : IsReady new
  pub lifted : KeepsLifted s new

-- ---- buffers that come back

-- The buffer is filled into the output, or laid where the stream was closed.
pub record FillsOne (x : Retired) (s new : PlainState) : Type 0 where
  pub filled : Bool
  pub adds : Adds s.board acquirer (filled_or_laid x.place x.buf filled) new.board
  pub contents : new.contents ≡ slice_set s.contents x.place (Some x.buf)

-- the same with this board
abbrev pub with_board : PlainState → Board → PlainState
with_board s b = record s { board = b }

-- Before it, what the mode drops is dropped; and both are counted, the buffer where it was filled.
pub record CountsOne (mode : Mode) (x : Retired) (s : PlainState) (a : FillCounts) (new : PlainState) (b : FillCounts) : Type 0 where
  pub dropped : List ℕ
  pub front : List Event
  pub drops : DropsFor mode dropped front
  pub mid : Board
  pub adds : Adds s.board acquirer front mid
  pub one : FillsOne x (with_board s mid) new
  pub counted : b ≡ (if one.filled then with_fill (with_dropped a (length dropped)) x.buf.rec.complete else with_dropped a (length dropped))

-- These are filled by the mode and counted, in order, or laid where the stream was closed.
pub record FillsAll (mode : Mode) (xs : List Retired) (s : PlainState) (a : FillCounts) (new : PlainState) (b : FillCounts) : Type 0 where
  pub events : List Event
  pub filled : FillsInMode mode xs events
  pub adds : Adds s.board acquirer events new.board
  pub actors : KeepsActors s.board new.board
  pub sizes : (i : ℕ) → (word_at new.board i).size ≡ (word_at s.board i).size
  pub left : (h : List Entry) → IsLeftBy s h → IsLeftBy new (h ++ entries_of acquirer events)
  pub counted : b ≡ counted_in a (entries_of acquirer events)

-- An input came to a receiver in which nothing waited, and these buffers were taken out.
pub record Turned (m n : Window) (i : Input) (xs : List Retired) : Type 0 where
  pub stands : (q : List Input) → Stands m q → Stands n (q ++ i ∷ [])
  pub fills : (q : List Input) → Stands m q → xs ≡ fills (config_of m).p (turn (config_of m) q i).retired
  pub config : config_of n ≡ config_of m

-- An input came, and the buffers that came back were filled.
pub record Settled (mode : Mode) (i : Input) (s : PlainState) (m : Window) (a : FillCounts) (new : PlainState) (n : Window) (b : FillCounts) : Type 0 where
  pub retired : List Retired
  pub turned : Turned m n i retired
  pub all : FillsAll mode retired s a new b

-- ---- claims

-- A place was claimed by the mode and its buffer lifted out, or there was none; and the receiver was told the
-- outcome. A place that was dropped for this is counted.
pub record Claims (mode : Mode) (s : PlainState) (m : Window) (a : FillCounts) (new : PlainState) (n : Window) (b : FillCounts) : Type 0 where
  pub claim : Option (ℕ × Bool)
  pub events : List Event
  pub got : ClaimsFor mode claim events
  pub adds : Adds s.board acquirer events new.board
  pub actors : KeepsActors s.board new.board
  pub words : new.board.words ≡ s.board.words
  pub takes : Takes m n (claimed (outcome s.board (place_of claim)))
  pub left : (h : List Entry) → IsLeftBy s h → IsLeftBy new (h ++ entries_of acquirer events)
  pub counted : b ≡ counted_in a (entries_of acquirer events)

-- ---- lines

-- the lines of these requests, each by its bytes
abbrev pub lines_of : List (List ℕ) → List ℕ
lines_of [] = []
lines_of (r ∷ rs) = request_line r ++ lines_of rs

-- The board and the receiver are what the trace leaves.
pub record IsBehindTrace (t : Trace) (s : PlainState) (m : Window) : Type 0 where
  pub board : IsLeftBy s t.entries
  pub inputs : Stands m t.inputs

-- The line adds a part with this report, which counts so many datagrams as idle and hands no buffer out,
-- the trace with it leaves the new board and receiver, and its fills and drops are counted.
pub record DrivesAt (Line : Trace → Part → Type 0) (idle : ℕ) (a : FillCounts) (said : List ℕ) (new : PlainState) (n : Window) (b : FillCounts) (t : Trace) : Type 0 where
  pub part : Part
  pub spells : Line t part
  pub runs : RunsFrom (board t) part.entries
  pub fills : FillsFrom (contents_of t.entries) part.entries
  pub handles : part.handles ≡ t.handles
  pub idles : part.idle ≡ idle
  pub text : part.text ≡ said
  pub mode : part.mode ≡ t.mode
  pub told_mode : part.told_mode ≡ t.told_mode
  pub none_taken : handed_out part.entries ≡ []
  pub behind : IsBehindTrace (grown t part) new n
  pub counted : b ≡ counted_in a part.entries

-- So it is at every trace that left the old ones.
abbrev pub Drives : (Trace → Part → Type 0) → ℕ → PlainState → Window → FillCounts → List ℕ → PlainState → Window → FillCounts → Type 0
Drives Line idle s m a said new n b = (t : Trace) → IsBehindTrace t s m → DrivesAt Line idle a said new n b t
