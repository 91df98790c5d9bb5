-- Inputs that come to the receiver, and what is told of them.
use Rattle.std.specs.Prelude.{◌≡◌, ℕ, Bool, true, false, List, [], ◌∷◌, ◌++◌, map, Some, None, Option}
use Rattle.board_machine.specs.declared.events.Entry.{Entry}
use Rattle.board_machine.specs.Machine.{Board, Item}
use Rattle.board_machine.specs.Ids.{buffer_at}
use Rattle.board_machine.specs.Adding.{entries_of}
use Rattle.board_machine.specs.Histories.{After}
use Rattle.board_model.specs.Plain.{PlainState}
use Rattle.gvsp_wire.specs.Reading.{packet_of}
use Rattle.acquisition_machine.specs.declared.config.AcqConfig.{AcqConfig}
use Rattle.acquisition_machine.specs.declared.need.Need.{Need}
use Rattle.acquisition_machine.specs.Machine.{Input, request_bytes, datagram, tick}
use Rattle.acquisition_machine.specs.Runs.{turn}
use Rattle.acquisition_machine.specs.Runs.{After as StateAfter}
use Rattle.acquisition_machine.specs.TurnLaws.{asked_by}
use Rattle.acq_core.specs.declared.window.Window.{Window}
use Rattle.acq_core.specs.Receiver.{config_of, is_telling, asked_block, buffers, Stands}
use Rattle.acq_core.specs.Waiting.{waiting_fills, waiting_requests}
use Rattle.board_calls.specs.declared.mode.Mode.{Mode}
use Rattle.script_trace.specs.Notes.{Note, opens, drops}
use Rattle.script_trace.specs.Inputs.{need_notes, after_ends, retired_notes}
use Rattle.note_tape.specs.declared.told.Told.{Told}
use Rattle.note_tape.specs.Tells.{Tells}
use Rattle.script_trace.specs.Trace.{Trace, Part, acquirer}
use Rattle.script_trace.specs.Trace.{board as board_of}
use Rattle.script_trace.specs.StreamLines.{Hears, StopLine, TickLine}
use Rattle.script_replay.specs.declared.got.Got.{Got}
use Rattle.script_trace.specs.Drops.{drops_in}
use Rattle.script_trace.specs.Inputs.{notes_from}
use Rattle.script_replay.specs.declared.fill_counts.FillCounts.{FillCounts}
use Rattle.script_replay.specs.Boards.{IsReady}
use Rattle.script_replay.specs.Acquiring.{AreAway, Settled, IsBehindTrace, Drives}
use Rattle.explain_lines.specs.Marks.{KeepsMarks}
use Rattle.explain_lines.specs.Dropping.{DropsAs}
use Rattle.explain_lines.specs.Asking.{lines_by}

-- The receiver is as some inputs leave it, and tells the blocks that retire.
pub record IsTelling (m : Window) : Type 0 where
  pub inputs : List Input
  pub stands : Stands m inputs
  pub telling : is_telling m ≡ true

-- The input came, the buffers that came back were filled, and the blocks that retired were told.
pub record Retires (mode : Mode) (i : Input) (s : PlainState) (m : Window) (a : FillCounts) (tape : List Told) (new : PlainState) (n : Window) (b : FillCounts) (after : List Told) : Type 0 where
  pub settled : Settled mode i s m a new n b
  pub gone : List (List Item)
  pub dropped : (h : List Entry) → s.board ≡ After h → DropsAs h (entries_of acquirer settled.all.events) gone
  pub marks : KeepsMarks s.board new.board
  pub used : (q : List Input) → Stands m q → (rest : List (List Item)) → after_ends (gone ++ rest) (turn (config_of m) q i).retired ≡ rest
  pub told : (q : List Input) → Stands m q → (before : Board) → KeepsMarks before s.board → (rest : List (List Item))
      → Tells tape after (retired_notes (config_of m) before (gone ++ rest) (StateAfter (config_of m) q).floor (turn (config_of m) q i).retired)

-- The datagram came: what it needs was told, and what retired was filled and told.
pub record SettlesTold (mode : Mode) (bytes : List ℕ) (s : PlainState) (m : Window) (a : FillCounts) (tape : List Told) (need : Need) (new : PlainState) (n : Window) (b : FillCounts) (after : List Told) : Type 0 where
  pub need_is : (q : List Input) → Stands m q → (turn (config_of m) q (datagram bytes)).need ≡ Some need
  pub mid : List Told
  pub named : Tells tape mid (need_notes (packet_of bytes) (Some need))
  pub retires : Retires mode (datagram bytes) s m a mid new n b after
  pub ready : IsReady new
  pub no_fill : waiting_fills n ≡ []
  pub no_request : waiting_requests n ≡ []
  pub asked : asked_block n ≡ asked_by (Some need)
  pub away : AreAway new (buffers n)
  pub telling : is_telling n ≡ true

-- ---- claims

-- the image that a claimed place had, where it was dropped
abbrev pub way_notes : Board → ℕ → Option ℕ → List Note
way_notes before place None = []
way_notes before place (Some block) = drops block (buffer_at before place) ∷ []

-- what a claim for this block got
abbrev pub claim_notes : Board → ℕ → Option Got → List Note
claim_notes before block None = opens block None ∷ []
claim_notes before block (Some got) = way_notes before got.place got.dropped ++ opens block (Some (buffer_at before got.place)) ∷ []

-- ---- a datagram

-- where the trace is in this mode, a datagram is heard so
abbrev pub HearsIn : AcqConfig → Mode → List ℕ → Trace → Part → Type 0
HearsIn c mode bytes t part = t.mode ≡ mode → Hears c t bytes (asked_by (turn c t.inputs (datagram bytes)).need) part

-- The tape got the notes of a part's inputs.
abbrev pub TellsPart : AcqConfig → List Told → List Told → Trace → Part → Type 0
TellsPart c tape after t part =
    Tells tape after (notes_from c (board_of t) (drops_in t part) (StateAfter c t.inputs) part.inputs)

-- ---- a stop and a moment

-- where the trace is in this mode, the stream is stopped so
abbrev pub StopsIn : AcqConfig → Mode → ℕ → Trace → Part → Type 0
StopsIn c mode flags t part = t.mode ≡ mode → StopLine c t flags part

-- The moment was told, what retired was filled and told, and these requests were written and told.
pub record TicksTold (mode : Mode) (moment : ℕ) (standard : Bool) (s : PlainState) (m : Window) (a : FillCounts) (tape : List Told) (said : List ℕ) (new : PlainState) (n : Window) (b : FillCounts) (after : List Told) : Type 0 where
  pub commands : List (List ℕ)
  pub drives : Drives (λ t part. (t.mode ≡ mode → TickLine (config_of m) t moment part) × TellsPart (config_of m) tape after t part) 0 s m a (lines_by false commands) new n b
  pub said_is : said ≡ lines_by standard commands
  pub are : (t : Trace) → IsBehindTrace t s m → commands ≡ map request_bytes (turn (config_of m) t.inputs (tick moment)).requests
  pub config : config_of n ≡ config_of m
