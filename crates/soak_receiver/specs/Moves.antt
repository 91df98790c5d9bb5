-- How the parts of a host move as lines of a replay script do: which lines lead from one trace to another, and how
-- the receiver of the definitions changes with them.
use Rattle.std.specs.Prelude.{◌≡◌, ℕ, false, List, ◌++◌, map}
use Rattle.gev_script.specs.Lines.{ScriptLine}
use Rattle.gev_script.specs.Lines as line
use Rattle.hex.specs.Hex.{encode_lower}
use Rattle.board_machine.specs.Machine.{Board}
use Rattle.acquisition_machine.specs.Machine.{tick, request_bytes}
use Rattle.acquisition_machine.specs.Runs.{After, turn}
use Rattle.acq_core.specs.Receiver.{config_of}
use Rattle.board_calls.specs.declared.mode.Mode.TheVariants.{OldestFirst}
use Rattle.script_trace.specs.Trace.{Trace, board}
use Rattle.script_trace.specs.Adding.{Leads}
use Rattle.script_trace.specs.Opening.{first_handles}
use Rattle.script_replay.specs.declared.running.Running.{Running}
use Rattle.script_replay.specs.Replays.{StandsAt, IsReplaying}
use Rattle.world_laws.specs.Receiver.{Receiver, soak_config}

-- ---- between two calls

-- Neither mark stands, and the stream is running.
pub record IsOpen (b : Board) : Type 0 where
  pub unclosed : b.closed ≡ false
  pub unkilled : b.kill ≡ false
  pub running : b.run ≡ 1

-- Lines of a script led here under the configuration of soak runs, the first handles are open, and so is the
-- stream. No line set the buffer handling mode.
pub record IsHosting (r : Running) : Type 0 where
  pub keeps : IsReplaying r
  pub config : config_of r.acq ≡ soak_config
  pub handles : r.tree ≡ first_handles
  pub oldest_first : r.mode ≡ OldestFirst
  pub opened : IsOpen r.board.board

-- ---- from one trace to another

-- The receiver has the acquisition and the board that the trace leaves.
pub record IsLeft (t : Trace) (r : Receiver) : Type 0 where
  pub acquisition : r.acquisition ≡ After soak_config t.inputs
  pub board : r.board ≡ board t

-- Behind this trace these lines lead to one that leaves the new state, and the receiver changes so with them.
pub record MovesAt (lines : List ScriptLine) (change : Receiver → Receiver) (new : Running) (t : Trace) : Type 0 where
  pub trace : Trace
  pub leads : Leads soak_config t lines trace
  pub stands : StandsAt new trace
  pub left : (r : Receiver) → IsLeft t r → IsLeft trace (change r)

-- So it is behind each trace that left the old state.
abbrev pub Moves : List ScriptLine → (Receiver → Receiver) → Running → Running → Type 0
Moves lines change old new = (t : Trace) → StandsAt old t → MovesAt lines change new t

-- nothing changes
abbrev pub unchanged : Receiver → Receiver
unchanged r = r

-- ---- lines

-- the line of a datagram
abbrev pub heard_line : List ℕ → ScriptLine
heard_line bytes = line.datagram (encode_lower bytes)

-- The requests of this moment were added, in order.
abbrev pub Asks : ℕ → Running → List (List ℕ) → List (List ℕ) → Type 0
Asks moment old requests requests_after =
    (t : Trace) → StandsAt old t
    → requests_after ≡ requests ++ map request_bytes (turn soak_config t.inputs (tick moment)).requests
