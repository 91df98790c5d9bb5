-- Laws of recorded scripts, which `src/laws.rt` proves.
use Rattle.std.specs.Prelude.{◌≡◌, ◌⊎◌, ℕ, ◌<◌, false, List, [], ◌++◌, map}
use Rattle.std.specs.List.{AllByRecursion}
use Rattle.gev_types.specs.Filling.{Filling}
use Rattle.gentl_types.specs.declared.word.State.TheVariants.{Held, Away}
use Rattle.board_machine.specs.Places.{times}
use Rattle.board_machine.specs.Machine.{Board, Item, word_at, hand}
use Rattle.board_machine.specs.Handout.{taken_items}
use Rattle.acquisition_machine.specs.Blocks.{fills}
use Rattle.acquisition_machine.specs.Machine.{Input, State}
use Rattle.acquisition_machine.specs.Runs.{first_state, After, retired_from}
use Rattle.board_calls.specs.declared.mode.Mode.TheVariants.{OldestFirst}
use Rattle.script_trace.specs.Trace.{Trace, board, caller, acquirer}
use Rattle.script_trace.specs.Opening.{opening}
use Rattle.script_trace.specs.Adding.{Leads}
use Rattle.acquisition_machine.specs.Erased.{images}
use Rattle.acquisition_machine.specs.Turns.{Noted, IsRun, buffer_size, with_bytes}
use Rattle.gev_record.specs.Script.{live_config, held_places, run_inputs, after_turns, first_lines, turns_lines, recorded_lines}
use Rattle.gev_record.specs.Marks.{MarksTell, IsMarkedRun, HasWidths}

-- What the lines tell are the inputs of a run of these turns, with buffers at places of the script's own.
abbrev pub ScriptTellsTheRun : Type 0
ScriptTellsTheRun = (ts : List Noted) → IsRun live_config first_state ts (run_inputs first_state ts)

-- ---- what the replay hands out

-- the contents of what the caller of the lines took, in order
abbrev pub taken_images : Trace → List Filling
taken_images t = map (λ (x : Item). x.filling) (taken_items caller t.entries)

-- The recorded script has a trace; and in each trace of it what was taken is, in order, what the recorded run
-- retired with buffers, whatever places its claims gave.
pub record Replays (ts : List Noted) (q : List Input) : Type 0 where
  pub trace : Trace
  pub leads : Leads live_config opening (recorded_lines ts) trace
  pub taken : (t : Trace) → Leads live_config opening (recorded_lines ts) t
      → taken_images t ≡ images (fills live_config.p (retired_from live_config first_state q))

-- so it is of each run whose marks tell what happened
abbrev pub RecordedRunsReplay : Type 0
RecordedRunsReplay = (ts : List Noted) (q : List Input) → AllByRecursion HasWidths ts → IsMarkedRun first_state ts q → Replays ts q

-- The marks of a run tell the same of the inputs of its script, whose buffers lie at other places.
abbrev pub MarksTellTheScript : Type 0
MarksTellTheScript = (ts : List Noted) (q : List Input) → IsMarkedRun first_state ts q → MarksTell first_state (map with_bytes ts)

-- ---- between two turns

-- The place's buffer is held by one open block, or lies at its place.
abbrev pub IsAtRest : Board → State → ℕ → Type 0
IsAtRest b s i =
    (((word_at b i).state ≡ Held) × (times i (held_places s) ≡ 0))
    ⊎ (((word_at b i).state ≡ Away) × (times i (held_places s) ≡ 1) × (times i (hand b acquirer) ≡ 1))

-- The word of one of the three places, between two turns.
pub record IsPlace (b : Board) (s : State) (i : ℕ) : Type 0 where
  pub size : (word_at b i).size ≡ buffer_size
  pub generation : (word_at b i).generation ≡ 1
  pub rests : IsAtRest b s i

-- The trace stands between two turns, with the acquisition in this state: the stream runs, pool and output are
-- empty, and open blocks hold buffers of the three places alone.
pub record Between (t : Trace) (s : State) : Type 0 where
  pub state : After live_config t.inputs ≡ s
  pub running : (board t).run ≡ 1
  pub not_closed : (board t).closed ≡ false
  pub pool : (board t).pool ≡ []
  pub out : (board t).out ≡ []
  pub places : (i : ℕ) → i < 3 → IsPlace (board t) s i
  pub no_others : AllByRecursion (λ i. i < 3) (held_places s)
  pub mode : t.mode ≡ OldestFirst

-- Behind the lines of the first turns of a script the trace rests.
pub record RestsBehind (front : List Noted) : Type 0 where
  pub trace : Trace
  pub leads : Leads live_config opening (first_lines ++ turns_lines first_state (map with_bytes front)) trace
  pub rests : Between trace (after_turns first_state (map with_bytes front))

-- so it does behind the first turns of each such run, however many
abbrev pub RestsBetweenTurns : Type 0
RestsBetweenTurns =
    (front back : List Noted) (q : List Input) → AllByRecursion HasWidths (front ++ back) → IsMarkedRun first_state (front ++ back) q → RestsBehind front
