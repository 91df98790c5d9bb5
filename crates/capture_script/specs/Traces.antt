-- What holds of the trace of every captured script: what is filled is taken, and its buffer goes back at once.
use Rattle.std.specs.Prelude.{◌≡◌, ⊤, ℕ, ◌+◌, ◌≤◌, List, [], ◌∷◌, ◌++◌, length, map, Option, None}
use Rattle.std.specs.List.{AllByRecursion}
use Rattle.gev_script.specs.Lines as line
use Rattle.gev_script.specs.Lines.{ScriptLine}
use Rattle.gev_script.specs.Spelling.{spelling}
use Rattle.script_runs.specs.Runs.{RunsLines}
use Rattle.board_machine.specs.declared.events.Entry.{Entry}
use Rattle.board_machine.specs.declared.events.Event.{Event}
use Rattle.board_machine.specs.declared.events.Event.TheVariants.{Claim, Take}
use Rattle.board_machine.specs.declared.events.TakeEnd.TheVariants.{Empty, Closed}
use Rattle.acquisition_machine.specs.declared.config.AcqConfig.{AcqConfig}
use Rattle.board_calls.specs.Dropped.{handed_out_items}
use Rattle.script_trace.specs.Trace.{Trace}
use Rattle.script_trace.specs.Modes.{acquires}
use Rattle.script_trace.specs.Fills.{retired_items}
use Rattle.script_trace.specs.Ending.{filled_blocks, end_counts}
use Rattle.script_trace.specs.Wide.{Wide}
use Rattle.script_trace.specs.Standing.{Standing, first, running, ReplayRuns}
use Rattle.gev_capture.specs.Files.{Packet}
use Rattle.gev_capture.specs.Captures.{Refusal, HasCaptured}
use Rattle.gev_capture.specs.Laws.{AreBytes, HasBytes}
use Rattle.gev_capture.specs.Sightings.{Sighting, sightings}
use Rattle.capture_script.specs.Playing.{config, stopped}
use Rattle.capture_script.specs.Script.{Scripted, new_script, with_takes, begun_lines, script_behind, script_lines}

-- ---- lines

-- the stop, and the takes of what it fills
abbrev pub stop_lines : Scripted → List ScriptLine
stop_lines s = with_takes (line.stop 0) (stopped s.p s.played)

-- the lines of the script of a capture with these packets, but for its last, `end`
abbrev pub lines_before_end : ℕ → ℕ → ℕ → List Sighting → List ScriptLine
lines_before_end port p size xs = begun_lines port p size xs ++ stop_lines (script_behind (new_script port p size) xs)

-- how many of these lines are takes
abbrev pub takes_in : List ScriptLine → ℕ
takes_in [] = 0
takes_in (line.take ∷ ls) = 1 + takes_in ls
takes_in (_ ∷ ls) = takes_in ls

-- ---- entries

-- The event is no claim that finds the pool empty, and no take that gets no buffer.
abbrev pub FindsBuffer : Event → Type 0
FindsBuffer (Claim None) = ⊥
FindsBuffer (Take Empty) = ⊥
FindsBuffer (Take Closed) = ⊥
FindsBuffer _ = ⊤

-- Each claim of the trace finds a buffer in the pool, and each take gets one. What was handed out is what was filled,
-- in order, and that is all that retired with a buffer; there are as many lines `take`. So says the last line of
-- the report too, however many datagrams were refused.
pub record TakesWhatIsFilled (c : AcqConfig) (lines : List ScriptLine) (t : Trace) : Type 0 where
  pub finds : AllByRecursion (λ (e : Entry). FindsBuffer e.event) t.entries
  pub taken : handed_out_items acquires t.entries ≡ filled_blocks t
  pub filled : filled_blocks t ≡ retired_items c t.inputs
  pub takes : takes_in lines ≡ length (filled_blocks t)
  pub no_underrun : (refused : ℕ) → (end_counts c refused t).underrun ≡ 0
  pub taken_is_fills : (refused : ℕ) → (end_counts c refused t).taken ≡ (end_counts c refused t).fills

-- `replay` runs all lines of the script but the last, `end`, and comes to this trace and to no other, and it is so.
pub record IsReplayed (port p size : ℕ) (xs : List Sighting) : Type 0 where
  pub ends : script_lines port p size xs ≡ lines_before_end port p size xs ++ line.end_of_script ∷ []
  pub wide : Wide
  pub trace : Trace
  pub text : List ℕ
  pub runs : RunsLines ReplayRuns first 0 (map spelling (lines_before_end port p size xs)) text (running (config p) wide trace)
  pub only : (said : List ℕ) (new : Standing) → RunsLines ReplayRuns first 0 (map spelling (lines_before_end port p size xs)) said new → new ≡ running (config p) wide trace
  pub takes : TakesWhatIsFilled (config p) (lines_before_end port p size xs) trace

-- So is the script of any packets of bytes, for payloads and buffers of sizes that the command takes.
abbrev pub PacketsAreReplayed : Type 0
PacketsAreReplayed =
    (port p size : ℕ) (packets : List Packet) → 528 ≤ p → p ≤ 8964 → 1 ≤ size → size ≤ 67108864 → AllByRecursion HasBytes packets
    → IsReplayed port p size (sightings packets)

-- So is that of every capture of bytes.
abbrev pub CapturesAreReplayed : Type 0
CapturesAreReplayed =
    (port p size : ℕ) (bytes : List ℕ) (packets : List Packet) (end : Option Refusal) → 528 ≤ p → p ≤ 8964 → 1 ≤ size → size ≤ 67108864 → AreBytes bytes
    → HasCaptured bytes packets end → IsReplayed port p size (sightings packets)
