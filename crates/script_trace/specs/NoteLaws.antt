-- What explanations are, in words of their own.
use Rattle.std.specs.Prelude.{◌≡◌, ⊤, ℕ, ◌+◌, ◌≤◌, ◌&&◌, Bool, true, false, List, [], ◌∷◌, ◌++◌, length, map, count_by, if◌then◌else◌}
use Rattle.script_runs.specs.declared.ran.Ran.{Ran}
use Rattle.script_runs.specs.Runs.{RunsLines, AreLines}
use Rattle.script_runs.specs.Verdicts.{Judges}
use Rattle.board_machine.specs.Machine.{Item}
use Rattle.acquisition_machine.specs.declared.config.AcqConfig.{AcqConfig}
use Rattle.acquisition_machine.specs.Runs.{no_counts, first_state, After, retired_from}
use Rattle.script_trace.specs.Notes.{Outcome, Note, idle, unwidened, drops, done}
use Rattle.script_trace.specs.Counted.{counted, is_opening, is_ending, endings, times_so}
use Rattle.script_trace.specs.Spans.{spans, AreAccounted}
use Rattle.script_trace.specs.InputLaws.{TellEnds}
use Rattle.board_calls.specs.Dropped.{dropped_items}
use Rattle.script_trace.specs.Trace.{Trace}
use Rattle.script_trace.specs.Modes.{acquires, dropped as dropped_places}
use Rattle.script_trace.specs.Wide.{Wide}
use Rattle.script_trace.specs.Ending.{filled_blocks}
use Rattle.script_trace.specs.Standing.{Standing, running, ReplayRuns, replay_verdict, IsBehind}
use Rattle.script_trace.specs.Standing.{first as at_first}
use Rattle.script_trace.specs.NoteLines.{LeavesOut}
use Rattle.script_trace.specs.Explaining.{Telling, untold, is_drop, ExplainRuns, ExplainRefuses}

-- ---- the report

-- The lines so far are run by a replay too, and its report is what was told with the lines left out that begin with
-- `# `.
pub record HoldsReport (lines : List (List ℕ)) (told : List ℕ) (new : Telling) : Type 0 where
  pub said : List ℕ
  pub replays : RunsLines ReplayRuns at_first 0 lines said new.standing
  pub leaves : LeavesOut told said

-- So is the last line.
pub record HoldsLast (m : Telling) (n : ℕ) (line : List ℕ) (ran : Ran) (told : List ℕ) (new : Telling) : Type 0 where
  pub said : List ℕ
  pub replays : ReplayRuns m.standing n line ran said new.standing
  pub leaves : LeavesOut told said

pub record ExplanationsHoldReports : Type 0 where
  pub so_far :
      (lines : List (List ℕ)) (told : List ℕ) (new : Telling) → RunsLines ExplainRuns untold 0 lines told new
      → HoldsReport lines told new
  pub last :
      (m : Telling) (n : ℕ) (line : List ℕ) (ran : Ran) (told : List ℕ) (new : Telling) → ExplainRuns m n line ran told new
      → HoldsLast m n line ran told new

-- ---- one explanation

-- two texts, and what was told and how the script stands after each
pub record IsSameTelling (said said_also : List ℕ) (new new_also : Telling) : Type 0 where
  pub text : said ≡ said_also
  pub telling : new ≡ new_also

-- One script has one explanation: the same lines lead from the same telling to one text and one telling, and a line
-- can't both go on and end the script.
pub record ExplanationIsOne : Type 0 where
  pub lines_agree :
      (m : Telling) (n : ℕ) (lines : List (List ℕ)) (text text_also : List ℕ) (new new_also : Telling) → AreLines lines
      → RunsLines ExplainRuns m n lines text new → RunsLines ExplainRuns m n lines text_also new_also
      → IsSameTelling text text_also new new_also
  pub line_agrees :
      (m : Telling) (n : ℕ) (line : List ℕ) (ran ran_also : Ran) (text text_also : List ℕ) (new new_also : Telling)
      → length line ≤ 20000 → ExplainRuns m n line ran text new → ExplainRuns m n line ran_also text_also new_also
      → (ran ≡ ran_also) × IsSameTelling text text_also new new_also

-- ---- what is accounted for

abbrev pub is_idle : Note → Bool
is_idle (idle bytes) = true
is_idle _ = false

abbrev pub is_unwidened : Note → Bool
is_unwidened (unwidened e) = true
is_unwidened _ = false

-- a block retired, and its buffer went into the output
abbrev pub is_filled : Note → Bool
is_filled (done o) = o.out
is_filled _ = false

-- so did a whole image
abbrev pub is_filled_whole : Note → Bool
is_filled_whole (done o) = o.out && o.complete
is_filled_whole _ = false

-- what is told of a fill
pub record ToldFill : Type 0 where
  pub place : ℕ
  pub block : ℕ
  pub complete : Bool

abbrev pub told_fill : Outcome → ToldFill
told_fill o = record { place = o.buffer.place; block = o.block; complete = o.complete }

abbrev pub told_fills_of : Note → List ToldFill
told_fills_of (done o) = if o.out then told_fill o ∷ [] else []
told_fills_of _ = []

-- of each block whose buffer went into the output
abbrev pub told_fills : List Note → List ToldFill
told_fills [] = []
told_fills (x ∷ xs) = told_fills_of x ++ told_fills xs

-- what is to be told of an entry of the output
abbrev pub fill_told : Item → ToldFill
fill_told x = record { place = x.place; block = x.filling.rec.block; complete = x.filling.rec.complete }

-- what is told of an entry of the output that gave way to another
pub record ToldDrop : Type 0 where
  pub place : ℕ
  pub block : ℕ

abbrev pub told_drops_of : Note → List ToldDrop
told_drops_of (drops b buffer) = record { place = buffer.place; block = b } ∷ []
told_drops_of _ = []

abbrev pub told_drops : List Note → List ToldDrop
told_drops [] = []
told_drops (x ∷ xs) = told_drops_of x ++ told_drops xs

-- what is to be told of it
abbrev pub drop_told : Item → ToldDrop
drop_told x = record { place = x.place; block = x.filling.rec.block }

-- Every datagram, every block, every opened block, every fill and every drop is accounted for, and each end is
-- reasoned.
pub record KeepsAccount (c : AcqConfig) (w : Wide) (t : Trace) (notes since : List Note) : Type 0 where
  -- each count of the acquisition is that of the notes
  pub counts : counted notes no_counts ≡ (After c t.inputs).counts
  pub idle : times_so is_idle notes ≡ t.idle
  pub refused : times_so is_unwidened notes ≡ w.refused
  pub opened : times_so is_opening notes ≡ times_so is_ending notes + length (After c t.inputs).opens
  -- of the last acquisition, and of each before it as long as it lasted
  pub blocks : AreAccounted (spans since) (After c t.inputs).floor
  -- of the blocks that retired each one's end is told once, in order, and no other
  pub reasons : TellEnds c (retired_from c first_state t.inputs) (endings notes)
  -- the acquisition's fills in order, each with its place, its block and whether its image is whole
  pub filled : told_fills notes ≡ map fill_told (filled_blocks t)
  -- what the acquisition's takes took out of the output in order, each with its place and its record's block
  pub dropped : told_drops notes ≡ map drop_told (dropped_items acquires t.entries)
  -- what the report's last line tells as the acquisition's fills, as those of whole images, and as dropped
  pub fills : times_so is_filled notes ≡ length (filled_blocks t)
  pub complete : times_so is_filled_whole notes ≡ count_by (λ x. x.filling.rec.complete) (filled_blocks t)
  pub drops : times_so is_drop notes ≡ length (dropped_places t.entries)

-- the numbers of every configuration that a header gives
pub record HasSizes (c : AcqConfig) : Type 0 where
  pub window : 1 ≤ c.window
  pub payload : 1 ≤ c.p

abbrev pub StandsTold : List Note → List Note → Standing → Type 0
StandsTold notes since at_first = ⊤
StandsTold notes since (running c w t) = HasSizes c → KeepsAccount c w t notes since

abbrev pub ScriptsAreAccounted : Type 0
ScriptsAreAccounted =
    (lines : List (List ℕ)) (told : List ℕ) (new : Telling) → RunsLines ExplainRuns untold 0 lines told new
    → StandsTold new.notes new.since new.standing

-- The lines are judged by their numbers and bytes alone, as a replay's are.
abbrev pub ExplanationsAreJudged : Type 0
ExplanationsAreJudged = Judges ExplainRuns ExplainRefuses replay_verdict (λ m. IsBehind m.standing)
