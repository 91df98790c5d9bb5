-- The explained run of a replay script.
use Rattle.std.specs.Prelude.{◌≡◌, ℕ, List, [], ◌∷◌, ◌++◌, length, codes, Bool, true, false, if◌then◌else◌}
use Rattle.std.specs.List.{concat}
use Rattle.std.specs.Fmt.{decimal}
use Rattle.gev_script.specs.declared.kind.ScriptKind.{ScriptKind}
use Rattle.script_runs.specs.declared.ran.Ran.{Ran}
use Rattle.script_runs.specs.declared.ran.Ran.TheVariants.{GoesOn, Ended}
use Rattle.acquisition_machine.specs.declared.config.AcqConfig.{AcqConfig}
use Rattle.acquisition_machine.specs.Machine.{Input, datagram, claimed, tick, stop, restart}
use Rattle.acquisition_machine.specs.Runs.{After}
use Rattle.missing_ranges.specs.Lost.{ids_in}
use Rattle.script_trace.specs.Notes.{Note, absent, drops, done, unbuffered}
use Rattle.script_trace.specs.Counted.{is_opening, times_so}
use Rattle.script_trace.specs.Texts.{words_line, notes_text}
use Rattle.script_trace.specs.Trace.{Trace}
use Rattle.script_trace.specs.Wide.{Wide, meaning}
use Rattle.script_trace.specs.Ending.{as_count}
use Rattle.script_trace.specs.Standing.{Standing, running, RunsFirst, RunsLater, RunsEnd, ReplayRefuses}
use Rattle.script_trace.specs.Standing.{first as at_first}
use Rattle.script_trace.specs.LineNotes.{inputs_as, notes_as}

-- What was told so far: all notes, those since the last acquisition began, and how the replay stands.
pub record Telling : Type 0 where
  pub notes : List Note
  pub since : List Note
  pub standing : Standing

abbrev pub untold : Telling
untold = record { notes = []; since = []; standing = at_first }

-- an acquisition begins with these inputs
abbrev pub begins : List Input → Bool
begins [] = false
begins (datagram bytes ∷ q) = begins q
begins (claimed given ∷ q) = begins q
begins (tick moment ∷ q) = begins q
begins (stop ∷ q) = begins q
begins (restart ∷ q) = true

abbrev pub since_after : List Input → List Note → List Note → List Note
since_after inputs since more = if begins inputs then more else since ++ more

-- ---- the last note

abbrev pub is_whole : Note → Bool
is_whole (done o) = o.complete
is_whole _ = false

abbrev pub is_partial : Note → Bool
is_partial (done o) = if o.complete then false else true
is_partial _ = false

abbrev pub is_unbuffered : Note → Bool
is_unbuffered (unbuffered b cause) = true
is_unbuffered _ = false

abbrev pub is_drop : Note → Bool
is_drop (drops b buffer) = true
is_drop _ = false

-- how many block ids are told absent
abbrev pub absent_spans : List Note → List (ℕ × ℕ)
absent_spans [] = []
absent_spans (absent r ∷ xs) = r ∷ absent_spans xs
absent_spans (x ∷ xs) = absent_spans xs

abbrev pub blocks_words : AcqConfig → Trace → List Note → List ℕ
blocks_words c t notes = concat (
    codes "blocks opened=" ∷ decimal (as_count (times_so is_opening notes))
    ∷ codes " complete=" ∷ decimal (as_count (times_so is_whole notes))
    ∷ codes " incomplete=" ∷ decimal (as_count (times_so is_partial notes))
    ∷ codes " unbuffered=" ∷ decimal (as_count (times_so is_unbuffered notes))
    ∷ codes " open=" ∷ decimal (as_count (length (After c t.inputs).opens))
    ∷ codes " absent=" ∷ decimal (as_count (ids_in (absent_spans notes)))
    ∷ codes " dropped=" ∷ decimal (as_count (times_so is_drop notes)) ∷ [])

-- ---- lines

-- The first line is run: the header has no notes.
pub record ExplainsFirst (notes since : List Note) (line text : List ℕ) (new : Telling) : Type 0 where
  pub after : Standing
  pub replays : RunsFirst line text after
  pub now : new ≡ record { notes = notes; since = since; standing = after }

-- The line with this number is run: its notes stand before its report, with the moment after it.
pub record ExplainsLater (c : AcqConfig) (w : Wide) (t : Trace) (notes since : List Note) (n : ℕ) (line text : List ℕ) (new : Telling) : Type 0 where
  pub report : List ℕ
  pub after : Standing
  pub replays : RunsLater c w t line report after
  pub told :
      text
      ≡ notes_text n (After c replays.trace.inputs).now (notes_as c w t replays.says (meaning w t replays.says) report replays.kept replays.trace replays.does)
      ++ report
  pub now : new ≡ record {
    notes = notes ++ notes_as c w t replays.says (meaning w t replays.says) report replays.kept replays.trace replays.does;
    since = since_after (inputs_as c w t replays.says (meaning w t replays.says) report replays.kept replays.trace replays.does) since
        (notes_as c w t replays.says (meaning w t replays.says) report replays.kept replays.trace replays.does);
    standing = after;
  }

-- The last line is run: its note counts blocks.
pub record ExplainsEnd (c : AcqConfig) (w : Wide) (t : Trace) (notes since : List Note) (n : ℕ) (line text : List ℕ) (new : Telling) : Type 0 where
  pub report : List ℕ
  pub after : Standing
  pub replays : RunsEnd c w t line report after
  pub told : text ≡ words_line n (After c t.inputs).now (blocks_words c t notes) ++ report
  pub now : new ≡ record { notes = notes; since = since; standing = after }

abbrev pub ExplainsFrom : List Note → List Note → Standing → ℕ → List ℕ → Ran → List ℕ → Telling → Type 0
ExplainsFrom notes since at_first n line GoesOn text new = ExplainsFirst notes since line text new
ExplainsFrom notes since at_first n line Ended text new = ⊥
ExplainsFrom notes since (running c w t) n line GoesOn text new = ExplainsLater c w t notes since n line text new
ExplainsFrom notes since (running c w t) n line Ended text new = ExplainsEnd c w t notes since n line text new

-- From here the line with this number is run, goes on or ends the script, with this text, to there.
abbrev pub ExplainRuns : Telling → ℕ → List ℕ → Ran → List ℕ → Telling → Type 0
ExplainRuns m n line ran text new = ExplainsFrom m.notes m.since m.standing n line ran text new

-- Lines are refused as by a replay.
abbrev pub ExplainRefuses : Telling → ℕ → List ℕ → ScriptKind → Type 0
ExplainRefuses m n line kind = ReplayRefuses m.standing n line kind
