-- What a line does, first or later, to the standing that a script has.
use Rattle.std.specs.Prelude.{◌≡◌, ℕ, List, Option, Some, None, Ok}
use Rattle.gev_script.specs.Lines as script_line
use Rattle.gev_script.specs.Grammar.{line_of}
use Rattle.acquisition_machine.specs.declared.config.AcqConfig.{AcqConfig}
use Rattle.board_model.specs.Plain.{content_at}
use Rattle.script_runs.specs.declared.ran.Ran.TheVariants.{GoesOn, Ended}
use Rattle.script_trace.specs.Trace.{Trace, Part}
use Rattle.script_trace.specs.Adding.{AddsPart}
use Rattle.script_trace.specs.BoardLines.{TakesBuffer}
use Rattle.script_trace.specs.Wide.{Wide}
use Rattle.script_trace.specs.Standing.{Standing, running, later_kind, ReplayRuns}
use Rattle.script_replay.specs.declared.script.Script.{Script}
use Rattle.script_replay.specs.Replays.{StandsFor}
use Rattle.script_image.specs.declared.came.Came.{Came}
use Rattle.script_image.specs.declared.came.Came.TheVariants.{On, Took, End}
use Rattle.script_image.specs.Taking.{got_by}

-- The line is run, and gets so many buffers.
pub record StepsOn (got : ℕ) (s : Standing) (n : ℕ) (text : List ℕ) (new : Option Script) : Type 0 where
  pub said : List ℕ
  pub to : Standing
  pub runs : ReplayRuns s n text GoesOn said to
  pub stands : StandsFor new to
  pub counted : got_by (line_of text) s to ≡ got

-- It's a `take` line, which takes the buffer at this place, and the buffer lies there still.
pub record StepsTaking (s : Standing) (text : List ℕ) (place : ℕ) (new : Option Script) : Type 0 where
  pub in_place : later_kind text ≡ None
  pub read : line_of text ≡ Ok script_line.take
  pub config : AcqConfig
  pub wide : Wide
  pub trace : Trace
  pub stands : s ≡ running config wide trace
  pub part : Part
  pub adds : AddsPart config trace script_line.take part
  pub moment : ℕ
  pub takes : TakesBuffer trace moment part
  pub here : takes.place ≡ place
  pub script : Script
  pub has : new ≡ Some script
  pub lies : content_at script.running.board place ≡ Some takes.filling

-- It's the last line.
pub record StepsLast (s : Standing) (n : ℕ) (text : List ℕ) : Type 0 where
  pub said : List ℕ
  pub to : Standing
  pub runs : ReplayRuns s n text Ended said to

-- by what the line came to
abbrev pub Steps : Came → Standing → ℕ → List ℕ → Option Script → Type 0
Steps On s n text new = StepsOn 0 s n text new
Steps (Took place) s n text new = StepsOn 1 s n text new × StepsTaking s text place new
Steps End s n text new = StepsLast s n text

-- So it is from whatever standing the state has.
abbrev pub StepsAs : Came → Option Script → List ℕ → Option Script → Type 0
StepsAs came old text new = (n : ℕ) (s : Standing) → StandsFor old s → Steps came s n text new
