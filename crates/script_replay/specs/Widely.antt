-- Datagrams with standard identifiers, and requests in the standard form.
use Rattle.std.specs.Prelude.{◌≡◌, ℕ, List, [], ◌∷◌, ◌++◌}
use Rattle.gev_script.specs.Lines.{ScriptLine}
use Rattle.gev_report.specs.ReplayLines.{request_line}
use Rattle.acquisition_machine.specs.declared.config.AcqConfig.{AcqConfig}
use Rattle.acquisition_machine.specs.Machine.{tick}
use Rattle.board_model.specs.Plain.{PlainState}
use Rattle.acq_core.specs.declared.window.Window.{Window}
use Rattle.acq_core.specs.Receiver.{config_of, Takes, KeepsBlocks}
use Rattle.acq_core.specs.Waiting.{waiting_fills, waiting_requests}
use Rattle.board_calls.specs.declared.mode.Mode.{Mode}
use Rattle.script_trace.specs.Trace.{Trace}
use Rattle.script_trace.specs.Wide.{Wide, standard_meaning, DoesAs, standard_form}
use Rattle.script_replay.specs.declared.fill_counts.FillCounts.{FillCounts}
use Rattle.script_replay.specs.declared.script.Script.{Script}
use Rattle.script_replay.specs.Acquiring.{FillsAll}
use Rattle.script_replay.specs.Replays.{StandsAt, IsReplaying, KeepsWide}

-- the lines of these requests, each by its bytes
abbrev pub standard_lines_of : List (List ℕ) → List ℕ
standard_lines_of [] = []
standard_lines_of (r ∷ rs) = request_line (standard_form r) ++ standard_lines_of rs

-- The datagram was told to the acquisition with extended identifiers, or refused.
pub record DoesBytesAt (c : AcqConfig) (l : ScriptLine) (bytes : List ℕ) (new : Script) (w : Wide) (t : Trace) : Type 0 where
  pub kept : Wide
  pub trace : Trace
  pub does : DoesAs c w t l (standard_meaning w.top bytes) [] kept trace
  pub stands : StandsAt new.running trace
  pub keeps : KeepsWide new.widening kept

pub record DoesBytes (l : ScriptLine) (bytes : List ℕ) (old new : Script) : Type 0 where
  pub does : (w : Wide) (t : Trace) → StandsAt old.running t → KeepsWide old.widening w → DoesBytesAt (config_of old.running.acq) l bytes new w t
  pub config : config_of new.running.acq ≡ config_of old.running.acq
  pub keeps : IsReplaying new.running

-- The moment was told, what retired was filled, and each request was written in the standard form.
pub record TicksStandard (mode : Mode) (moment : ℕ) (s : PlainState) (m : Window) (a : FillCounts) (before said : List ℕ) (new : PlainState) (n : Window) (b : FillCounts) : Type 0 where
  pub mid : Window
  pub fed : Window
  pub takes : Takes m mid (tick moment)
  pub all : FillsAll mode (waiting_fills mid) s a new b
  pub keeps : KeepsBlocks mid fed
  pub requests : waiting_requests fed ≡ waiting_requests mid
  pub keeps_too : KeepsBlocks fed n
  pub told : said ≡ before ++ standard_lines_of (waiting_requests fed)
