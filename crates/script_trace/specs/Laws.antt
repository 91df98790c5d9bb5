-- What holds of the trace of every replay script.
use Rattle.std.specs.Prelude.{◌≡◌, ◌≢◌, ⊤, ℕ, Bool, true, false, if◌then◌else◌, ◌+◌, ◌≤◌, List, [], ◌∷◌, ◌++◌, length, None, Ok}
use Rattle.std.specs.List.{AllByRecursion, flat_map}
use Rattle.hex.specs.Hex.{decode_of}
use Rattle.gev_script.specs.Lines as line
use Rattle.gev_script.specs.Lines.{ScriptLine}
use Rattle.gev_script.specs.Spelling.{IsScriptLine, IsStep}
use Rattle.gev_script.specs.Grammar.{line_of}
use Rattle.gev_report.specs.ReplayLines.{request_line}
use Rattle.script_runs.specs.declared.ran.Ran.{Ran}
use Rattle.script_runs.specs.Runs.{RunsLines, AreLines}
use Rattle.script_runs.specs.Verdicts.{Judges}
use Rattle.board_machine.specs.declared.events.Entry.{Entry}
use Rattle.board_machine.specs.Histories.{After, Run}
use Rattle.board_machine.specs.Handout.{IsLegal}
use Rattle.board_machine.specs.Owners.{IsOwned}
use Rattle.acquisition_machine.specs.declared.config.AcqConfig.{AcqConfig}
use Rattle.acquisition_machine.specs.Machine.{Input, datagram, Request, request_bytes}
use Rattle.acquisition_machine.specs.Runs.{first_state, After as AcqAfter, requests_from}
use Rattle.board_calls.specs.Dropped.{dropped_items, handed_out_items}
use Rattle.script_trace.specs.Trace.{Trace, board}
use Rattle.script_trace.specs.Modes.{acquires}
use Rattle.script_trace.specs.Adding.{Leads}
use Rattle.script_trace.specs.Opening.{opening}
use Rattle.script_trace.specs.Wide.{Wide, wider, meaning, standard_form}
use Rattle.script_trace.specs.Standing.{Standing, first, running, ReplayRuns, ReplayRefuses, replay_verdict, IsBehind}
use Rattle.script_trace.specs.Fills.{tried_blocks, retired_items, IsRetired, IsHandedSo, IsEmptyElse}

-- The history is one that the board machine makes; at each step of it each buffer has one owner; filled
-- buffers are handed out or dropped once, in the order of their fills, and none after a close. What the
-- acquisition filled, or tried to fill where the stream was closed, are the blocks that the acquisition
-- machine retires with a buffer, all of them and in order. Nobody else fills more than empty records. Each of
-- those blocks holds its block's frame, or what came of it; and so does each buffer that was handed out, which
-- is one that an actor other than the acquisition's took, and each that the acquisition took and so dropped,
-- but for those with the empty record.
pub record KeepsPromises (c : AcqConfig) (t : Trace) : Type 0 where
  pub run : Run t.entries
  pub owned : (front rest : List Entry) → t.entries ≡ front ++ rest → IsOwned (After front)
  pub legal : IsLegal t.entries
  pub retired : tried_blocks t ≡ retired_items c t.inputs
  pub blocks : AllByRecursion (IsRetired c t.inputs) (tried_blocks t)
  pub others : AllByRecursion IsEmptyElse t.entries
  pub handed : AllByRecursion (IsHandedSo c t.inputs) (handed_out_items acquires t.entries)
  pub dropped : AllByRecursion (IsHandedSo c t.inputs) (dropped_items acquires t.entries)

-- so it is of every trace that lines lead to
abbrev pub TracesKeepPromises : Type 0
TracesKeepPromises =
    (c : AcqConfig) (lines : List ScriptLine) (t : Trace) → 1 ≤ c.window → AllByRecursion IsScriptLine lines
    → Leads c opening lines t → KeepsPromises c t

-- Between two lines the acquisition awaits no claim; and where the stream isn't running no block is open, so
-- that a start may come.
pub record Rests (c : AcqConfig) (t : Trace) : Type 0 where
  pub unasked : (AcqAfter c t.inputs).asked ≡ None
  pub none_open : (board t).run ≢ 1 → (AcqAfter c t.inputs).opens ≡ []

abbrev pub TracesRest : Type 0
TracesRest = (c : AcqConfig) (lines : List ScriptLine) (t : Trace) → 1 ≤ c.window → Leads c opening lines t → Rests c t

abbrev pub StandsWell : Standing → Type 0
StandsWell first = ⊤
StandsWell (running c w t) = KeepsPromises c t

-- ---- the report

-- a part of a report: the requests that one moment made, or anything else
pub data Piece : Type 0 where
  asks : List Request → Piece
  says : List ℕ → Piece

-- the lines of requests, with extended identifiers or in the standard form
abbrev pub requests_printed : Bool → List Request → List ℕ
requests_printed standard rs = flat_map (λ r. request_line (if standard then standard_form (request_bytes r) else request_bytes r)) rs

abbrev pub piece_printed : Bool → Piece → List ℕ
piece_printed standard (asks rs) = requests_printed standard rs
piece_printed standard (says text) = text

abbrev pub pieces_printed : Bool → List Piece → List ℕ
pieces_printed standard pieces = flat_map (piece_printed standard) pieces

abbrev pub asked_by_piece : Piece → List Request
asked_by_piece (asks rs) = rs
asked_by_piece (says text) = []

abbrev pub asked_by_pieces : List Piece → List Request
asked_by_pieces pieces = flat_map asked_by_piece pieces

-- Where a datagram was widened, the first part has what was asked for before one that came; else all is in the first part.
abbrev pub SplitsAtDatagram : AcqConfig → Bool → List Input → List Piece → List Piece → Type 0
SplitsAtDatagram c false inputs front rest = rest ≡ []
SplitsAtDatagram c true inputs front rest =
    (before : List Input) × (bytes : List ℕ) × (behind : List Input) × (inputs ≡ before ++ datagram bytes ∷ behind)
    × (asked_by_pieces front ≡ requests_from c first_state before)

-- The report is the trace's text, but that the requests have the standard form from the first datagram on that was widened.
-- In it are all requests of the acquisition, in order.
pub record ReportsTrace (c : AcqConfig) (widened : Bool) (text : List ℕ) (t : Trace) : Type 0 where
  pub front : List Piece
  pub rest : List Piece
  pub trace : t.text ≡ pieces_printed false front ++ pieces_printed false rest
  pub report : text ≡ pieces_printed false front ++ pieces_printed true rest
  pub asked : asked_by_pieces front ++ asked_by_pieces rest ≡ requests_from c first_state t.inputs
  pub split : SplitsAtDatagram c widened t.inputs front rest

-- The line is a datagram that is widened.
pub record IsWidened (w : Wide) (t : Trace) (text : List ℕ) : Type 0 where
  pub says : ScriptLine
  pub read : line_of text ≡ Ok says
  pub block : ℕ
  pub bytes : List ℕ
  pub means : meaning w t says ≡ wider block bytes

-- One of the lines is the first whose datagram is widened. The report of those before it is the trace's text, and from it on
-- the requests have the standard form: all requests behind those that were made before it.
pub record ChangesAt (lines : List (List ℕ)) (text : List ℕ) (c : AcqConfig) (t : Trace) : Type 0 where
  pub before : List (List ℕ)
  pub widens : List ℕ
  pub behind : List (List ℕ)
  pub are : lines ≡ before ++ widens ∷ behind
  pub kept : Wide
  pub mid : Trace
  pub said : List ℕ
  pub runs : RunsLines ReplayRuns first 0 before said (running c kept mid)
  pub none_before : kept.widened ≡ false
  pub widened : IsWidened kept mid widens
  pub plain : mid.text ≡ said
  pub pieces : List Piece
  pub trace : t.text ≡ mid.text ++ pieces_printed false pieces
  pub report : text ≡ said ++ pieces_printed true pieces
  pub asked : requests_from c first_state mid.inputs ++ asked_by_pieces pieces ≡ requests_from c first_state t.inputs

-- The report is the trace's but for the form of requests. It's the trace's text where no datagram was widened; and in scripts
-- of version 1 none was.
pub record HasText (c : AcqConfig) (text : List ℕ) (w : Wide) (t : Trace) : Type 0 where
  pub plain : w.widened ≡ false → t.text ≡ text
  pub first_version : w.version ≡ 1 → w.widened ≡ false
  pub reports : ReportsTrace c w.widened text t
  -- where one was, lines with this report lead here, and this is so from the first of them whose datagram was widened
  pub changes :
      w.widened ≡ true → (lines : List (List ℕ)) × (RunsLines ReplayRuns first 0 lines text (running c w t) × ChangesAt lines text c t)

-- this is the report so far
abbrev pub HasSaid : List ℕ → Standing → Type 0
HasSaid text first = text ≡ []
HasSaid text (running c w t) = HasText c text w t

-- So it is of every script, however far it was run, with the last line that was run too; and the report of its lines is the
-- trace's.
pub record RunsKeepPromises : Type 0 where
  pub so_far :
      (lines : List (List ℕ)) (text : List ℕ) (new : Standing) → AreLines lines
      → RunsLines ReplayRuns first 0 lines text new → StandsWell new
  pub last :
      (lines : List (List ℕ)) (text line report : List ℕ) (ran : Ran) (now new : Standing) → AreLines lines → length line ≤ 20000
      → RunsLines ReplayRuns first 0 lines text now → ReplayRuns now (length lines + 1) line ran report new → StandsWell new
  pub said :
      (lines : List (List ℕ)) (text : List ℕ) (new : Standing)
      → RunsLines ReplayRuns first 0 lines text new → HasSaid text new
  pub changes :
      (lines : List (List ℕ)) (text : List ℕ) (c : AcqConfig) (w : Wide) (t : Trace)
      → RunsLines ReplayRuns first 0 lines text (running c w t) → w.widened ≡ true → ChangesAt lines text c t

-- The lines are judged by their numbers and bytes alone.
abbrev pub LinesAreJudged : Type 0
LinesAreJudged = Judges ReplayRuns ReplayRefuses replay_verdict IsBehind

-- The line may stand behind a header, as one of the calls, moments and datagrams of a replay script: digits are those
-- of bytes, and a step is of an actor that scripts have. Other numbers are any.
abbrev pub IsInPlace : ScriptLine → Type 0
IsInPlace (line.header config) = ⊥
IsInPlace (line.announce size) = ⊤
IsInPlace (line.queue place generation) = ⊤
IsInPlace (line.revoke place generation) = ⊤
IsInPlace (line.flush operation) = ⊤
IsInPlace line.start = ⊤
IsInPlace (line.stop flags) = ⊤
IsInPlace (line.tick moment) = ⊤
IsInPlace (line.datagram digits) = (bytes : List ℕ) × (decode_of digits ≡ Ok bytes)
IsInPlace line.take = ⊤
IsInPlace line.kill = ⊤
IsInPlace line.event_flush = ⊤
IsInPlace (line.info which) = ⊤
IsInPlace (line.buffer_info place generation which) = ⊤
IsInPlace (line.open_child parent index) = ⊤
IsInPlace (line.close_all serial) = ⊤
IsInPlace (line.step actor act place) = IsStep actor act place
IsInPlace (line.mode n) = ⊤
IsInPlace line.end_of_script = ⊥
IsInPlace line.camera_header = ⊥
IsInPlace (line.command peer digits) = ⊥
IsInPlace line.frame = ⊥

-- Such lines lead to a trace.
abbrev pub LinesHaveATrace : Type 0
LinesHaveATrace = (c : AcqConfig) (lines : List ScriptLine) → 1 ≤ c.window → AllByRecursion IsInPlace lines → (t : Trace) × Leads c opening lines t

-- Lines lead to one trace.
abbrev pub TraceIsOne : Type 0
TraceIsOne =
    (c : AcqConfig) (lines : List ScriptLine) (t a b : Trace) → AllByRecursion IsScriptLine lines
    → Leads c t lines a → Leads c t lines b → a ≡ b

-- two reports, and how the script stands after each
pub record IsSame (said said_also : List ℕ) (new new_also : Standing) : Type 0 where
  pub text : said ≡ said_also
  pub standing : new ≡ new_also

-- One script has one report: the same lines lead from the same standing to one report and one standing,
-- and a line can't both go on and end the script.
pub record ReportIsOne : Type 0 where
  pub lines_agree :
      (m : Standing) (n : ℕ) (lines : List (List ℕ)) (text text_also : List ℕ) (new new_also : Standing) → AreLines lines
      → RunsLines ReplayRuns m n lines text new → RunsLines ReplayRuns m n lines text_also new_also → IsSame text text_also new new_also
  pub line_agrees :
      (m : Standing) (n : ℕ) (line : List ℕ) (ran ran_also : Ran) (text text_also : List ℕ) (new new_also : Standing) → length line ≤ 20000
      → ReplayRuns m n line ran text new → ReplayRuns m n line ran_also text_also new_also
      → (ran ≡ ran_also) × IsSame text text_also new new_also
