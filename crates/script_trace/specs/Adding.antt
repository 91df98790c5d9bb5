-- What each line of a replay script adds to its trace, and the traces of lists of lines.
use Rattle.std.specs.Prelude.{◌≡◌, List, [], ◌∷◌}
use Rattle.gev_script.specs.Lines as line
use Rattle.gev_script.specs.Lines.{ScriptLine}
use Rattle.board_machine.specs.Histories.{RunsFrom}
use Rattle.acquisition_machine.specs.declared.config.AcqConfig.{AcqConfig}
use Rattle.script_trace.specs.Trace.{Trace, Part, grown, board}
use Rattle.script_trace.specs.Contents.{contents_of, FillsFrom}
use Rattle.script_trace.specs.BoardLines.{buffer, AnnounceLine, QueueLine, RevokeLine, FlushLine, TakeLine, KillLine, EventFlushLine, InfoLine, BufferInfoLine}
use Rattle.script_trace.specs.StreamLines.{StartLine, StopLine, TickLine, DatagramLine, ModeLine}
use Rattle.script_trace.specs.HandleLines.{OpenLine, CloseLine}
use Rattle.script_trace.specs.StepLines.{StepLine}

-- The line, behind this trace, may add this part. The header, the end and the lines of a camera's script
-- add none.
abbrev pub Spells : AcqConfig → Trace → ScriptLine → Part → Type 0
Spells c t (line.header config) part = ⊥
Spells c t (line.announce size) part = AnnounceLine t size part
Spells c t (line.queue place generation) part = QueueLine t (buffer place generation) part
Spells c t (line.revoke place generation) part = RevokeLine t (buffer place generation) part
Spells c t (line.flush operation) part = FlushLine t operation part
Spells c t line.start part = StartLine t part
Spells c t (line.stop flags) part = StopLine c t flags part
Spells c t (line.tick moment) part = TickLine c t moment part
Spells c t (line.datagram digits) part = DatagramLine c t digits part
Spells c t line.take part = TakeLine t part
Spells c t line.kill part = KillLine t part
Spells c t line.event_flush part = EventFlushLine t part
Spells c t (line.info which) part = InfoLine t which part
Spells c t (line.buffer_info place generation which) part = BufferInfoLine t (buffer place generation) which part
Spells c t (line.open_child parent index) part = OpenLine t parent index part
Spells c t (line.close_all serial) part = CloseLine t serial part
Spells c t (line.step actor act place) part = StepLine t actor act place part
Spells c t (line.mode n) part = ModeLine t n part
Spells c t line.end_of_script part = ⊥
Spells c t line.camera_header part = ⊥
Spells c t (line.command peer digits) part = ⊥
Spells c t line.frame part = ⊥

-- The line adds this part: each answer in it is the board machine's, and each fill that isn't the
-- acquisition's has what lay there.
pub record AddsPart (c : AcqConfig) (t : Trace) (l : ScriptLine) (part : Part) : Type 0 where
  pub spells : Spells c t l part
  pub runs : RunsFrom (board t) part.entries
  pub fills : FillsFrom (contents_of t.entries) part.entries

-- These lines lead from one trace to another.
abbrev pub Leads : AcqConfig → Trace → List ScriptLine → Trace → Type 0
Leads c t [] new = new ≡ t
Leads c t (l ∷ lines) new = (part : Part) × AddsPart c t l part × Leads c (grown t part) lines new
