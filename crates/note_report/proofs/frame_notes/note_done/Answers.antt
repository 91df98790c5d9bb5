use Rattle.std.proofs.Common.{sym}
use Rattle.note_report.proofs.frame_notes.note_done.Goals as goal

pub returns : goal.returns
returns c = rw (sym c.from.ensures, sym c.from-2.ensures) c.add_note.ensures
