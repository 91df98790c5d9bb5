use Rattle.std.proofs.Common.{sym}
use Rattle.note_report.proofs.frame_notes.note_blocks.Goals as goal

pub returns : goal.returns
returns c = rw (sym c.from.ensures) c.add_note.ensures
