use Rattle.note_report.proofs.datagram_notes.note_unwidened.Goals as goal

pub returns-in-Extended : goal.returns-in-Extended
returns-in-Extended c = rw c.in-Extended.is c.add_note-in-Extended.ensures
