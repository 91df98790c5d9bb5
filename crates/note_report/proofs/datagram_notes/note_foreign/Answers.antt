use Rattle.std.proofs.Common.{sym}
use Rattle.note_report.proofs.datagram_notes.note_foreign.Goals as goal

pub returns-in-Standard : goal.returns-in-Standard
returns-in-Standard c = rw c.in-Standard.is c.add_note-in-Standard.ensures

pub returns-in-BadId : goal.returns-in-BadId
returns-in-BadId c = rw (c.in-BadId.is, sym c.from-in-BadId.ensures) c.add_note-in-BadId.ensures

pub returns-in-PayloadType : goal.returns-in-PayloadType
returns-in-PayloadType c = rw c.in-PayloadType.is c.add_note-in-PayloadType.ensures

pub returns-in-FrameSize : goal.returns-in-FrameSize
returns-in-FrameSize c = rw c.in-FrameSize.is c.add_note-in-FrameSize.ensures
