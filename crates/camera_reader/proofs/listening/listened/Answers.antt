-- The wait goes on at the turn's own moment.
use Rattle.camera_reader.proofs.listening.listened.Goals as goal

pub returns : goal.returns
returns c = rw (c.last_heard.ensures, c.next_pace.ensures)
