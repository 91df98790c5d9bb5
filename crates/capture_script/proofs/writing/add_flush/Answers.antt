-- The line that is added flushes by the operation 3.
use Rattle.capture_script.proofs.writing.add_flush.Goals as goal

pub returns : goal.returns
returns c = c.add_line.ensures
