-- The lines are those of the buffers that were taken.
use Rattle.gev_live.proofs.writing.write_told.Goals as goal

pub returns-then-is_told : goal.returns-then-is_told
returns-then-is_told g c = record { ends = c.write_lines.ensures.ends }
