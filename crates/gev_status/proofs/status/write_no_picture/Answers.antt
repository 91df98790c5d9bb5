-- The number that is written is the number of the buffers.
use Rattle.gev_status.proofs.status.write_no_picture.Goals as goal

pub returns-in-Taken : goal.returns-in-Taken
returns-in-Taken g c = rw c.in-Taken.is (rw c.from.ensures at c.write_between.ensures)

pub returns-in-NoneOf : goal.returns-in-NoneOf
returns-in-NoneOf g c = rw c.in-NoneOf.is (rw c.from-in-NoneOf.ensures at c.write_between-in-NoneOf.ensures)
