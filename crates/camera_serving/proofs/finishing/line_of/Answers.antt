-- The line tells the frames before the turns.
use Rattle.camera_serving.proofs.finishing.line_of.Goals as goal

pub returns : goal.returns
returns c = (c.in_ok-format.ensures {u = tt}).ok
