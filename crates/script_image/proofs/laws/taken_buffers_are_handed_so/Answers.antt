use Rattle.script_image.proofs.Promised.{taken_buffers_are_handed_so}
use Rattle.script_image.proofs.laws.taken_buffers_are_handed_so.Goals as goal

pub returns : goal.returns
returns c = taken_buffers_are_handed_so
