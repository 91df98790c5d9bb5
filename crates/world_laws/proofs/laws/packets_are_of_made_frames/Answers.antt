use Rattle.world_laws.proofs.Made.{of_made_frames}
use Rattle.world_laws.proofs.laws.packets_are_of_made_frames.Goals as goal

pub returns : goal.returns
returns c = of_made_frames
