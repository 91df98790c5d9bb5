use Rattle.live_promises.proofs.Headlines.{blocks_frames}
use Rattle.live_promises.proofs.headline_laws.blocks_hold_frames.Goals as goal

pub returns : goal.returns
returns c = blocks_frames
