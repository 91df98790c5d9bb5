use Rattle.acquisition_machine.proofs.Frames.{fills_keep_frames}
use Rattle.acquisition_machine.proofs.laws.fills_keep_frames.Goals as goal

pub returns : goal.returns
returns c = fills_keep_frames
