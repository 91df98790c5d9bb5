use Rattle.camera_reader.proofs.Silences.{silence_is_waited}
use Rattle.camera_reader.proofs.laws.silence_is_waited.Goals as goal

pub returns : goal.returns
returns c = silence_is_waited
