use Rattle.camera_replay.proofs.Telling.{lines_events}
use Rattle.camera_replay.proofs.laws.lines_are_events.Goals as goal

pub returns : goal.returns
returns c = lines_events
