use Rattle.std.proofs.Common.{sym, ◌∙◌}
use Rattle.camera_replay.proofs.LineReads.{reads}
use Rattle.camera_replay.proofs.later.read.Goals as goal

pub returns-clause-says : goal.returns-clause-says
returns-clause-says c =
    reads c.args.line.now c.parse_line.result (sym c.is_of_camera.ensures ∙ c.if-not-is_of_camera.false) c.parse_line.ensures.value c.parse_line.ensures.is_line
