use Rattle.camera_replay.proofs.Decoding.{spells}
use Rattle.camera_replay.proofs.lines.answer_digits.Goals as goal

pub decode-requires-clause-spelled : goal.decode-requires-clause-spelled
decode-requires-clause-spelled c = spells c.args.digits.now c.requires.is_command.hex
