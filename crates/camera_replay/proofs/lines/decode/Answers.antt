use Rattle.camera_replay.proofs.Decoding.{decoded}
use Rattle.camera_replay.proofs.lines.decode.Goals as goal

pub returns : goal.returns
returns c = decoded c.args.digits.now c.args.bytes.now c.decode_to_slice-decoded.new.out c.decode_to_slice-decoded.result c.requires.spelled c.requires.room c.decode_to_slice-decoded.ensures.value
