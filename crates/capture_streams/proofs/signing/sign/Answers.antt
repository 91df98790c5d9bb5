use Rattle.std.specs.Prelude.{length}
use Rattle.gvsp_std.proofs.Written.{widened_fits}
use Rattle.capture_streams.proofs.signing.sign.Goals as goal

pub widen-requires-clause-room : goal.widen-requires-clause-room
widen-requires-clause-room c x e = widened_fits c.new-widener.result c.args.bytes.now (length c.args.room.now) c.requires x e
