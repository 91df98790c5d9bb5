use Rattle.std.proofs.Common.{length, arith}
use Rattle.gvsp_std.proofs.Written.{widened_fits}
use Rattle.wire_cases.proofs.standard.widen.Goals as goal

pub widen-requires-clause-room : goal.widen-requires-clause-room
widen-requires-clause-room c = widened_fits c.args.widener.now c.args.bytes.now (length c.args.out.now) (omega arith)
