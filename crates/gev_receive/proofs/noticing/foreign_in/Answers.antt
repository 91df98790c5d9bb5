use Rattle.std.proofs.Common.{arith}
use Rattle.gvsp_std.proofs.Written.{widened_fits}
use Rattle.gev_receive.proofs.noticing.foreign_in.Goals as goal

pub widen-requires-clause-room : goal.widen-requires-clause-room
widen-requires-clause-room c = widened_fits c.new-widener.result c.args.bytes.now 9012 (omega (arith, c.requires))
