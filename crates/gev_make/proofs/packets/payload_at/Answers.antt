use Rattle.std.proofs.Common.{◌-◌, ◌*◌}
use Rattle.gev_make.proofs.Carrying.{taken_from}
use Rattle.gev_make.proofs.packets.payload_at.Goals as goal

pub returns-clause-bytes : goal.returns-clause-bytes
returns-clause-bytes c = taken_from c.args.pixels.now ((c.args.k - 1) * 1452) c.min.result 1452 c.min.ensures
