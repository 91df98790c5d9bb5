use Rattle.std.proofs.Common.{refl, rules}
use Rattle.gev_receive.specs.Ending.{wrote, failed, lacked}
use Rattle.gev_receive.proofs.ending.write_last.Goals as goal

pub returns-then-is_err : goal.returns-then-is_err
returns-then-is_err g c = lacked refl refl

pub returns-in-Ok : goal.returns-in-Ok
returns-in-Ok g c = wrote (search rules) (search rules)

pub returns : goal.returns
returns g c = failed (search rules) (search rules)
