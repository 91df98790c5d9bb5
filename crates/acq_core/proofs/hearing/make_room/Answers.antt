use Rattle.std.proofs.Common.{arith}
use Rattle.acq_core.proofs.Wanting.{none_displaced, one_displaced}
use Rattle.acq_core.proofs.hearing.make_room.Goals as goal

pub returns-then-len-from-clause-retires : goal.returns-then-len-from-clause-retires
returns-then-len-from-clause-retires c s acts = none_displaced c.args.window.now s acts (omega arith)

pub returns-clause-retires : goal.returns-clause-retires
returns-clause-retires c s acts =
    one_displaced c.args.window.now c.retire_first.new.window s acts (omega arith) c.requires.room.config.window_some c.retire_first.ensures.retires
