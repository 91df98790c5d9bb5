use Rattle.std.proofs.Common.{vec_len}
use Rattle.acq_core.proofs.Stopping.{stopping_one}
use Rattle.acq_core.proofs.Wanting.{some_slots}
use Rattle.acq_core.proofs.retiring.retire_all.Goals as goal

pub loop-window-preserved : goal.loop-window-preserved
loop-window-preserved c =
    stopping_one c.args.window.now c.loop-window.window c.retire_first.new.window c.loop-window.invariant
    (some_slots (vec_len c.loop-window.window.slots) c.is_empty.result c.is_empty.ensures c.loop-window-test.true) c.retire_first.ensures.retires
    c.retire_first.ensures.changes c.retire_first.ensures.room
