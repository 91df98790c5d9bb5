use Rattle.std.proofs.Common.{vec_len, arith}
use Rattle.acq_core.proofs.Wanting.{bound_room, bound_full, some_slots}
use Rattle.acq_core.proofs.hearing.bound.Goals as goal

pub returns-then-len-from : goal.returns-then-len-from
returns-then-len-from c s acts = bound_room c.args.window.now s acts (omega arith)

pub returns : goal.returns
returns c s acts =
    bound_full c.args.window.now s c.index.result.now acts (omega arith)
    (some_slots (vec_len c.args.window.now.slots) c.is_empty.result c.is_empty.ensures c.if-is_empty.false) c.index.ensures
