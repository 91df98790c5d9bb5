-- Where the place was dropped, its block is told as it is.
use Rattle.std.proofs.Common.{Bool, Some, None, sym, ap, if◌then◌else◌}
use Rattle.script_replay.proofs.retired.dropped_block.Goals as goal

pub returns-then-was_dropped : goal.returns-then-was_dropped
returns-then-was_dropped c = ap (λ (b : Bool). if b then Some c.args.block else None) (sym c.if-was_dropped.true)
