use Rattle.script_replay.proofs.Retiring.{fills_on}
use Rattle.script_replay.proofs.retired.fill_retired.Goals as goal

pub loop-fill-preserved : goal.loop-fill-preserved
loop-fill-preserved c =
    fills_on c.args.mode _ _ _ _ _ _ _ _ _ c.in-Some.fill c.loop-fill.invariant c.in-Some.ensures.fill c.in-Some.ensures.requests c.in-Some.ensures.rest c.fill_one-filled.ensures.one
