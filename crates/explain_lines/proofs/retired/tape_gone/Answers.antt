use Rattle.std.proofs.lemmas.List.{drop_all}
use Rattle.explain_lines.proofs.Tapes.{gone_more, all_gone}
use Rattle.explain_lines.proofs.retired.tape_gone.Goals as goal

pub loop-one-preserved : goal.loop-one-preserved
loop-one-preserved c before marks xs are =
    gone_more c.loop-one.one-index c.args.gone.now _ c.args.tape.now.items c.loop-one.tape.items c.tape_one.new.tape.items before xs
    c.loop-one-test.true (c.loop-one.invariant before marks xs are) (c.in_ok-tape_one.ensures before marks)

pub returns : goal.returns
returns c before marks xs are =
    all_gone _ c.args.tape.now.items c.loop-one.tape.items before xs (drop_all c.loop-one.one-index c.args.gone.now c.loop-one-test.false) (c.loop-one.invariant before marks xs are)
