use Rattle.std.proofs.lemmas.Result.{on_ok_weaker}
use Rattle.script_replay.proofs.Widened.{plain_tick}
use Rattle.script_replay.proofs.wide_lines.run_tick.Goals as goal

pub returns : goal.returns
returns c =
    on_ok_weaker c.run_adding.result
    (λ goes. plain_tick c.args.moment c.args.script.now c.run_adding.new.out.items c.run_adding.new.running c.if-script.false goes)
    c.run_adding.ensures
