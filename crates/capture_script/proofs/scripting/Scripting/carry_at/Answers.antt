use Rattle.std.proofs.lemmas.Result.{on_ok_weaker}
use Rattle.capture_script.specs.Script.{ticks, carries}
use Rattle.capture_script.proofs.Adding.{both_add}
use Rattle.capture_script.proofs.scripting.Scripting.carry_at.Goals as goal

pub returns : goal.returns
returns c =
    on_ok_weaker c.carry.result
    (λ carried s stands. both_add (ticks c.args.moment s) (carries c.args.bytes.now) c.tick.new.self c.carry.new.self c.args.out.now.items c.tick.new.out.items c.carry.new.out.items (c.in_ok-tick.ensures s stands) carried)
    c.carry.ensures
