use Rattle.gev_world.proofs.Steps.{on_ok, acked}
use Rattle.gev_world.proofs.camera_turn.hear.Goals as goal

pub returns-in-Some : goal.returns-in-Some
returns-in-Some c =
    on_ok c.put_ack.result (acked c.args.stage.now _ c.command.new.self c.args.bytes.now _ c.command.ensures.state c.in-Some.ensures.ack) c.put_ack.ensures
