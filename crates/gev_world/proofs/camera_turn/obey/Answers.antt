use Rattle.gev_world.proofs.Steps.{on_ok}
use Rattle.gev_world.proofs.Composing.{obeyed}
use Rattle.gev_world.proofs.camera_turn.obey.Goals as goal

pub returns : goal.returns
returns c = on_ok c.put_waiting.result (obeyed c.args.stage.now c.hear.new.stage c.put_waiting.new.stage c.args.datagram.now c.as_slice.result.now c.as_slice.ensures c.in_ok-hear.ensures) c.put_waiting.ensures
