use Rattle.gev_world.proofs.Asking.{putting_on, head_and_rest}
use Rattle.gev_world.proofs.host_turn.put_all.Goals as goal

pub loop-rest-preserved : goal.loop-rest-preserved
loop-rest-preserved c =
    putting_on c.args.stage.now c.loop-rest.stage c.put_to_camera.new.stage c.args.commands.now c.loop-rest.rest.now _ _ (head_and_rest c.loop-rest.rest.now c.in-len1-up.len_at_least) c.loop-rest.invariant c.in_ok-put_to_camera.ensures
