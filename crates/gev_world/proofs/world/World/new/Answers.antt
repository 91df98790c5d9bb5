use Rattle.gev_world.proofs.Beginning.{begins_run}
use Rattle.gev_world.proofs.world.World.new.Goals as goal

pub returns : goal.returns
returns c = begins_run _ c.in_ok-stage.stage c.in_ok-host.host c.new_tools.result c.in_ok-stage.ensures c.in_ok-host.ensures c.new_tools.ensures
