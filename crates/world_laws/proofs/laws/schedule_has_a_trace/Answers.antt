use Rattle.world_laws.proofs.Worlds.{has_a_trace}
use Rattle.world_laws.proofs.laws.schedule_has_a_trace.Goals as goal

pub returns : goal.returns
returns c = has_a_trace
