use Rattle.world_laws.proofs.Worlds.{trace_keeps}
use Rattle.world_laws.proofs.laws.trace_of_a_world_keeps_promises.Goals as goal

pub returns : goal.returns
returns c = trace_keeps
