use Rattle.gev_types.specs.Filling.{Filling}
use Rattle.gentl_stream.proofs.Grabbing.{revoke_done}
use Rattle.gentl_stream.proofs.buffers.ds_revoke.Goals as goal

pub returns-in-Ok-clause-entries : goal.returns-in-Ok-clause-entries
returns-in-Ok-clause-entries c = revoke_done Filling _ _ _ c.args.id c.vacate.result c.in-Ok.ensures.in_range c.in-Ok.ensures.entry c.vacate.ensures.entry
