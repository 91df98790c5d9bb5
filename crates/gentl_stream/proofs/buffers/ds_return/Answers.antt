use Rattle.std.proofs.Common.{ap}
use Rattle.gentl_types.specs.declared.buffer_id.BufferId.{BufferId}
use Rattle.gentl_stream.proofs.Grabbing.{spent_whole, returned}
use Rattle.gentl_stream.proofs.buffers.ds_return.Goals as goal

pub lay-requires-clause-holds : goal.lay-requires-clause-holds
lay-requires-clause-holds c = spent_whole _ _ _ _ _ (ap (λ (id : BufferId). id.place) c.id-place.ensures) c.spend.ensures.hands

pub returns-clause-entries : goal.returns-clause-entries
returns-clause-entries c = returned _ _ _ _ _ (ap (λ (id : BufferId). id.place) c.id-place.ensures) c.spend.ensures.stays c.lay.ensures.entry
