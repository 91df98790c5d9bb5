-- Each queue has room for 64.
use Rattle.std.proofs.Common.{◌≡◌, Some, subst}
use Rattle.std.specs.Prelude.{slice_get}
use Rattle.gev_lanes.proofs.News.{room_at}
use Rattle.gev_lanes.proofs.ends.Lanes.put_request.Goals as goal

pub put_one-requires-clause-room : goal.put_one-requires-clause-room
put_one-requires-clause-room g c =
    (room_at c.self.inside.queues.items c.lane.inside.number c.queues_at-queues.result.now c.self.invariant
    (subst (λ l. slice_get l c.lane.inside.number ≡ Some c.queues_at-queues.result.now) c.as_slice.ensures.value c.queues_at-queues.ensures)).requests
