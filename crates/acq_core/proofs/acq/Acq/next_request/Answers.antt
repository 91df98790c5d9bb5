use Rattle.acq_core.proofs.Receiving.{request_taken}
use Rattle.acq_core.proofs.acq.Acq.next_request.Goals as goal

pub invariant_of-self : goal.invariant_of-self
invariant_of-self c =
    request_taken c.self.inside.window c.next_request.new.window c.self.invariant c.next_request.ensures.rest c.next_request.ensures.numbered c.next_request.ensures.capacity
