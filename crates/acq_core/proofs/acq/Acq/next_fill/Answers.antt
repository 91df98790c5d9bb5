use Rattle.acq_core.proofs.Receiving.{fill_taken}
use Rattle.acq_core.proofs.acq.Acq.next_fill.Goals as goal

pub invariant_of-self : goal.invariant_of-self
invariant_of-self c =
    fill_taken c.self.inside.window c.next_fill.new.window c.self.invariant c.next_fill.ensures.rest c.next_fill.ensures.fewer c.next_fill.ensures.capacity
