use Rattle.std.proofs.Common.{ap, subst, ◌∙◌}
use Rattle.acquisition_machine.specs.Machine.{stop}
use Rattle.acq_core.specs.Waiting.{waiting_fills}
use Rattle.acq_core.specs.Receiver.{Takes, KeepsBuffers}
use Rattle.acq_core.proofs.Receiving.{receiver_drained, takes, keeps_stop, none_stopped, forgotten, takes_forgotten, keeps_forgotten}
use Rattle.acq_core.proofs.acq.Acq.stop.Goals as goal

pub stop-requires-clause-slots : goal.stop-requires-clause-slots
stop-requires-clause-slots c = let r = forgotten c.self.inside.window c.forget.new.window c.self.invariant c.forget.ensures.rest c.forget.ensures.fewer c.forget.ensures.capacity in (r.acts.state.opens, r.acts.acts.slots)

pub stop-requires-clause-room : goal.stop-requires-clause-room
stop-requires-clause-room c = (forgotten c.self.inside.window c.forget.new.window c.self.invariant c.forget.ensures.rest c.forget.ensures.fewer c.forget.ensures.capacity).room

pub invariant_of-self : goal.invariant_of-self
invariant_of-self c =
    receiver_drained c.forget.new.window c.stop.new.window stop (forgotten c.self.inside.window c.forget.new.window c.self.invariant c.forget.ensures.rest c.forget.ensures.fewer c.forget.ensures.capacity) (ap waiting_fills c.forget.ensures.rest ∙ ap waiting_fills c.self.view_is ∙ c.requires.no_fill) (λ s acts sound. c.stop.ensures.gives s acts) c.stop.ensures.room

pub returns-clause-takes : goal.returns-clause-takes
returns-clause-takes c =
    subst (λ m. Takes m c.stop.new.window stop) c.self.view_is
    (takes_forgotten c.self.inside.window c.forget.new.window c.stop.new.window stop c.forget.ensures.rest
    (takes c.forget.new.window c.stop.new.window stop (forgotten c.self.inside.window c.forget.new.window c.self.invariant c.forget.ensures.rest c.forget.ensures.fewer c.forget.ensures.capacity) c.forget.ensures.none (λ s acts sound. c.stop.ensures.gives s acts)))

pub returns-clause-buffers : goal.returns-clause-buffers
returns-clause-buffers c =
    subst (λ m. KeepsBuffers m c.stop.new.window) c.self.view_is
    (keeps_forgotten c.self.inside.window c.forget.new.window c.stop.new.window c.forget.ensures.rest
    (keeps_stop c.forget.new.window c.stop.new.window (forgotten c.self.inside.window c.forget.new.window c.self.invariant c.forget.ensures.rest c.forget.ensures.fewer c.forget.ensures.capacity) (λ s acts sound. c.stop.ensures.gives s acts)))

pub returns-clause-no_buffer : goal.returns-clause-no_buffer
returns-clause-no_buffer c = (none_stopped c.forget.new.window c.stop.new.window (forgotten c.self.inside.window c.forget.new.window c.self.invariant c.forget.ensures.rest c.forget.ensures.fewer c.forget.ensures.capacity) (λ s acts sound. c.stop.ensures.gives s acts)).0

pub returns-clause-none_open : goal.returns-clause-none_open
returns-clause-none_open c = (none_stopped c.forget.new.window c.stop.new.window (forgotten c.self.inside.window c.forget.new.window c.self.invariant c.forget.ensures.rest c.forget.ensures.fewer c.forget.ensures.capacity) (λ s acts sound. c.stop.ensures.gives s acts)).1
