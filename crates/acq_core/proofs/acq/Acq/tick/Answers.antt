use Rattle.std.proofs.Common.{ap, subst, ◌∙◌}
use Rattle.acquisition_machine.specs.Machine.{tick}
use Rattle.acq_core.specs.Waiting.{waiting_fills}
use Rattle.acq_core.specs.Receiver.{Takes, KeepsBuffers}
use Rattle.acq_core.proofs.Receiving.{receiver_drained, takes, keeps_tick, forgotten, takes_forgotten, keeps_forgotten}
use Rattle.acq_core.proofs.acq.Acq.tick.Goals as goal

pub tick-requires-clause-acts : goal.tick-requires-clause-acts
tick-requires-clause-acts c = (forgotten c.self.inside.window c.forget.new.window c.self.invariant c.forget.ensures.rest c.forget.ensures.fewer c.forget.ensures.capacity).acts

pub tick-requires-clause-room : goal.tick-requires-clause-room
tick-requires-clause-room c = (forgotten c.self.inside.window c.forget.new.window c.self.invariant c.forget.ensures.rest c.forget.ensures.fewer c.forget.ensures.capacity).room

pub invariant_of-self : goal.invariant_of-self
invariant_of-self c =
    receiver_drained c.forget.new.window c.tick.new.window (tick c.args.moment) (forgotten c.self.inside.window c.forget.new.window c.self.invariant c.forget.ensures.rest c.forget.ensures.fewer c.forget.ensures.capacity) (ap waiting_fills c.forget.ensures.rest ∙ ap waiting_fills c.self.view_is ∙ c.requires.no_fill) (λ s acts sound. c.tick.ensures.gives s acts) c.tick.ensures.room

pub returns-clause-takes : goal.returns-clause-takes
returns-clause-takes c =
    subst (λ m. Takes m c.tick.new.window (tick c.args.moment)) c.self.view_is
    (takes_forgotten c.self.inside.window c.forget.new.window c.tick.new.window (tick c.args.moment) c.forget.ensures.rest
    (takes c.forget.new.window c.tick.new.window (tick c.args.moment) (forgotten c.self.inside.window c.forget.new.window c.self.invariant c.forget.ensures.rest c.forget.ensures.fewer c.forget.ensures.capacity) c.forget.ensures.none (λ s acts sound. c.tick.ensures.gives s acts)))

pub returns-clause-buffers : goal.returns-clause-buffers
returns-clause-buffers c =
    subst (λ m. KeepsBuffers m c.tick.new.window) c.self.view_is
    (keeps_forgotten c.self.inside.window c.forget.new.window c.tick.new.window c.forget.ensures.rest
    (keeps_tick c.forget.new.window c.tick.new.window c.args.moment (forgotten c.self.inside.window c.forget.new.window c.self.invariant c.forget.ensures.rest c.forget.ensures.fewer c.forget.ensures.capacity) (λ s acts sound. c.tick.ensures.gives s acts)))
