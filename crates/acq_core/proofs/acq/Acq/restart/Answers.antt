use Rattle.std.proofs.Common.{ap, subst, ◌∙◌}
use Rattle.acquisition_machine.specs.Machine.{restart}
use Rattle.acq_core.specs.Receiver.{open_count, Takes}
use Rattle.acq_core.proofs.Receiving.{receiver_unasked, takes, none_restarted, forgotten, takes_forgotten}
use Rattle.acq_core.proofs.acq.Acq.restart.Goals as goal

pub restart-requires : goal.restart-requires
restart-requires c = (forgotten c.self.inside.window c.forget.new.window c.self.invariant c.forget.ensures.rest c.forget.ensures.fewer c.forget.ensures.capacity).room

pub invariant_of-self : goal.invariant_of-self
invariant_of-self c =
    let r = forgotten c.self.inside.window c.forget.new.window c.self.invariant c.forget.ensures.rest c.forget.ensures.fewer c.forget.ensures.capacity in
    receiver_unasked c.forget.new.window c.restart.new.window restart r (λ s acts sound. c.restart.ensures.gives s acts) c.restart.ensures.room
    (c.restart.ensures.gives r.acts.state r.acts.acts).acts.asked

pub returns-clause-takes : goal.returns-clause-takes
returns-clause-takes c =
    subst (λ m. Takes m c.restart.new.window restart) c.self.view_is
    (takes_forgotten c.self.inside.window c.forget.new.window c.restart.new.window restart c.forget.ensures.rest
    (takes c.forget.new.window c.restart.new.window restart (forgotten c.self.inside.window c.forget.new.window c.self.invariant c.forget.ensures.rest c.forget.ensures.fewer c.forget.ensures.capacity) c.forget.ensures.none (λ s acts sound. c.restart.ensures.gives s acts)))

pub returns-clause-no_buffer : goal.returns-clause-no_buffer
returns-clause-no_buffer c =
    (none_restarted c.forget.new.window c.restart.new.window (forgotten c.self.inside.window c.forget.new.window c.self.invariant c.forget.ensures.rest c.forget.ensures.fewer c.forget.ensures.capacity) (ap open_count c.forget.ensures.rest ∙ ap open_count c.self.view_is ∙ c.requires) (λ s acts sound. c.restart.ensures.gives s acts)).0

pub returns-clause-none_open : goal.returns-clause-none_open
returns-clause-none_open c =
    (none_restarted c.forget.new.window c.restart.new.window (forgotten c.self.inside.window c.forget.new.window c.self.invariant c.forget.ensures.rest c.forget.ensures.fewer c.forget.ensures.capacity) (ap open_count c.forget.ensures.rest ∙ ap open_count c.self.view_is ∙ c.requires) (λ s acts sound. c.restart.ensures.gives s acts)).1
