use Rattle.std.proofs.Common.{refl, subst}
use Rattle.std.specs.Prelude.{None}
use Rattle.acquisition_machine.specs.Machine.{claimed}
use Rattle.acquisition_machine.specs.TurnLaws.{TakesGiven}
use Rattle.acq_core.specs.Giving.{given_as}
use Rattle.acq_core.specs.Receiver.{asked_block, buffers, Takes}
use Rattle.acq_core.proofs.Receiving.{receiver_unasked, takes, takes_given, asked_then, forgotten, takes_forgotten, given_forgotten}
use Rattle.acq_core.proofs.acq.Acq.give.Goals as goal

pub give-requires-clause-acts : goal.give-requires-clause-acts
give-requires-clause-acts c = (forgotten c.self.inside.window c.forget.new.window c.self.invariant c.forget.ensures.rest c.forget.ensures.fewer c.forget.ensures.capacity).acts

pub give-requires-clause-room : goal.give-requires-clause-room
give-requires-clause-room c = (forgotten c.self.inside.window c.forget.new.window c.self.invariant c.forget.ensures.rest c.forget.ensures.fewer c.forget.ensures.capacity).room

pub invariant_of-self : goal.invariant_of-self
invariant_of-self c =
    receiver_unasked c.forget.new.window c.give.new.window (claimed (given_as c.args.answer)) (forgotten c.self.inside.window c.forget.new.window c.self.invariant c.forget.ensures.rest c.forget.ensures.fewer c.forget.ensures.capacity) c.give.ensures.gives c.give.ensures.room
    (asked_then c.forget.new.window c.give.new.window (claimed (given_as c.args.answer)) None (forgotten c.self.inside.window c.forget.new.window c.self.invariant c.forget.ensures.rest c.forget.ensures.fewer c.forget.ensures.capacity) c.give.ensures.gives (λ s acts sound. refl))

pub returns-clause-takes : goal.returns-clause-takes
returns-clause-takes c =
    subst (λ m. Takes m c.give.new.window (claimed (given_as c.args.answer))) c.self.view_is
    (takes_forgotten c.self.inside.window c.forget.new.window c.give.new.window (claimed (given_as c.args.answer)) c.forget.ensures.rest
    (takes c.forget.new.window c.give.new.window (claimed (given_as c.args.answer)) (forgotten c.self.inside.window c.forget.new.window c.self.invariant c.forget.ensures.rest c.forget.ensures.fewer c.forget.ensures.capacity) c.forget.ensures.none c.give.ensures.gives))

pub returns-clause-buffers : goal.returns-clause-buffers
returns-clause-buffers c =
    subst (λ m. TakesGiven (given_as c.args.answer) (asked_block m) (buffers m) (buffers c.give.new.window)) c.self.view_is
    (given_forgotten c.self.inside.window c.forget.new.window c.give.new.window (given_as c.args.answer) c.forget.ensures.rest
    (takes_given c.forget.new.window c.give.new.window (given_as c.args.answer) (forgotten c.self.inside.window c.forget.new.window c.self.invariant c.forget.ensures.rest c.forget.ensures.fewer c.forget.ensures.capacity) c.give.ensures.gives))
