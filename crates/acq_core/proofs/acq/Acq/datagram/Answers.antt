use Rattle.std.proofs.Common.{ap, subst, ◌∙◌}
use Rattle.std.specs.Prelude.{◌≡◌, List, Some}
use Rattle.acquisition_machine.specs.Machine.{Input, datagram}
use Rattle.acquisition_machine.specs.Runs.{turn}
use Rattle.acq_core.specs.Waiting.{waiting_fills, waiting_requests}
use Rattle.acq_core.specs.Receiver.{config_of, Stands, Takes, KeepsBuffers}
use Rattle.acq_core.proofs.Receiving.{receiver_drained, takes, keeps_datagram, asked_then, answered_forgotten, answered, requests_same, forgotten, takes_forgotten, keeps_forgotten}
use Rattle.acq_core.proofs.acq.Acq.datagram.Goals as goal

pub hear-requires-clause-acts : goal.hear-requires-clause-acts
hear-requires-clause-acts c = (forgotten c.self.inside.window c.forget.new.window c.self.invariant c.forget.ensures.rest c.forget.ensures.fewer c.forget.ensures.capacity).acts

pub hear-requires-clause-room : goal.hear-requires-clause-room
hear-requires-clause-room c = (forgotten c.self.inside.window c.forget.new.window c.self.invariant c.forget.ensures.rest c.forget.ensures.fewer c.forget.ensures.capacity).room

pub invariant_of-self : goal.invariant_of-self
invariant_of-self c =
    receiver_drained c.forget.new.window c.hear.new.window (datagram c.args.bytes.now) (forgotten c.self.inside.window c.forget.new.window c.self.invariant c.forget.ensures.rest c.forget.ensures.fewer c.forget.ensures.capacity) (ap waiting_fills c.forget.ensures.rest ∙ ap waiting_fills c.self.view_is ∙ c.requires.no_fill) (λ s acts sound. (c.hear.ensures.answers s acts sound).gives) c.hear.ensures.room

pub returns-clause-need : goal.returns-clause-need
returns-clause-need c =
    subst (λ m. (q : List Input) → Stands m q → (turn (config_of m) q (datagram c.args.bytes.now)).need ≡ Some c.hear.result) c.self.view_is
    (answered_forgotten c.self.inside.window c.forget.new.window c.hear.result c.args.bytes.now c.forget.ensures.rest
    (answered c.forget.new.window c.hear.new.window c.hear.result c.args.bytes.now (forgotten c.self.inside.window c.forget.new.window c.self.invariant c.forget.ensures.rest c.forget.ensures.fewer c.forget.ensures.capacity) c.hear.ensures.answers))

pub returns-clause-takes : goal.returns-clause-takes
returns-clause-takes c =
    subst (λ m. Takes m c.hear.new.window (datagram c.args.bytes.now)) c.self.view_is
    (takes_forgotten c.self.inside.window c.forget.new.window c.hear.new.window (datagram c.args.bytes.now) c.forget.ensures.rest
    (takes c.forget.new.window c.hear.new.window (datagram c.args.bytes.now) (forgotten c.self.inside.window c.forget.new.window c.self.invariant c.forget.ensures.rest c.forget.ensures.fewer c.forget.ensures.capacity) c.forget.ensures.none (λ s acts sound. (c.hear.ensures.answers s acts sound).gives)))

pub returns-clause-requests : goal.returns-clause-requests
returns-clause-requests c =
    requests_same c.forget.new.window c.hear.new.window c.args.bytes.now (forgotten c.self.inside.window c.forget.new.window c.self.invariant c.forget.ensures.rest c.forget.ensures.fewer c.forget.ensures.capacity) (λ s acts sound. (c.hear.ensures.answers s acts sound).gives)
    (ap waiting_requests c.forget.ensures.rest ∙ ap waiting_requests c.self.view_is ∙ c.requires.no_request)

pub returns-clause-buffers : goal.returns-clause-buffers
returns-clause-buffers c =
    subst (λ m. KeepsBuffers m c.hear.new.window) c.self.view_is
    (keeps_forgotten c.self.inside.window c.forget.new.window c.hear.new.window c.forget.ensures.rest
    (keeps_datagram c.forget.new.window c.hear.new.window c.args.bytes.now (forgotten c.self.inside.window c.forget.new.window c.self.invariant c.forget.ensures.rest c.forget.ensures.fewer c.forget.ensures.capacity) (λ s acts sound. (c.hear.ensures.answers s acts sound).gives)))

pub returns-clause-asked : goal.returns-clause-asked
returns-clause-asked c =
    asked_then c.forget.new.window c.hear.new.window (datagram c.args.bytes.now) (Some c.hear.result) (forgotten c.self.inside.window c.forget.new.window c.self.invariant c.forget.ensures.rest c.forget.ensures.fewer c.forget.ensures.capacity)
    (λ s acts sound. (c.hear.ensures.answers s acts sound).gives) (λ s acts sound. (c.hear.ensures.answers s acts sound).need)
