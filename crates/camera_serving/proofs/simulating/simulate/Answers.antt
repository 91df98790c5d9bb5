use Rattle.std.proofs.Common.{subst, ◌∙◌}
use Rattle.camera_serving.specs.Turning.{WroteEnd}
use Rattle.camera_serving.proofs.Ending.{faults_of_turns, rose_back}
use Rattle.camera_serving.proofs.simulating.simulate.Goals as goal

pub returns-clause-link_failed : goal.returns-clause-link_failed
returns-clause-link_failed g c =
    λ is.
    rose_back (g.P.L.Link.faults c.in-Ok-bind_at.link) (g.P.L.Link.faults c.serve_turns-end.new.link) _ _ _ _ c.in-Ok-bind_at.ensures.no_fault_of_it
    (c.serve_turns-end.ensures.link_failed
    (faults_of_turns c.serve_turns-end.result (g.K.Sink.written c.args.sink.now) (g.K.Sink.written c.finish.new.sink)
    (subst (λ end. WroteEnd c.serve_turns-end.result end (g.K.Sink.written c.args.sink.now) (g.K.Sink.written c.finish.new.sink)) is c.finish.ensures.wrote)))
    (c.clock-clock.ensures.faults ∙ c.in-Ok-bind_at.ensures.no_fault)
    c.unbind.ensures.faults c.unclock.ensures.faults
