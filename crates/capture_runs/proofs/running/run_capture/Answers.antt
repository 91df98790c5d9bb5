use Rattle.std.specs.Prelude.{List, ◌++◌}
use Rattle.gev_capture.specs.Sightings.{Sighting}
use Rattle.capture_runs.specs.Texts.{whole, broken, tells}
use Rattle.capture_runs.proofs.Walked.{run_none, answers_told}
use Rattle.capture_runs.proofs.running.run_capture.Goals as goal

pub returns-in-Ok-clause-exact : goal.returns-in-Ok-clause-exact
returns-in-Ok-clause-exact g c p stands =
    answers_told (λ (xs : List Sighting). c.args.out.now.items ++ whole g.T.Telling.texts p xs) (λ (xs : List Sighting). c.args.out.now.items ++ broken g.T.Telling.texts p xs) (tells g.T.Telling.texts p) c.run_records.result
    (g.S.Source.left c.args.source.now) (g.S.Source.left c.run_records.new.source) (g.S.Source.faults c.args.source.now) (g.S.Source.faults c.run_records.new.source)
    (g.K.Sink.written c.args.sink.now) (g.K.Sink.written c.run_records.new.sink) (g.K.Sink.faults c.args.sink.now) (g.K.Sink.faults c.run_records.new.sink)
    (c.run_records.ensures.ends p stands)

pub returns-in-Err-clause-ends : goal.returns-in-Err-clause-ends
returns-in-Err-clause-ends g c p stands =
    run_none g.T.Telling.texts p c.args.out.now.items (g.S.Source.left c.args.source.now) (g.S.Source.faults c.args.source.now) (g.K.Sink.written c.args.sink.now) (g.K.Sink.faults c.args.sink.now)
