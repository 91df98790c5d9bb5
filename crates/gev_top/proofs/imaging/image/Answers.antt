use Rattle.std.proofs.Common.{ap, ◌∙◌}
use Rattle.script_runs.specs.Verdicts.{outcome}
use Rattle.script_trace.specs.Standing.{replay_verdict}
use Rattle.script_image.specs.Ends.{ImageEnds}
use Rattle.gev_top.specs.Imaging.{status_for}
use Rattle.gev_top.proofs.Imaged.{image_caused, image_told}
use Rattle.gev_top.proofs.imaging.image.Goals as goal

pub returns-clause-cause : goal.returns-clause-cause
returns-clause-cause g c =
    image_caused
    (λ ending.
    ImageEnds c.args.wanted ending
    (g.S.Source.left c.args.source.now) (g.S.Source.left c.write_image.new.source)
    (g.S.Source.faults c.args.source.now) (g.S.Source.faults c.write_image.new.source)
    (g.K.Sink.written c.args.sink.now) (g.K.Sink.written c.write_image.new.sink)
    (g.K.Sink.faults c.args.sink.now) (g.K.Sink.faults c.write_image.new.sink))
    c.write_image.result c.status_for.result c.status_for.ensures c.write_image.ensures.ends

pub returns-clause-exact : goal.returns-clause-exact
returns-clause-exact g c =
    image_told c.args.wanted c.write_image.result c.status_for.result (g.S.Source.left c.args.source.now) (outcome replay_verdict) c.status_for.ensures c.write_image.ensures.exact

pub returns-clause-reads_steady : goal.returns-clause-reads_steady
returns-clause-reads_steady g c = λ steady. c.write_image.ensures.reads_steady (λ is. steady (c.status_for.ensures ∙ ap status_for is))

pub returns-clause-writes_steady : goal.returns-clause-writes_steady
returns-clause-writes_steady g c = λ steady. c.write_image.ensures.writes_steady (λ is. steady (c.status_for.ensures ∙ ap status_for is))
