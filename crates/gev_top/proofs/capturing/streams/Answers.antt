use Rattle.std.proofs.Common.{ap, ◌∙◌}
use Rattle.capture_runs.specs.Ends.{RunEnds}
use Rattle.capture_streams.specs.Texts.{streams_text, listed_text, always}
use Rattle.gev_top.specs.Capturing.{status_from}
use Rattle.gev_top.proofs.Captured.{stands_by, capture_told, is_whole}
use Rattle.gev_top.proofs.capturing.streams.Goals as goal

pub returns-clause-cause : goal.returns-clause-cause
returns-clause-cause g c =
    stands_by
    (λ ending. RunEnds streams_text listed_text always ending (g.S.Source.left c.args.source.now) (g.S.Source.left c.list_streams.new.source) (g.S.Source.faults c.args.source.now) (g.S.Source.faults c.list_streams.new.source)
    (g.K.Sink.written c.args.sink.now) (g.K.Sink.written c.list_streams.new.sink) (g.K.Sink.faults c.args.sink.now) (g.K.Sink.faults c.list_streams.new.sink))
    c.list_streams.result c.status_from.result c.status_from.ensures c.list_streams.ensures.ends

pub returns-clause-exact : goal.returns-clause-exact
returns-clause-exact g c =
    capture_told c.list_streams.result c.status_from.result (g.S.Source.left c.args.source.now) c.status_from.ensures c.list_streams.ensures.exact

pub returns-clause-reads_steady : goal.returns-clause-reads_steady
returns-clause-reads_steady g c read = c.list_streams.ensures.reads_steady (is_whole c.list_streams.result c.status_from.result c.status_from.ensures read)

pub returns-clause-writes_steady : goal.returns-clause-writes_steady
returns-clause-writes_steady g c = λ steady. c.list_streams.ensures.writes_steady (λ is. steady (c.status_from.ensures ∙ ap status_from is))
