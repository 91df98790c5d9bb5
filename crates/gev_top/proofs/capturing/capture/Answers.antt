use Rattle.std.proofs.Common.{ap, ◌∙◌}
use Rattle.capture_runs.specs.Ends.{RunEnds}
use Rattle.capture_script.specs.Script.{capture_script, begun_script, has_datagram}
use Rattle.gev_top.specs.Capturing.{script_status}
use Rattle.gev_top.proofs.Captured.{script_stands_by, script_told, script_is_whole}
use Rattle.gev_top.proofs.capturing.capture.Goals as goal

pub returns-clause-cause : goal.returns-clause-cause
returns-clause-cause g c =
    script_stands_by c.args.port
    (λ ending. RunEnds (capture_script c.args.port c.args.p c.args.bytes) (begun_script c.args.port c.args.p c.args.bytes) (has_datagram c.args.port) ending (g.S.Source.left c.args.source.now) (g.S.Source.left c.write_capture.new.source) (g.S.Source.faults c.args.source.now) (g.S.Source.faults c.write_capture.new.source)
    (g.K.Sink.written c.args.sink.now) (g.K.Sink.written c.write_capture.new.sink) (g.K.Sink.faults c.args.sink.now) (g.K.Sink.faults c.write_capture.new.sink))
    c.write_capture.result c.script_status.result c.script_status.ensures c.write_capture.ensures.ends

pub returns-clause-exact : goal.returns-clause-exact
returns-clause-exact g c =
    script_told c.args.port c.write_capture.result c.script_status.result (g.S.Source.left c.args.source.now) c.script_status.ensures c.write_capture.ensures.exact

pub returns-clause-reads_steady : goal.returns-clause-reads_steady
returns-clause-reads_steady g c read = c.write_capture.ensures.reads_steady (script_is_whole c.args.port c.write_capture.result c.script_status.result c.script_status.ensures read)

pub returns-clause-writes_steady : goal.returns-clause-writes_steady
returns-clause-writes_steady g c = λ steady. c.write_capture.ensures.writes_steady (λ is. steady (c.script_status.ensures ∙ ap (script_status c.args.port) is))
