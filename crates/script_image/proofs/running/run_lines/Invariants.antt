use Rattle.std.proofs.Common.{◌≡◌, ◌-◌, ◌^◌, None}
use Rattle.script_image.proofs.Looping.{SoFar}
use Rattle.script_image.proofs.running.run_lines.Given as goal

abbrev pub invariant-turns : goal.invariant-turns
invariant-turns g l = record {
  so_far : SoFar l.fn.showing.wanted l.showing l.lines.given l.lines.held (g.S.Source.left l.fn.source) (g.S.Source.left l.source) (g.K.Sink.written l.fn.sink) (g.K.Sink.written l.sink);
  refusal : l.lines.refusal ≡ None;
  reads : g.S.Source.faults l.source ≡ g.S.Source.faults l.fn.source;
  writes : g.K.Sink.faults l.sink ≡ g.K.Sink.faults l.fn.sink;
}

abbrev pub decreases-turns : goal.decreases-turns
decreases-turns g l = 2 ^ 32 - l.lines.given
