use Rattle.std.proofs.Common.{◌≡◌, length}
use Rattle.gev_links.proofs.Sendings.{Sent}
use Rattle.gev_links.proofs.writing.write_all.Given as goal

abbrev pub invariant-loop-rest : goal.invariant-loop-rest
invariant-loop-rest g l = record {
  sent : Sent (g.K.Sink.written l.fn.sink) (g.K.Sink.written l.sink) l.text l.rest;
  faults : g.K.Sink.faults l.sink ≡ g.K.Sink.faults l.fn.sink;
}

abbrev pub decreases-loop-rest : goal.decreases-loop-rest
decreases-loop-rest g l = length l.rest
