use Rattle.std.proofs.Common.{map, length}
use Rattle.std.specs.List.{All}
use Rattle.gev_make.specs.MakeText.{text_of, datagram_line, FitsLine}
use Rattle.gev_make.proofs.Texts.{Leads}
use Rattle.gev_make.proofs.lines.write_datagrams.Given as goal

abbrev pub invariant-loop-datagram : goal.invariant-loop-datagram
invariant-loop-datagram g l = record {
  leads :
      Leads (g.K.Sink.written l.initial.sink) (g.K.Sink.written l.sink) (g.K.Sink.faults l.initial.sink) (g.K.Sink.faults l.sink)
      (text_of (map datagram_line l.initial.queue)) (text_of (map datagram_line l.queue));
  fit : All FitsLine l.queue;
}

abbrev pub decreases-loop-datagram : goal.decreases-loop-datagram
decreases-loop-datagram g l = length l.queue
