use Rattle.std.proofs.Common.{◌≡◌, ◌≤◌, List}
use Rattle.std.specs.Prelude.{vec_capacity}
use Rattle.camera_search.specs.Searched.{Turned, Searching}
use Rattle.camera_search.proofs.searching.search.Given as goal

abbrev pub invariant-turns : goal.invariant-turns
invariant-turns g l = record {
  turns : List Turned;
  so :
      Searching l.to
      (record {
        heard = g.L.Link.received l.fn.link;
        sent = g.L.Link.sent l.fn.link;
        told = g.C.Clock.told l.fn.clock;
        written = g.K.Sink.written l.fn.sink;
      })
      (record { heard = g.L.Link.received l.link; sent = g.L.Link.sent l.link; told = g.C.Clock.told l.clock; written = g.K.Sink.written l.sink })
      l.begun turns l.again l.found.items;
  room : 256 ≤ vec_capacity l.found;
  link_faults : g.L.Link.faults l.link ≡ g.L.Link.faults l.fn.link;
  sink_faults : g.K.Sink.faults l.sink ≡ g.K.Sink.faults l.fn.sink;
}
