use Rattle.std.proofs.Common.{◌≡◌, ℕ, ◌-◌, ◌≤◌, List}
use Rattle.client_machine.specs.Machine.{IsIdle}
use Rattle.gev_links.specs.Told.{Appends}
use Rattle.link_filters.specs.Reads.{told_count}
use Rattle.camera_description.specs.Describing.{HasCopied}
use Rattle.camera_description.proofs.copying.copy.Given as goal

abbrev pub ghosts-read_memory : goal.ghosts-read_memory
ghosts-read_memory g a = record { address = a.address; count = a.count; before = told_count (g.L.Link.received a.link) }

abbrev pub invariant-loop-place : goal.invariant-loop-place
invariant-loop-place g l = record {
  text : List ℕ;
  so :
      HasCopied l.camera l.location
      (record {
        heard = g.L.Link.received l.fn.given;
        sent = g.L.Link.sent l.fn.given;
        told = g.C.Clock.told l.fn.clock;
        client = l.fn.client;
      })
      l.place (record { heard = g.L.Link.received l.link; sent = g.L.Link.sent l.link; told = g.C.Clock.told l.clock; client = l.client })
      text;
  idle : IsIdle l.client;
  few : l.place ≤ l.location.size;
  wrote : Appends (g.K.Sink.written l.fn.sink) (g.K.Sink.written l.sink) text;
  link_faults : g.L.Link.faults l.link ≡ g.L.Link.faults l.fn.given;
  sink_faults : g.K.Sink.faults l.sink ≡ g.K.Sink.faults l.fn.sink;
}

abbrev pub decreases-loop-place : goal.decreases-loop-place
decreases-loop-place g l = l.location.size - l.place
