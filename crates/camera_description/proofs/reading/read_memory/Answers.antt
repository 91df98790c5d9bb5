use Rattle.std.proofs.Common.{sym, option_map}
use Rattle.link_filters.specs.Reads.{with_memory, heard_since}
use Rattle.camera_description.proofs.Pieces.{same_heard, reads_as}
use Rattle.camera_description.proofs.reading.read_memory.Goals as goal

pub returns-clause-reads : goal.returns-clause-reads
returns-clause-reads g c =
    let carried = rw (c.new-filter.ensures.inner, ← c.into_inner.ensures) at c.carry_out-end.ensures.carries_out in
    reads_as c.args.camera
    (record { heard = g.L.Link.received c.args.link; sent = g.L.Link.sent c.args.link; told = g.C.Clock.told c.args.clock.now; client = c.args.client.now })
    (record {
      heard = g.L.Link.received c.into_inner.result;
      sent = g.L.Link.sent c.into_inner.result;
      told = g.C.Clock.told c.carry_out-end.new.clock;
      client = c.carry_out-end.new.client;
    })
    c.args.address c.args.count
    (option_map (heard_since g.A.AskedFor.before (with_memory g.A.AskedFor.address g.A.AskedFor.count)) (g.L.Link.received c.args.link))
    (option_map (heard_since g.A.AskedFor.before (with_memory g.A.AskedFor.address g.A.AskedFor.count)) (g.L.Link.received c.into_inner.result))
    c.carry_out-end.result carried c.new-filter.ensures.received
    (same_heard g.A.AskedFor.before _ g.A.AskedFor.address c.args.address g.A.AskedFor.count c.args.count (g.L.Link.received c.into_inner.result) c.requires.before
    (sym c.requires.address) (sym c.requires.count))
