use Rattle.std.proofs.Common.{ℕ, sym, ap, ◌∙◌}
use Rattle.camera_description.specs.Url.{location_in}
use Rattle.camera_description.specs.Memory.{memory_in}
use Rattle.camera_description.proofs.Pieces.{fails_by, read_by}
use Rattle.camera_description.proofs.locating.read_url.Goals as goal

pub returns-in-Some-clause-fails : goal.returns-in-Some-clause-fails
returns-in-Some-clause-fails g c =
    fails_by c.args.camera
    (record { heard = g.L.Link.received c.args.link; sent = g.L.Link.sent c.args.link; told = g.C.Clock.told c.args.clock.now; client = c.args.client.now })
    (record {
      heard = g.L.Link.received c.read_memory-back.result.0;
      sent = g.L.Link.sent c.read_memory-back.result.0;
      told = g.C.Clock.told c.read_memory-back.new.clock;
      client = c.read_memory-back.new.client;
    })
    c.args.address 512 c.read_memory-back.result.1 c.in-Some.failure (g.L.Link.faults c.args.link) (g.L.Link.faults c.read_memory-back.result.0)
    c.read_memory-back.ensures.reads (sym c.end_by.ensures ∙ c.in-Some.is) c.read_memory-back.ensures.fails

pub returns-in-None-clause-gives : goal.returns-in-None-clause-gives
returns-in-None-clause-gives g c = record {
  reads =
      read_by c.args.camera
      (record { heard = g.L.Link.received c.args.link; sent = g.L.Link.sent c.args.link; told = g.C.Clock.told c.args.clock.now; client = c.args.client.now })
      (record {
        heard = g.L.Link.received c.read_memory-back.result.0;
        sent = g.L.Link.sent c.read_memory-back.result.0;
        told = g.C.Clock.told c.read_memory-back.new.clock;
        client = c.read_memory-back.new.client;
      })
      c.args.address 512 c.read_memory-back.result.1 c.requires.idle c.read_memory-back.ensures.reads (sym c.end_by.ensures ∙ c.in-None.is);
  is =
      sym (c.location_in.ensures.value
      ∙ ap location_in (c.memory_in.ensures ∙ (ap (λ (k : ℕ). memory_in k c.body.result.now) c.from.ensures ∙ ap (memory_in 512) c.body.ensures)));
}
