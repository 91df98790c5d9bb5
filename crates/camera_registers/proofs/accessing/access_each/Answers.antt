-- One access after the other.
use Rattle.std.proofs.Common.{[], refl, ◌∙◌}
use Rattle.gev_control.specs.CarriesOut.{ControlSide}
use Rattle.camera_description.proofs.Pieces.{wrote_none}
use Rattle.camera_registers.specs.Registers.{nothing_yet}
use Rattle.camera_registers.proofs.Made.{made_more, halts_at}
use Rattle.camera_registers.proofs.accessing.access_each.Goals as goal

pub loop-place-init : goal.loop-place-init
loop-place-init g c = record {
  text = [];
  so = nothing_yet;
  idle = c.requires;
  wrote = wrote_none (g.K.Sink.written c.args.sink.now);
  link_faults = refl;
  sink_faults = refl;
}

pub loop-place-preserved : goal.loop-place-preserved
loop-place-preserved g c =
    let o : ControlSide = record { heard = g.L.Link.received c.args.link.now; sent = g.L.Link.sent c.args.link.now; told = g.C.Clock.told c.args.clock.now; client = c.args.client.now } in
    let m : ControlSide = record { heard = g.L.Link.received c.loop-place.link; sent = g.L.Link.sent c.loop-place.link; told = g.C.Clock.told c.loop-place.clock; client = c.loop-place.client } in
    let n : ControlSide = record { heard = g.L.Link.received c.access_one.new.link; sent = g.L.Link.sent c.access_one.new.link; told = g.C.Clock.told c.access_one.new.clock; client = c.access_one.new.client } in
    let more = made_more c.args.camera o m n c.args.accesses.now c.loop-place.place _ c.loop-place.invariant.text (g.K.Sink.written c.args.sink.now)
    (g.K.Sink.written c.loop-place.sink) (g.K.Sink.written c.access_one.new.sink) c.loop-place-test.true c.loop-place.invariant.so c.loop-place.invariant.wrote
    c.in-Ok.ensures.makes in
    record {
      text = more.0;
      so = more.1.0;
      idle = c.in-Ok.ensures.idle refl;
      wrote = more.1.1;
      link_faults = c.in-Ok.ensures.fails ∙ c.loop-place.invariant.link_faults;
      sink_faults = c.in-Ok.ensures.steady (λ is. let bad : ⊥ = cc in bad) ∙ c.loop-place.invariant.sink_faults;
    }

pub returns-in-Err-clause-makes : goal.returns-in-Err-clause-makes
returns-in-Err-clause-makes g c =
    let o : ControlSide = record { heard = g.L.Link.received c.args.link.now; sent = g.L.Link.sent c.args.link.now; told = g.C.Clock.told c.args.clock.now; client = c.args.client.now } in
    let m : ControlSide = record { heard = g.L.Link.received c.loop-place.link; sent = g.L.Link.sent c.loop-place.link; told = g.C.Clock.told c.loop-place.clock; client = c.loop-place.client } in
    let n : ControlSide = record { heard = g.L.Link.received c.access_one.new.link; sent = g.L.Link.sent c.access_one.new.link; told = g.C.Clock.told c.access_one.new.clock; client = c.access_one.new.client } in
    halts_at c.args.camera o m n c.args.accesses.now c.loop-place.place _ c.loop-place.invariant.text c.in-Err.fault (g.K.Sink.written c.args.sink.now)
    (g.K.Sink.written c.loop-place.sink) (g.K.Sink.written c.access_one.new.sink) c.loop-place-test.true c.loop-place.invariant.so c.loop-place.invariant.wrote
    c.in-Err.ensures.makes
