-- One piece after the other is read and written.
use Rattle.std.proofs.Common.{ℕ, ◌+◌, ◌-◌, false, [], ◌++◌, refl, sym, ap, subst, ◌∙◌, arith}
use Rattle.gev_links.specs.Told.{Appends, WritesPart}
use Rattle.gev_control.specs.Sends.{Fails}
use Rattle.gev_control.specs.CarriesOut.{ControlSide}
use Rattle.camera_description.specs.Memory.{memory_in, Reads}
use Rattle.camera_description.specs.Describing.{HasCopied, nothing_yet, is_fault}
use Rattle.camera_description.proofs.Pieces.{copied_more, read_by, no_fault_by, fails_by, wrote_none, wrote_then, copies_whole, copies_unread, copies_unwritten}
use Rattle.camera_description.proofs.copying.copy.Goals as goal

pub loop-place-init : goal.loop-place-init
loop-place-init g c = record {
  text = [];
  so = nothing_yet;
  idle = c.requires.idle;
  few = omega arith;
  wrote = wrote_none (g.K.Sink.written c.args.sink.now);
  link_faults = refl;
  sink_faults = refl;
}

pub overflow_add-location : goal.overflow_add-location
overflow_add-location g c = omega (arith, c.requires.within, c.loop-place-test.true)

pub loop-place-preserved : goal.loop-place-preserved
loop-place-preserved g c =
    let o : ControlSide = record {
      heard = g.L.Link.received c.args.given;
      sent = g.L.Link.sent c.args.given;
      told = g.C.Clock.told c.args.clock.now;
      client = c.args.client.now;
    } in
    let m : ControlSide = record {
      heard = g.L.Link.received c.loop-place.link;
      sent = g.L.Link.sent c.loop-place.link;
      told = g.C.Clock.told c.loop-place.clock;
      client = c.loop-place.client;
    } in
    let n : ControlSide = record {
      heard = g.L.Link.received c.read_memory-back.result.0;
      sent = g.L.Link.sent c.read_memory-back.result.0;
      told = g.C.Clock.told c.read_memory-back.new.clock;
      client = c.read_memory-back.new.client;
    } in
    let stopped = sym c.end_by.ensures ∙ c.in_default.is in
    let reads = subst (λ (k : ℕ). Reads c.args.camera m (c.args.location.address + c.loop-place.place) k n c.read_memory-back.result.1) c.asked_count.ensures c.read_memory-back.ensures.reads in
    let bytes = c.memory_in.ensures ∙ ap (memory_in c.min-count.result) c.body.ensures in
    record {
      text = c.loop-place.invariant.text ++ memory_in c.min-count.result c.read_memory-back.new.client.body;
      so =
          subst (λ (k : ℕ). HasCopied c.args.camera c.args.location o (c.loop-place.place + k) n (c.loop-place.invariant.text ++ memory_in k c.read_memory-back.new.client.body))
          (sym c.min-count.ensures)
          (copied_more c.args.camera c.args.location o m n c.loop-place.place c.loop-place.invariant.text c.read_memory-back.result.1 c.loop-place.invariant.so
          c.loop-place-test.true c.loop-place.invariant.idle reads stopped);
      idle =
          (read_by c.args.camera m n (c.args.location.address + c.loop-place.place) _ c.read_memory-back.result.1 c.loop-place.invariant.idle
          c.read_memory-back.ensures.reads stopped).idle;
      few = omega (arith, c.min-count.ensures, c.loop-place-test.true);
      wrote =
          wrote_then (g.K.Sink.written c.args.sink.now) (g.K.Sink.written c.loop-place.sink) (g.K.Sink.written c.write_all.new.sink) c.loop-place.invariant.text
          (memory_in c.min-count.result c.read_memory-back.new.client.body) c.loop-place.invariant.wrote
          (subst (Appends (g.K.Sink.written c.loop-place.sink) (g.K.Sink.written c.write_all.new.sink)) bytes c.in-Ok.ensures.written);
      link_faults =
          no_fault_by c.read_memory-back.result.1 (g.L.Link.faults c.loop-place.link) (g.L.Link.faults c.read_memory-back.result.0) stopped
          c.read_memory-back.ensures.fails
          ∙ c.loop-place.invariant.link_faults;
      sink_faults = c.in-Ok.ensures.no_fault ∙ c.loop-place.invariant.sink_faults;
    }

pub returns-clause-copies : goal.returns-clause-copies
returns-clause-copies g c =
    let o : ControlSide = record {
      heard = g.L.Link.received c.args.given;
      sent = g.L.Link.sent c.args.given;
      told = g.C.Clock.told c.args.clock.now;
      client = c.args.client.now;
    } in
    let m : ControlSide = record {
      heard = g.L.Link.received c.loop-place.link;
      sent = g.L.Link.sent c.loop-place.link;
      told = g.C.Clock.told c.loop-place.clock;
      client = c.loop-place.client;
    } in
    copies_whole c.args.camera c.args.location o m c.loop-place.place c.loop-place.invariant.text (g.K.Sink.written c.args.sink.now)
    (g.K.Sink.written c.loop-place.sink) c.loop-place.invariant.so c.loop-place.invariant.few (omega (arith, c.loop-place-test.false)) c.loop-place.invariant.wrote

pub returns-in-Some-clause-copies : goal.returns-in-Some-clause-copies
returns-in-Some-clause-copies g c =
    let o : ControlSide = record {
      heard = g.L.Link.received c.args.given;
      sent = g.L.Link.sent c.args.given;
      told = g.C.Clock.told c.args.clock.now;
      client = c.args.client.now;
    } in
    let m : ControlSide = record {
      heard = g.L.Link.received c.loop-place.link;
      sent = g.L.Link.sent c.loop-place.link;
      told = g.C.Clock.told c.loop-place.clock;
      client = c.loop-place.client;
    } in
    let n : ControlSide = record {
      heard = g.L.Link.received c.read_memory-back.result.0;
      sent = g.L.Link.sent c.read_memory-back.result.0;
      told = g.C.Clock.told c.read_memory-back.new.clock;
      client = c.read_memory-back.new.client;
    } in
    let reads = subst (λ (k : ℕ). Reads c.args.camera m (c.args.location.address + c.loop-place.place) k n c.read_memory-back.result.1) c.asked_count.ensures c.read_memory-back.ensures.reads in
    copies_unread c.args.camera c.args.location o m n c.loop-place.place c.loop-place.invariant.text c.read_memory-back.result.1 c.in-Some.failure
    (g.K.Sink.written c.args.sink.now) (g.K.Sink.written c.loop-place.sink) c.loop-place.invariant.so c.loop-place-test.true reads
    (sym c.end_by.ensures ∙ c.in-Some.is) c.loop-place.invariant.wrote

pub returns-in_default-write_all-clause-copies : goal.returns-in_default-write_all-clause-copies
returns-in_default-write_all-clause-copies g c =
    let o : ControlSide = record {
      heard = g.L.Link.received c.args.given;
      sent = g.L.Link.sent c.args.given;
      told = g.C.Clock.told c.args.clock.now;
      client = c.args.client.now;
    } in
    let m : ControlSide = record {
      heard = g.L.Link.received c.loop-place.link;
      sent = g.L.Link.sent c.loop-place.link;
      told = g.C.Clock.told c.loop-place.clock;
      client = c.loop-place.client;
    } in
    let n : ControlSide = record {
      heard = g.L.Link.received c.read_memory-back.result.0;
      sent = g.L.Link.sent c.read_memory-back.result.0;
      told = g.C.Clock.told c.read_memory-back.new.clock;
      client = c.read_memory-back.new.client;
    } in
    let reads = subst (λ (k : ℕ). Reads c.args.camera m (c.args.location.address + c.loop-place.place) k n c.read_memory-back.result.1) c.asked_count.ensures c.read_memory-back.ensures.reads in
    let bytes = c.memory_in.ensures ∙ (ap (memory_in c.min-count.result) c.body.ensures ∙ ap (λ (k : ℕ). memory_in k c.read_memory-back.new.client.body) c.min-count.ensures) in
    copies_unwritten c.args.camera c.args.location o m n c.loop-place.place c.loop-place.invariant.text c.read_memory-back.result.1
    (g.K.Sink.written c.args.sink.now) (g.K.Sink.written c.loop-place.sink) (g.K.Sink.written c.write_all.new.sink) c.loop-place.invariant.so c.loop-place-test.true
    c.loop-place.invariant.idle reads (sym c.end_by.ensures ∙ c.in_default.is) c.loop-place.invariant.wrote
    (subst (WritesPart (g.K.Sink.written c.loop-place.sink) (g.K.Sink.written c.write_all.new.sink)) bytes c.in_default-write_all.ensures.unfinished)

pub returns-in-Some-clause-fails : goal.returns-in-Some-clause-fails
returns-in-Some-clause-fails g c =
    subst (λ (x : ℕ). Fails false (is_fault c.in-Some.failure) x (g.L.Link.faults c.read_memory-back.result.0)) c.loop-place.invariant.link_faults
    (fails_by c.args.camera
    (record {
      heard = g.L.Link.received c.loop-place.link;
      sent = g.L.Link.sent c.loop-place.link;
      told = g.C.Clock.told c.loop-place.clock;
      client = c.loop-place.client;
    })
    (record {
      heard = g.L.Link.received c.read_memory-back.result.0;
      sent = g.L.Link.sent c.read_memory-back.result.0;
      told = g.C.Clock.told c.read_memory-back.new.clock;
      client = c.read_memory-back.new.client;
    })
    (c.args.location.address + c.loop-place.place) c.asked_count.result c.read_memory-back.result.1 c.in-Some.failure (g.L.Link.faults c.loop-place.link)
    (g.L.Link.faults c.read_memory-back.result.0) c.read_memory-back.ensures.reads (sym c.end_by.ensures ∙ c.in-Some.is) c.read_memory-back.ensures.fails)
