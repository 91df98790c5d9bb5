use Rattle.std.proofs.Common.{None, refl, ◌∙◌, arith}
use Rattle.camera_control.specs.Steps.{write_step}
use Rattle.camera_control.proofs.Joining.{none_goes, more_goes, more_halts, all_go}
use Rattle.camera_control.proofs.opening.write_each.Goals as goal

pub loop-place-init : goal.loop-place-init
loop-place-init g c =
    record { so = none_goes c.args.camera (record { heard = g.L.Link.received c.args.control.now; sent = g.L.Link.sent c.args.control.now; told = g.C.Clock.told c.args.clock.now; client = c.args.client.now }); idle = c.requires; faults = refl }

pub write_one-requires : goal.write_one-requires
write_one-requires g c =
    c.loop-place.invariant.idle

pub loop-place-preserved : goal.loop-place-preserved
loop-place-preserved g c =
    record {
      so = more_goes c.args.camera write_step c.args.writes.now c.loop-place.place _ None None (record { heard = g.L.Link.received c.args.control.now; sent = g.L.Link.sent c.args.control.now; told = g.C.Clock.told c.args.clock.now; client = c.args.client.now }) (record { heard = g.L.Link.received c.loop-place.control; sent = g.L.Link.sent c.loop-place.control; told = g.C.Clock.told c.loop-place.clock; client = c.loop-place.client }) (record { heard = g.L.Link.received c.write_one.new.control; sent = g.L.Link.sent c.write_one.new.control; told = g.C.Clock.told c.write_one.new.clock; client = c.write_one.new.client }) c.loop-place-test.true c.loop-place.invariant.so c.in-Ok.ensures.runs;
      idle = c.in-Ok.ensures.idle;
      faults = c.in-Ok.ensures.fails ∙ c.loop-place.invariant.faults;
    }

pub returns-in-Err-clause-runs : goal.returns-in-Err-clause-runs
returns-in-Err-clause-runs g c =
    more_halts c.args.camera write_step c.args.writes.now c.loop-place.place _ None (record { heard = g.L.Link.received c.args.control.now; sent = g.L.Link.sent c.args.control.now; told = g.C.Clock.told c.args.clock.now; client = c.args.client.now }) (record { heard = g.L.Link.received c.loop-place.control; sent = g.L.Link.sent c.loop-place.control; told = g.C.Clock.told c.loop-place.clock; client = c.loop-place.client }) (record { heard = g.L.Link.received c.write_one.new.control; sent = g.L.Link.sent c.write_one.new.control; told = g.C.Clock.told c.write_one.new.clock; client = c.write_one.new.client }) c.in-Err.cause c.loop-place-test.true c.loop-place.invariant.so c.in-Err.ensures.runs

pub returns-clause-runs : goal.returns-clause-runs
returns-clause-runs g c =
    all_go c.args.camera write_step c.args.writes.now c.loop-place.place None (record { heard = g.L.Link.received c.args.control.now; sent = g.L.Link.sent c.args.control.now; told = g.C.Clock.told c.args.clock.now; client = c.args.client.now }) (record { heard = g.L.Link.received c.loop-place.control; sent = g.L.Link.sent c.loop-place.control; told = g.C.Clock.told c.loop-place.clock; client = c.loop-place.client }) (omega (arith, c.loop-place-test.false, c.loop-place.auto.place-end)) c.loop-place.invariant.so
