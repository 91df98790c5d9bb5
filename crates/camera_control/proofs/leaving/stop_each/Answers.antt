use Rattle.std.proofs.Common.{Option, [], take, map, ◌+◌, sym, subst, refl, ◌∙◌, arith}
use Rattle.camera_control.specs.declared.control_end.ControlEnd.{ControlEnd}
use Rattle.camera_control.specs.Steps.{stop_step}
use Rattle.camera_control.specs.Taking.{Goes}
use Rattle.camera_control.proofs.Joining.{none_goes, more_goes, more_halts, all_go}
use Rattle.camera_control.proofs.leaving.stop_each.Goals as goal

pub loop-place-init : goal.loop-place-init
loop-place-init g c =
    record { so = none_goes c.args.camera (record { heard = g.L.Link.received c.args.control.now; sent = g.L.Link.sent c.args.control.now; told = g.C.Clock.told c.args.clock.now; client = c.args.client.now }); idle = c.requires; faults = refl }

pub stop_one-requires : goal.stop_one-requires
stop_one-requires g c =
    c.loop-place.invariant.idle

pub loop-place-preserved : goal.loop-place-preserved
loop-place-preserved g c =
    record {
      so = subst (λ (p : Option ControlEnd). Goes c.args.camera (map stop_step (take (c.loop-place.place + 1) c.args.stops.now)) [] p (record { heard = g.L.Link.received c.args.control.now; sent = g.L.Link.sent c.args.control.now; told = g.C.Clock.told c.args.clock.now; client = c.args.client.now }) (record { heard = g.L.Link.received c.stop_one.new.control; sent = g.L.Link.sent c.stop_one.new.control; told = g.C.Clock.told c.stop_one.new.clock; client = c.stop_one.new.client })) (sym c.earlier-refused.ensures)
          (more_goes c.args.camera stop_step c.args.stops.now c.loop-place.place _ c.loop-place.refused c.in-Ok.refusal (record { heard = g.L.Link.received c.args.control.now; sent = g.L.Link.sent c.args.control.now; told = g.C.Clock.told c.args.clock.now; client = c.args.client.now }) (record { heard = g.L.Link.received c.loop-place.control; sent = g.L.Link.sent c.loop-place.control; told = g.C.Clock.told c.loop-place.clock; client = c.loop-place.client }) (record { heard = g.L.Link.received c.stop_one.new.control; sent = g.L.Link.sent c.stop_one.new.control; told = g.C.Clock.told c.stop_one.new.clock; client = c.stop_one.new.client }) c.loop-place-test.true c.loop-place.invariant.so c.in-Ok.ensures.runs);
      idle = c.in-Ok.ensures.idle;
      faults = c.in-Ok.ensures.fails ∙ c.loop-place.invariant.faults;
    }

pub returns-in-Err-clause-runs : goal.returns-in-Err-clause-runs
returns-in-Err-clause-runs g c =
    more_halts c.args.camera stop_step c.args.stops.now c.loop-place.place _ c.loop-place.refused (record { heard = g.L.Link.received c.args.control.now; sent = g.L.Link.sent c.args.control.now; told = g.C.Clock.told c.args.clock.now; client = c.args.client.now }) (record { heard = g.L.Link.received c.loop-place.control; sent = g.L.Link.sent c.loop-place.control; told = g.C.Clock.told c.loop-place.clock; client = c.loop-place.client }) (record { heard = g.L.Link.received c.stop_one.new.control; sent = g.L.Link.sent c.stop_one.new.control; told = g.C.Clock.told c.stop_one.new.clock; client = c.stop_one.new.client }) c.in-Err.cause c.loop-place-test.true c.loop-place.invariant.so c.in-Err.ensures.runs

pub returns-clause-runs : goal.returns-clause-runs
returns-clause-runs g c =
    all_go c.args.camera stop_step c.args.stops.now c.loop-place.place c.loop-place.refused (record { heard = g.L.Link.received c.args.control.now; sent = g.L.Link.sent c.args.control.now; told = g.C.Clock.told c.args.clock.now; client = c.args.client.now }) (record { heard = g.L.Link.received c.loop-place.control; sent = g.L.Link.sent c.loop-place.control; told = g.C.Clock.told c.loop-place.clock; client = c.loop-place.client }) (omega (arith, c.loop-place-test.false, c.loop-place.auto.place-end)) c.loop-place.invariant.so
