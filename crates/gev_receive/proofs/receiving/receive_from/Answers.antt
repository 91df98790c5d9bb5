use Rattle.std.proofs.Common.{ap, subst, ◌∙◌}
use Rattle.link_filters.specs.Strangers.{CountsStrangers}
use Rattle.gev_receive.proofs.Over.{receives_from}
use Rattle.gev_receive.proofs.receiving.receive_from.Goals as goal

pub returns-clause-receives : goal.returns-clause-receives
returns-clause-receives g c =
    receives_from g.L.Link.received g.L.Link.sent g.L.Link.faults g.C.Clock.told c.args.ways.settings.now c.args.ways.camera c.args.ways.own g.H.Heard.source
    c.args.ends.control c.args.ends.stream c.into_inner.result c.into_inner-2.result
    c.new.result.inner.inner c.new-stream.result.inner c.meet_camera-sides.result.1.host.control.inner.inner c.meet_camera-sides.result.1.host.stream.inner
    c.args.ends.host_clock c.args.ends.app_clock c.meet_camera-sides.result.1.host.clock c.clocks_of-app_clock.result.0 c.with_limit.result c.meet_camera-sides.result.1.host.client
    _ _ _ _ _ _ _ _ c.meet_camera-sides.result.0.status c.finish-status.result c.meet_camera-sides.result.0.counts c.strangers.result c.strangers-2.result c.saturating_add-strangers.result
    (ap (λ x. x.inner) c.new.ensures ∙ c.new-control.ensures.inner) c.new-stream.ensures.inner
    (c.into_inner.ensures ∙ ap (λ x. x.inner) c.into_inner-control.ensures) c.into_inner-2.ensures c.with_limit.ensures.new c.requires.source
    (rw (c.outlet_of-outlet.ensures.clock, ← c.clocks_of-app_clock.ensures) at c.meet_camera-sides.ensures.meets)
    (subst (λ x. CountsStrangers g.H.Heard.source (g.L.Link.received x.inner) c.strangers.result) c.into_inner-control.ensures c.strangers.ensures.counted)
    c.strangers-2.ensures.counted c.saturating_add-strangers.ensures c.finish-status.ensures
