use Rattle.std.proofs.Common.{◌∙◌}
use Rattle.gev_receive.proofs.Bound.{stream_unbound}
use Rattle.gev_receive.proofs.tools.bind_links.Goals as goal

pub returns-in-Err-bind_towards-clause-unbound : goal.returns-in-Err-bind_towards-clause-unbound
returns-in-Err-bind_towards-clause-unbound g c =
    stream_unbound g.P.L.Link.received g.P.L.Link.sent g.P.L.Link.faults (g.P.Ports.bound c.args.ports.now) _ _ (g.P.Ports.links c.args.ports.now) _ _ _ _ c.in-Ok.control
    c.in-Ok.ensures.bound (c.unbind.ensures.bound ∙ c.in-Err-bind_towards.ensures.unbound)
    (record { unheard = c.in-Ok.ensures.unheard; unsent = c.in-Ok.ensures.unsent; no_fault = c.in-Ok.ensures.no_fault_of_it })
    c.in-Ok.ensures.links c.in-Err-bind_towards.ensures.links c.unbind.ensures.links
