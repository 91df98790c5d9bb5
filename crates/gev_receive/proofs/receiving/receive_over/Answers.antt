use Rattle.std.proofs.Common.{refl, inl}
use Rattle.gev_receive.proofs.Still.{receives_still}
use Rattle.gev_receive.proofs.MeetingLaws.{none_made, seen_same}
use Rattle.gev_receive.proofs.Standing.{receives_stand}
use Rattle.gev_receive.proofs.Over.{receives_over, link_failed, link_steady, write_failed, write_steady}
use Rattle.gev_receive.proofs.receiving.receive_over.Goals as goal

pub returns-in_default-clause-receives : goal.returns-in_default-clause-receives
returns-in_default-clause-receives g c =
    inl (record {
      failed = refl;
      binds = c.in_default.ensures.unbound;
      no_clock = c.bind_ends.ensures.clocks;
      unwritten = refl;
      no_fault = refl;
      no_board = none_made c.args.kept.now c.requires.unkept;
    })

pub returns-clause-receives : goal.returns-clause-receives
returns-clause-receives g c =
    receives_over g.P.L.Link.received g.P.L.Link.sent g.P.L.Link.faults g.P.C.Clock.told c.args.settings.now c.control_peer-camera.result c.in-Ok.own
    (g.P.L.Link.address c.in-Ok.ends.control) c.receive_from-status.result.0 _ _ _ _ _ _ _ _ _ _ _ _ _ _ _ _ c.in-Ok.ends.control c.in-Ok.ends.stream
    c.receive_from-status.result.1.control c.receive_from-status.result.1.stream c.in-Ok.ends.host_clock c.in-Ok.ends.app_clock
    c.receive_from-status.result.1.host_clock c.receive_from-status.result.1.app_clock c.receive_from-status.result.1.input_clock
    c.control_peer-camera.ensures c.in-Ok.ensures.bound c.give_back.ensures.bound c.in-Ok.ensures.links c.give_back.ensures.links
    c.bind_ends.ensures.clocks c.give_back.ensures.clocks c.in-Ok.ensures.control c.in-Ok.ensures.stream c.in-Ok.ensures.host_clock c.in-Ok.ensures.app_clock
    (seen_same c.receive_from-status.new.kept) (receives_still _ _ _ _ _ _ _ _ _ _ _ _ _ _ _ _ _ _ c.receive_from-status.ensures.receives c.tell_drops.ensures.written c.tell_drops.ensures.faults)

pub returns-clause-answers : goal.returns-clause-answers
returns-clause-answers g c =
    (receives_stand _ _ _ _ _ _ _ _ _ _ _ _ _ _ _ c.receive_from-status.result.0 c.receive_from-status.ensures.receives).few

pub returns-clause-link_failed : goal.returns-clause-link_failed
returns-clause-link_failed g c =
    link_failed c.receive_from-status.result.0 _ (g.P.L.Link.faults c.receive_from-status.result.1.stream) _ (g.P.L.Link.faults c.receive_from-status.result.1.control) _ _ _ _ _
    (receives_stand _ _ _ _ _ _ _ _ _ _ _ _ _ _ _ c.receive_from-status.result.0 c.receive_from-status.ensures.receives)
    c.in-Ok.ensures.no_fault c.give_back.ensures.faults

pub returns-clause-link_steady : goal.returns-clause-link_steady
returns-clause-link_steady g c =
    link_steady c.receive_from-status.result.0 _ (g.P.L.Link.faults c.receive_from-status.result.1.stream) _ (g.P.L.Link.faults c.receive_from-status.result.1.control) _ _ _ _ _
    (receives_stand _ _ _ _ _ _ _ _ _ _ _ _ _ _ _ c.receive_from-status.result.0 c.receive_from-status.ensures.receives)
    c.in-Ok.ensures.stream.no_fault c.in-Ok.ensures.control.no_fault c.in-Ok.ensures.no_fault c.give_back.ensures.faults

pub returns-clause-write_failed : goal.returns-clause-write_failed
returns-clause-write_failed g c =
    write_failed c.receive_from-status.result.0 _ _ _ _ _ _
    (receives_stand _ _ _ _ _ _ _ _ _ _ _ _ _ _ _ c.receive_from-status.result.0 (receives_still _ _ _ _ _ _ _ _ _ _ _ _ _ _ _ _ _ _ c.receive_from-status.ensures.receives c.tell_drops.ensures.written c.tell_drops.ensures.faults))

pub returns-clause-write_steady : goal.returns-clause-write_steady
returns-clause-write_steady g c =
    write_steady c.receive_from-status.result.0 _ _ _ _ _ _
    (receives_stand _ _ _ _ _ _ _ _ _ _ _ _ _ _ _ c.receive_from-status.result.0 (receives_still _ _ _ _ _ _ _ _ _ _ _ _ _ _ _ _ _ _ c.receive_from-status.ensures.receives c.tell_drops.ensures.written c.tell_drops.ensures.faults))
