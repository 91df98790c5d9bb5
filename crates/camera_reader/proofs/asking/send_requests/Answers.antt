-- One more request is taken out, and sent where nothing has failed.
use Rattle.camera_reader.proofs.Sendings.{sending_begins, sending_goes_on}
use Rattle.camera_reader.proofs.asking.send_requests.Goals as goal

pub requests-init : goal.requests-init
requests-init g c =
    sending_begins c.args.camera c.args.ids c.args.failed (g.M.Link.sent c.args.control.now) (g.M.Link.received c.args.control.now) (g.M.Link.faults c.args.control.now)
    c.args.acq.now

pub requests-preserved : goal.requests-preserved
requests-preserved g c =
    sending_goes_on c.args.camera c.args.ids c.args.failed (g.M.Link.sent c.args.control.now) (g.M.Link.received c.args.control.now) (g.M.Link.faults c.args.control.now)
    c.args.acq.now c.requests.failed c.send_control_request-failed.result (g.M.Link.sent c.requests.control) (g.M.Link.sent c.send_control_request-failed.new.control)
    (g.M.Link.received c.requests.control) (g.M.Link.received c.send_control_request-failed.new.control) (g.M.Link.faults c.requests.control)
    (g.M.Link.faults c.send_control_request-failed.new.control) c.requests.acq c.next_request.new.self c.in-Some.bytes c.requests.invariant
    c.in-Some.ensures.request c.next_request.ensures.fills c.next_request.ensures.rest c.send_control_request-failed.ensures.sends
    c.send_control_request-failed.ensures.fails c.send_control_request-failed.ensures.received
