use Rattle.explain_lines.proofs.Requests.{asks_more, no_request_there}
use Rattle.explain_lines.proofs.asking.tape_requests.Goals as goal

pub loop-resend-preserved-in-Continue-branch-2 : goal.loop-resend-preserved-in-Continue-branch-2
loop-resend-preserved-in-Continue-branch-2 c =
    asks_more c.args.standard c.args.out.now.items c.loop-resend.out.items c.write_request.new.out.items c.args.tape.now.items c.loop-resend.tape.items c.tape_asked.new.tape.items c.args.acq.now c.loop-resend.acq c.next_request.new.self
    c.in-Some.resend c.in-Some-next_request.ensures.resend.0 c.in-Some.ensures.request.0 c.in-Some.round c.in-Some-next_request.command c.loop-resend.invariant
    c.in-Some.ensures.request.1 c.in-Some.ensures.round c.in-Some-next_request.ensures.request c.in-Some-next_request.ensures.resend.1 c.next_request.ensures.fills c.next_request.ensures.rest c.in_ok-tape_asked.ensures c.in_ok-write_request-in-Some-next_request.ensures

pub loop-resend-preserved : goal.loop-resend-preserved
loop-resend-preserved c = no_request_there c.loop-resend.acq c.in-Some.resend c.in-Some.ensures.request.0 c.in-Some.ensures.request.1 c.in-None.ensures.request.0
