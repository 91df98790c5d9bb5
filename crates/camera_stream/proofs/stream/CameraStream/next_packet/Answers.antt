use Rattle.std.proofs.Common.{ap, ◌∙◌}
use Rattle.camera_stream.specs.Writing.{packet_size}
use Rattle.camera_stream.proofs.Calls.{frame_first, frame_given, reply_first, reply_given, reply_kept}
use Rattle.camera_stream.proofs.stream.CameraStream.next_packet.Goals as goal

-- ---- while packets of a frame wait

pub returns-in-Some-clause-len : goal.returns-in-Some-clause-len
returns-in-Some-clause-len c =
    rw c.first_head.ensures at c.write_held-len.ensures.len
    ∙ ap packet_size (frame_first c.args.self.now c.self.inside.store c.self.inside.frame c.in-Some.span c.self.inside.replies.items c.self.view_is c.in-Some.is c.self.invariant)

pub returns-in-Some-clause-written : goal.returns-in-Some-clause-written
returns-in-Some-clause-written c =
    let first = frame_first c.args.self.now c.self.inside.store c.self.inside.frame c.in-Some.span c.self.inside.replies.items c.self.view_is c.in-Some.is c.self.invariant in
    let written = rw c.first_head.ensures at c.write_held-len.ensures.written in
    rw (← first) written

pub returns-in-Some-clause-given : goal.returns-in-Some-clause-given
returns-in-Some-clause-given c =
    rw c.rest_span-self-inside.ensures
    (frame_given c.args.self.now c.self.inside.store c.self.inside.frame c.in-Some.span c.self.inside.replies.items c.self.view_is c.in-Some.is c.self.invariant)

-- ---- while replies wait

pub invariant_of-self-in-None : goal.invariant_of-self-in-None
invariant_of-self-in-None c =
    rw c.next_reply.ensures.rest (reply_kept c.self.inside.store c.self.inside.frame c.self.inside.replies.items c.self.invariant)

pub returns-in-None-clause-len : goal.returns-in-None-clause-len
returns-in-None-clause-len c =
    c.next_reply.ensures.len
    ∙ ap packet_size (reply_first c.args.self.now c.self.inside.store c.self.inside.frame c.self.inside.replies.items c.self.view_is c.in-None.is c.self.invariant)

pub returns-in-None-clause-written : goal.returns-in-None-clause-written
returns-in-None-clause-written c =
    let first = reply_first c.args.self.now c.self.inside.store c.self.inside.frame c.self.inside.replies.items c.self.view_is c.in-None.is c.self.invariant in
    rw (← first) c.next_reply.ensures.written

pub returns-in-None-clause-given : goal.returns-in-None-clause-given
returns-in-None-clause-given c =
    rw c.next_reply.ensures.rest
    (reply_given c.args.self.now c.self.inside.store c.self.inside.frame c.self.inside.replies.items c.self.view_is c.in-None.is c.self.invariant)
