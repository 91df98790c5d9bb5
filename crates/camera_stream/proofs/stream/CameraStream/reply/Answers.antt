use Rattle.camera_stream.proofs.Calls.{queued_is, queued_kept}
use Rattle.camera_stream.proofs.stream.CameraStream.reply.Goals as goal

pub invariant_of-self : goal.invariant_of-self
invariant_of-self c =
    rw (c.push_reply.ensures, c.queued.ensures, c.reply-reply.ensures)
    (queued_kept c.self.inside.store c.self.inside.frame c.self.inside.replies.items c.args.resend c.self.invariant)

pub returns : goal.returns
returns c =
    rw (c.push_reply.ensures, c.queued.ensures, c.reply-reply.ensures)
    (queued_is c.args.self.now c.self.inside.store c.self.inside.frame c.self.inside.replies.items c.args.resend c.self.view_is)
