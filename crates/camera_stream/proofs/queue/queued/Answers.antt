-- A notice names the first packet that was asked for.
use Rattle.std.proofs.Common.{ap, sym}
use Rattle.resend_store.specs.declared.reply.Reply.{Reply}
use Rattle.camera_stream.specs.Queue.{queued}
use Rattle.camera_stream.proofs.queue.queued.Goals as goal

pub returns-in-Notice : goal.returns-in-Notice
returns-in-Notice c = ap (λ (reply : Reply). queued c.args.resend reply) (sym c.in-Notice.is)
