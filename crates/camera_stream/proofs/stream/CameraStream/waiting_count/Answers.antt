use Rattle.std.proofs.Common.{sym}
use Rattle.camera_stream.proofs.Counts.{count_is}
use Rattle.camera_stream.proofs.stream.CameraStream.waiting_count.Goals as goal

pub returns : goal.returns
returns c =
    rw (← c.self.view_is, c.packet_count.ensures, c.as_slice.ensures.value)
    (sym (count_is c.self.inside.store c.self.inside.frame c.self.inside.replies.items c.self.invariant.frame c.self.invariant.replies))
