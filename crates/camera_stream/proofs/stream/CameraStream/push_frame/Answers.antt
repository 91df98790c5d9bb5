use Rattle.std.proofs.Common.{◌≡◌, ◌+◌}
use Rattle.camera_stream.proofs.Calls.{pushed_kept, pushed_is, idle_replies}
use Rattle.camera_stream.proofs.stream.CameraStream.push_frame.Goals as goal

pub invariant_of-self : goal.invariant_of-self
invariant_of-self c =
    let next : c.args.sent.frame.block ≡ c.self.inside.store.count + 1 = rw (← c.self.view_is) at c.requires.next in
    let none = idle_replies c.args.self.now c.self.inside.store c.self.inside.frame c.self.inside.replies.items c.self.view_is c.requires.idle in
    rw (c.push.ensures.pushed, c.trailer_id.ensures, none) (pushed_kept c.self.inside.store c.args.sent c.self.invariant.some next)

pub returns-clause-pushed : goal.returns-clause-pushed
returns-clause-pushed c =
    let next : c.args.sent.frame.block ≡ c.self.inside.store.count + 1 = rw (← c.self.view_is) at c.requires.next in
    let none = idle_replies c.args.self.now c.self.inside.store c.self.inside.frame c.self.inside.replies.items c.self.view_is c.requires.idle in
    rw (c.push.ensures.pushed, c.trailer_id.ensures, none)
    (pushed_is c.args.self.now c.self.inside.store c.self.inside.frame c.self.inside.replies.items c.args.sent c.self.view_is c.self.invariant.some next c.requires.idle)
