use Rattle.std.proofs.Common.{◌≡◌, ◌+◌, arith}
use Rattle.resend_store.proofs.Shelves.{shelf_pushed}
use Rattle.resend_store.proofs.store.Store.push.Goals as goal

pub invariant_of-self : goal.invariant_of-self
invariant_of-self c =
    let next : c.args.frame.block ≡ c.self.inside.count + 1 = rw (← c.self.view_is) at c.requires.next in
    let kept = shelf_pushed c.self.inside.room c.self.inside.count c.self.inside.frames.items (record { frame = c.args.frame; payload_size = c.args.payload_size }) c.self.invariant.0
    (record { valid = c.requires.valid; at_least = c.requires.at_least; at_most = c.requires.at_most }) next in
    (rw (next, c.push_reserved.ensures.items, c.take_oldest-fallen.ensures.rest, c.from.ensures) kept, omega (arith, c.self.invariant.1))
