-- Where no datagram came the camera was heard when it was heard before.
use Rattle.std.proofs.Common.{ℕ, Bool, sym, ap}
use Rattle.std.specs.Prelude.{if◌then◌else◌}
use Rattle.camera_reader.proofs.listening.last_heard.Goals as goal

pub returns-else-datagram : goal.returns-else-datagram
returns-else-datagram c = sym (ap (λ (b : Bool). let heard : ℕ = if b then c.args.moment else c.args.listening.heard in heard) c.if-datagram.false)
