use Rattle.std.proofs.Common.{sym, subst}
use Rattle.soak_receiver.specs.Standing.{Hosting, HostStands}
use Rattle.soak_receiver.proofs.Hosts.{stands_heard}
use Rattle.soak_receiver.proofs.receiver.SoakReceiver.hear.Goals as goal

pub returns : goal.returns
returns c lines r was =
    stands_heard _ c.receive_datagram.new.running c.args.bytes.now c.receive_datagram.ensures.moves lines r (subst (λ (h : Hosting). HostStands h lines r) (sym c.self.view_is) was)
