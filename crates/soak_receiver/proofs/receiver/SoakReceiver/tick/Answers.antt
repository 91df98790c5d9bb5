use Rattle.std.proofs.Common.{sym, subst}
use Rattle.soak_receiver.specs.Standing.{Hosting, HostStands}
use Rattle.soak_receiver.proofs.Hosts.{stands_told, requests_are}
use Rattle.soak_receiver.proofs.receiver.SoakReceiver.tick.Goals as goal

pub returns-clause-stands : goal.returns-clause-stands
returns-clause-stands c lines r was =
    stands_told _ c.tell_moment.new.running c.args.moment c.tell_moment.ensures.moves lines r (subst (λ (h : Hosting). HostStands h lines r) (sym c.self.view_is) was)

pub returns-clause-requests : goal.returns-clause-requests
returns-clause-requests c lines r was =
    requests_are c.tell_moment.result _ c.args.moment c.args.requests.now.items c.tell_moment.new.requests.items c.tell_moment.ensures.requests lines r (subst (λ (h : Hosting). HostStands h lines r) (sym c.self.view_is) was)
