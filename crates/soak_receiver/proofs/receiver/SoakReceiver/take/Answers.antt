use Rattle.std.proofs.Common.{refl, sym, ap, subst, ◌∙◌, true, false}
use Rattle.std.specs.Prelude.{Some}
use Rattle.soak_receiver.specs.Standing.{Hosting, HostStands}
use Rattle.soak_receiver.proofs.Hosts.{stands_empty, stands_taken}
use Rattle.soak_receiver.proofs.receiver.SoakReceiver.take.Goals as goal

pub returns-in-None-clause-takes : goal.returns-in-None-clause-takes
returns-in-None-clause-takes c lines r was =
    stands_empty c.in_ok-take_and_queue.field-0 _ c.take_and_queue.new.running c.args.out.now.items c.take_and_queue.new.out.items c.in_ok-take_and_queue.ensures.takes c.in-None.is
    lines r (subst (λ (h : Hosting). HostStands h lines r) (sym c.self.view_is) was)

pub returns-then-complete-clause-takes : goal.returns-then-complete-clause-takes
returns-then-complete-clause-takes c lines r was =
    stands_taken c.in_ok-take_and_queue.field-0 true _ _ c.args.out.now.items c.take_and_queue.new.out.items c.in_ok-take_and_queue.ensures.takes (c.in-Some.is ∙ ap (λ complete. Some complete) c.if-complete.true)
    (record { taken = c.saturating_add-self-inside.ensures; complete_is = c.saturating_add-self-inside-then-complete.ensures; incomplete_is = refl })
    lines r (subst (λ (h : Hosting). HostStands h lines r) (sym c.self.view_is) was)

pub returns-else-complete-clause-takes : goal.returns-else-complete-clause-takes
returns-else-complete-clause-takes c lines r was =
    stands_taken c.in_ok-take_and_queue.field-0 false _ _ c.args.out.now.items c.take_and_queue.new.out.items c.in_ok-take_and_queue.ensures.takes (c.in-Some.is ∙ ap (λ complete. Some complete) c.if-complete.false)
    (record { taken = c.saturating_add-self-inside.ensures; complete_is = refl; incomplete_is = c.saturating_add-self-inside-else-complete.ensures })
    lines r (subst (λ (h : Hosting). HostStands h lines r) (sym c.self.view_is) was)
