use Rattle.std.proofs.Common.{ap, rules}
use Rattle.gev_receive.proofs.Leaving.{held_so, held_none}
use Rattle.gev_receive.proofs.meeting.leave_held.Goals as goal

pub returns-then-not-fault-clause-leaves : goal.returns-then-not-fault-clause-leaves
returns-then-not-fault-clause-leaves g c =
    held_none c.args.fault.held c.args.ways.settings.now c.args.ways.camera c.args.fault.end c.ran_untaken-ran.result.status _ _ (search rules) c.ran_untaken-ran.ensures.status

pub returns-clause-leaves : goal.returns-clause-leaves
returns-clause-leaves g c =
    held_so c.args.fault.held c.ran_untaken-ran.result.lost c.args.ways.settings.now c.args.ways.camera c.args.fault.end c.ran_untaken-ran.result.counts.taken c.ran_untaken-ran.result.status c.leave-ran.result _ _ _ _
    (search rules) c.ran_untaken-ran.ensures.lost (ap (λ k. k.taken) c.ran_untaken-ran.ensures.counts) c.ran_untaken-ran.ensures.status c.leave-ran.ensures.leaves
