use Rattle.std.proofs.Common.{ap, List, rules, ◌∙◌}
use Rattle.camera_words.specs.declared.register_write.RegisterWrite.{RegisterWrite as Wish}
use Rattle.camera_words.specs.declared.register_write.Stage.TheVariants.{Stop}
use Rattle.gev_receive.specs.Starting.{writes_at}
use Rattle.gev_receive.proofs.Leaving.{leaves_so, leaves_none}
use Rattle.gev_receive.proofs.meeting.leave.Goals as goal

pub returns-then-ran-clause-leaves : goal.returns-then-ran-clause-leaves
returns-then-ran-clause-leaves g c =
    leaves_none c.args.ran.lost c.args.ways.settings.now c.args.ways.camera c.args.heartbeat c.args.ran.counts.taken c.args.ran.status _ _ (search rules)

pub returns-clause-leaves : goal.returns-clause-leaves
returns-clause-leaves g c =
    leaves_so c.args.ran.lost c.args.ways.settings.now c.args.ways.camera c.args.heartbeat c.args.ran.counts.taken c.args.ran.status _ _ _ _ _ _ _ _ _ _ _ _ _ _ _ c.let_go-left.result
    (search rules) c.set_waiting.ensures.received c.set_waiting.ensures.sent (c.as_slice-2.ensures.value ∙ (c.writes_at-stops.ensures ∙ ap (λ (l : List Wish). writes_at Stop l) c.as_slice.ensures.value))
    c.set_waiting.ensures.faults c.let_go-left.ensures.leaves c.let_go-left.ensures.fails (search rules)
