use Rattle.std.proofs.Common.{sym, ◌∙◌}
use Rattle.first_leader.specs.Waiting.{time_left, time_spent, control_ended}
use Rattle.first_leader.proofs.waiting.pass_time.Goals as goal

pub returns-then-is_over-clause-passes : goal.returns-then-is_over-clause-passes
returns-then-is_over-clause-passes g c =
    time_spent c.now-moment.result c.now-moment.ensures.told c.in-None.ensures.beats (sym c.is_over.ensures ∙ c.if-is_over.true)

pub returns-in-Some-clause-passes : goal.returns-in-Some-clause-passes
returns-in-Some-clause-passes g c =
    control_ended c.now-moment.result c.in-Some.cause c.now-moment.ensures.told c.in-Some.ensures.beats

pub returns-else-is_over-clause-passes : goal.returns-else-is_over-clause-passes
returns-else-is_over-clause-passes g c =
    time_left c.now-moment.result c.now-moment.ensures.told c.in-None.ensures.beats (sym c.is_over.ensures ∙ c.if-is_over.false) c.next_pace.ensures
