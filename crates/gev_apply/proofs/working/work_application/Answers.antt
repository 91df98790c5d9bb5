use Rattle.std.proofs.Common.{◌∙◌}
use Rattle.live_crew.proofs.Stopped.{comes_back}
use Rattle.gev_apply.specs.Kinds.{is_applications}
use Rattle.gev_apply.proofs.Acts.{application_works}
use Rattle.gev_apply.proofs.working.work_application.Goals as goal

pub returns-clause-works : goal.returns-clause-works
returns-clause-works g c = application_works _ _ _ _ _ _ c.args.pass c.apply-answer.new.pass c.stop_if.new.pass c.is_enough-over.result c.apply-answer.ensures.applies c.stop_if.ensures.stops

pub returns-clause-back : goal.returns-clause-back
returns-clause-back g c =
    comes_back is_applications c.args.pass c.stop_if.new.pass
    (application_works _ _ _ _ _ _ c.args.pass c.apply-answer.new.pass c.stop_if.new.pass c.is_enough-over.result c.apply-answer.ensures.applies c.stop_if.ensures.stops)
    (λ i. (c.stop_if.ensures.hands i).slot ∙ ((c.apply-answer.ensures.hands i).slot ∙ c.requires.hands i))
