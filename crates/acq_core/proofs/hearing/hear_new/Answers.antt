use Rattle.std.proofs.Common.{sym, ◌∙◌}
use Rattle.gvsp_wire.specs.View.{view}
use Rattle.acq_core.proofs.Listening.{new_notice, new_misfit, new_wants}
use Rattle.acq_core.proofs.hearing.hear_new.Goals as goal

pub returns-then-is_notice-clause-answers : goal.returns-then-is_notice-clause-answers
returns-then-is_notice-clause-answers c s acts =
    new_notice c.args.window.now c.ignore.new.window s (view c.args.packet.now) c.ignore.result
    (sym c.is_notice.ensures ∙ c.if-is_notice.true) (c.ignore.ensures.answers s acts)

pub returns-then-not-does_fit-clause-answers : goal.returns-then-not-does_fit-clause-answers
returns-then-not-does_fit-clause-answers c s acts =
    new_misfit c.args.window.now c.ignore-then-not-does_fit.new.window s (view c.args.packet.now) c.ignore-then-not-does_fit.result
    (sym c.is_notice.ensures ∙ c.if-is_notice.false) (sym c.does_fit.ensures ∙ c.if-not-does_fit.true) (c.ignore-then-not-does_fit.ensures.answers s acts)

pub returns-clause-answers : goal.returns-clause-answers
returns-clause-answers c s acts =
    new_wants c.args.window.now c.want.new.window s (view c.args.packet.now) c.head.result c.want.result
    (sym c.is_notice.ensures ∙ c.if-is_notice.false) (sym c.does_fit.ensures ∙ c.if-not-does_fit.false) c.head.ensures (c.want.ensures.answers s acts)
