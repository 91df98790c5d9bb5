use Rattle.gvsp_wire.specs.View.{view}
use Rattle.acq_core.specs.Turning.{with_heard}
use Rattle.acq_core.proofs.Acting.{answers_packet}
use Rattle.acq_core.proofs.hearing.hear_open.Goals as goal

pub returns-clause-answers : goal.returns-clause-answers
returns-clause-answers c s o acts sound found =
    answers_packet c.args.window.now c.tell_at-need.new.window c.answer.new.window s (view c.args.packet.now) o c.tell_at-need.result c.answer.result
    c.tell_at-need.ensures.rest (c.tell_at-need.ensures.need s o acts sound found)
    (c.answer.ensures.answers (with_heard c.args.window.now.config.p (view c.args.packet.now) o s) (c.tell_at-need.ensures.acts s o acts sound found))
