use Rattle.gvsp_wire.specs.View.{view}
use Rattle.acq_core.proofs.Listening.{is_open, not_open}
use Rattle.acq_core.proofs.hearing.hear_packet.Goals as goal

pub returns-in-Some-clause-answers : goal.returns-in-Some-clause-answers
returns-in-Some-clause-answers c s acts sound =
    is_open c.args.window.now c.hear_open.new.window s (view c.args.packet.now) c.head.result c.as_slice.result.now c.in-Some.at c.hear_open.result
    acts sound c.head.ensures c.as_slice.ensures.value c.in-Some.ensures (λ o found. c.hear_open.ensures.answers s o acts sound found)

pub returns-in-None-clause-answers : goal.returns-in-None-clause-answers
returns-in-None-clause-answers c s acts sound =
    not_open c.args.window.now c.hear_new.new.window s (view c.args.packet.now) c.head.result c.as_slice.result.now c.hear_new.result
    acts c.head.ensures c.as_slice.ensures.value c.in-None.ensures (c.hear_new.ensures.answers s acts)
