use Rattle.acq_core.proofs.Listening.{answer_done}
use Rattle.acq_core.proofs.hearing.answer.Goals as goal

pub returns-in-Done-clause-answers : goal.returns-in-Done-clause-answers
returns-in-Done-clause-answers c s acts =
    answer_done c.args.window.now c.settle.new.window s c.args.need c.in-Done.is acts (c.settle.ensures.retires s.opens acts.slots) c.settle.ensures.changes
