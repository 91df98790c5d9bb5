use Rattle.acq_core.proofs.Wanting.{wants_answers}
use Rattle.acq_core.proofs.hearing.want.Goals as goal

pub returns-clause-answers : goal.returns-clause-answers
returns-clause-answers c s acts =
    wants_answers c.args.window.now c.make_room.new.window s c.args.block acts (c.make_room.ensures.retires s acts) c.make_room.ensures.changes
