use Rattle.std.proofs.Common.{sym, subst}
use Rattle.gev_live.specs.Endings.{IsAnswer}
use Rattle.gev_live.proofs.Statuses.{all_answers}
use Rattle.gev_live.proofs.Telling.{ends_as}
use Rattle.gev_live.proofs.finishing.end_run.Goals as goal

pub finish-status-requires : goal.finish-status-requires
finish-status-requires g c = record {
  an_answer = subst (λ s. IsAnswer s) (sym c.status_by-first.ensures) (all_answers c.args.done.0.end c.args.done.1.end c.args.numbers.frames c.args.numbers.turns c.args.done.2.answer);
}

pub returns-clause-ends : goal.returns-clause-ends
returns-clause-ends g c = ends_as _ _ _ _ _ _ _ _ _ _ _ c.status_by-first.ensures c.taken_of-taken.ensures c.finish-status.ensures.ends
