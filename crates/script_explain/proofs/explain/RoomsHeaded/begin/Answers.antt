use Rattle.script_explain.proofs.States.{begins_on}
use Rattle.script_explain.proofs.explain.RoomsHeaded.begin.Goals as goal

pub returns-clause-ran : goal.returns-clause-ran
returns-clause-ran c n = begins_on c.in_ok-script.script c.none_counted-counts.result c.args.line.now n c.in_ok-script.ensures c.none_counted-counts.ensures
