use Rattle.script_replay.proofs.Standings.{begins_on}
use Rattle.script_replay.proofs.replay.DatagramRoomsHeaded.begin.Goals as goal

pub returns-clause-ran : goal.returns-clause-ran
returns-clause-ran c = λ n. begins_on c.in_ok-first_line.field-0 c.args.line.now n c.in_ok-first_line.ensures
