use Rattle.script_replay.proofs.Standings.{runs_on, keeps_on}
use Rattle.script_replay.proofs.replay.DatagramRoomsHeaded.go_on.Goals as goal

pub returns-clause-ran : goal.returns-clause-ran
returns-clause-ran c = runs_on c.args.script.now c.later_line.new.script c.args.line.now c.later_line.new.out.items c.in_ok-ran.ran c.args._number c.in_ok-ran.ensures.ran

pub returns-clause-kept : goal.returns-clause-kept
returns-clause-kept c = keeps_on c.args.script.now c.later_line.new.script c.args.line.now c.later_line.new.out.items c.in_ok-ran.ran c.in_ok-ran.ensures.ran c.requires.kept
