use Rattle.script_explain.proofs.States.{explains_on, keeps_on}
use Rattle.script_explain.proofs.explain.RoomsHeaded.go_on.Goals as goal

pub returns-in-Ok-clause-ran : goal.returns-in-Ok-clause-ran
returns-in-Ok-clause-ran c =
    explains_on c.args.explained.now c.write_line.new.explained c.run_later.new.script c.in_ok-ran.ran c.args.number c.args.line.now c.run_later.new.rooms.report.items c.run_later.new.rooms.tape.items c.write_line.new.out.items
    c.in_ok-ran.ensures c.in-Ok.ensures

pub returns-in-Ok-clause-kept : goal.returns-in-Ok-clause-kept
returns-in-Ok-clause-kept c =
    keeps_on c.args.explained.now c.write_line.new.explained c.run_later.new.script c.in_ok-ran.ran c.args.number c.args.line.now c.run_later.new.rooms.report.items c.run_later.new.rooms.tape.items c.write_line.new.out.items
    c.in_ok-ran.ensures c.in-Ok.ensures c.requires.kept
