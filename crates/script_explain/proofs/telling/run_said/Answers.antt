use Rattle.gev_script.specs.Lines.{view}
use Rattle.script_explain.proofs.States.{untold_result}
use Rattle.script_explain.proofs.telling.run_said.Goals as goal

pub returns-then-not-is_fed : goal.returns-then-not-is_fed
returns-then-not-is_fed c =
    untold_result c.later_line.result c.args.line.now (view c.args.says) c.is_fed.result c.args.script.now c.later_line.new.out.items c.args.rooms.now.tape.items c.later_line.new.script
    c.requires.read c.is_fed.ensures c.if-not-is_fed.true c.requires.blank c.later_line.ensures.ran
