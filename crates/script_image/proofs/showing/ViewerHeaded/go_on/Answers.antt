use Rattle.script_image.proofs.Stepping.{later_as, later_keeps}
use Rattle.script_image.proofs.showing.ViewerHeaded.go_on.Goals as goal

pub returns-clause-ran : goal.returns-clause-ran
returns-clause-ran c = later_as c.in_ok-came.came c.args.script.now c.run_later.new.script c.args.line.now c.in_ok-came.ensures

pub returns-clause-kept : goal.returns-clause-kept
returns-clause-kept c = later_keeps c.in_ok-came.came c.args.script.now c.run_later.new.script c.args.line.now c.in_ok-came.ensures c.requires.kept
