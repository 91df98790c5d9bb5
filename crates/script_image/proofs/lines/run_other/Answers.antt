use Rattle.std.proofs.Common.{subst}
use Rattle.gev_script.specs.Lines.{view}
use Rattle.script_replay.specs.Replays.{RanAs}
use Rattle.script_image.proofs.Passing.{other_went}
use Rattle.script_image.proofs.lines.run_other.Goals as goal

pub returns-in-GoesOn : goal.returns-in-GoesOn
returns-in-GoesOn c =
    other_went (view c.args.says) c.args.script.now c.run_said.new.script c.run_said.new.out.items c.requires.other
    (subst (λ r. RanAs r (view c.args.says) c.args.script.now c.run_said.new.out.items c.run_said.new.script) c.in-GoesOn.is c.in_ok-run_said.ensures.ran)
