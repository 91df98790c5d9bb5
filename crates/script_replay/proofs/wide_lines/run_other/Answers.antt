use Rattle.std.proofs.lemmas.Result.{on_ok_weaker}
use Rattle.gev_script.specs.Lines.{view}
use Rattle.script_replay.proofs.Widened.{other_does}
use Rattle.script_replay.proofs.wide_lines.run_other.Goals as goal

pub returns : goal.returns
returns c =
    on_ok_weaker c.run_adding.result
    (λ goes. other_does (view c.args.line) c.args.script.now c.run_adding.new.out.items c.run_adding.new.running c.requires.other goes)
    c.run_adding.ensures
