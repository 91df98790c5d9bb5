use Rattle.gev_script.specs.Lines as script_line
use Rattle.script_trace.specs.StepLines.{StepLine}
use Rattle.script_replay.proofs.Stepping.{stepper_apart}
use Rattle.script_replay.proofs.Replaying.{acts_go}
use Rattle.script_replay.proofs.adding.run_step.Goals as goal

pub returns : goal.returns
returns c = record {
  goes =
      acts_go (script_line.step c.args.actor c.args.act c.args.place) (λ t. StepLine t c.args.actor c.args.act c.args.place) c.args.actor c.in_ok-taken.taken c.args.running.now _ c.step.new.board
      (stepper_apart c.args.actor c.requires.range.actor_most) c.requires.keeps c.in_ok-taken.ensures.acts c.step.ensures.ready c.step.ensures.lifted
      (λ t part spells. spells) c.saturating_add-running.result c.saturating_add-running.ensures;
}
