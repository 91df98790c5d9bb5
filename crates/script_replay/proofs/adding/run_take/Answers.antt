use Rattle.script_trace.specs.Trace.{caller}
use Rattle.script_trace.specs.BoardLines.{TakeLine}
use Rattle.gev_script.specs.Lines as script_line
use Rattle.script_replay.proofs.Lines.{caller_apart}
use Rattle.script_replay.proofs.Replaying.{under_goes}
use Rattle.script_replay.proofs.adding.run_take.Goals as goal

pub returns : goal.returns
returns c = record {
  goes =
      under_goes script_line.take TakeLine caller c.in_ok-taken.taken c.args.running.now _ c.take.new.board caller_apart c.requires.keeps c.in_ok-taken.ensures.acts c.take.ensures.ready c.take.ensures.lifted
      (λ t part spells. spells) c.saturating_add-running.result c.saturating_add-running.ensures;
}
