use Rattle.std.proofs.Common.{ℕ, ap, subst, ◌∙◌}
use Rattle.gev_report.specs.StepLine.{step_line}
use Rattle.script_trace.specs.StepLines.{StepBy}
use Rattle.script_replay.specs.Boards.{Acts}
use Rattle.script_replay.proofs.Lent.{begun_empty}
use Rattle.script_replay.proofs.step_line.step.Goals as goal

pub returns-clause-acts : goal.returns-clause-acts
returns-clause-acts c =
    subst (λ (place : ℕ). Acts (λ t. StepBy t c.args.actor c.args.act place) c.args.actor c.make_step-text.result.1 c.args.board.now c.line_step.new.out.items c.make_step-text.new.board) c.unwrap_or.ensures
    (c.make_step-text.ensures.acts _ (begun_empty _ _ _ c.in_ok-line_step.ensures.line c.requires.empty ∙ ap (λ w. step_line c.args.actor w c.make_step-text.result.0) c.word_of.ensures))
