use Rattle.std.proofs.Common.{sym, ap, codes, ◌∙◌}
use Rattle.std.proofs.lemmas.Result.{on_ok_weaker}
use Rattle.gentl_types.specs.declared.errors.GcError.TheVariants.{ResourceInUse}
use Rattle.gentl_types.specs.declared.errors.Shown.{Shown}
use Rattle.script_trace.specs.Answers.{refused_text}
use Rattle.script_replay.proofs.Replaying.{mode_goes, no_mode_goes}
use Rattle.script_replay.proofs.adding.run_mode.Goals as goal

pub returns-then-run-eq1 : goal.returns-then-run-eq1
returns-then-run-eq1 c = record {
  goes =
      on_ok_weaker c.line_refused.result
      (λ said. no_mode_goes c.args.number c.run-run.result c.args.running.now c.line_refused.new.out.items c.requires.keeps (sym c.run-run.ensures ∙ c.if-run-eq1.true)
      (said ∙ ap (λ (shown : Shown). refused_text (codes "mode") (ResourceInUse shown)) c.shown_run.ensures))
      c.line_refused.ensures;
}

pub returns : goal.returns
returns c = record {
  goes =
      on_ok_weaker c.line_done.result
      (λ said. mode_goes c.args.number c.args.running.now c.line_done.new.out.items c.mode_of-running.result c.requires.keeps (λ e. c.if-run-eq1.false (c.run-run.ensures ∙ e)) c.mode_of-running.ensures said)
      c.line_done.ensures;
}
