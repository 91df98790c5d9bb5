use Rattle.std.proofs.Common.{sym, ap, ◌∙◌}
use Rattle.gev_script.specs.Lines.{view}
use Rattle.script_trace.specs.Standing.{is_out_of_place}
use Rattle.script_replay.proofs.InPlace.{later_in}
use Rattle.script_explain.proofs.telling.run_later.Goals as goal

pub run_said-requires-clause-run : goal.run_said-requires-clause-run
run_said-requires-clause-run c =
    later_in c.args.line.now (view c.in-Ok.says) (sym c.in-Ok.ensures.value) c.in-Ok.ensures.is_line (ap is_out_of_place (sym c.first_name.ensures) ∙ sym c.if-is_out_of_place.ensures)
