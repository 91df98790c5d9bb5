use Rattle.std.proofs.Common.{sym, subst}
use Rattle.gev_script.specs.Lines.{view}
use Rattle.script_replay.specs.Replays.{DoneLine}
use Rattle.script_replay.proofs.Widened.{line_done}
use Rattle.script_replay.proofs.wide_lines.run_line.Goals as goal

pub returns : goal.returns
returns c =
    subst (λ kept. DoneLine (view c.args.line) c.args.script.now c.run_any.new.out.items (record { running = c.run_any.new.script.running; widening = kept })) (sym c.note_start.ensures)
    (line_done (view c.args.line) c.args.script.now c.run_any.new.script c.run_any.new.out.items c.run-before.result c.run-after.result c.in_ok-run_any.ensures c.run-before.ensures c.run-after.ensures)
