use Rattle.gev_script.specs.Lines.{view}
use Rattle.script_explain.specs.Explains.{ToldLine}
use Rattle.std.proofs.Common.{sym, subst}
use Rattle.script_explain.proofs.Started.{line_told}
use Rattle.script_explain.proofs.telling.run_fed.Goals as goal

pub returns : goal.returns
returns c =
    subst (λ kept. ToldLine (view c.args.line) c.args.script.now c.feed.new.out.items c.feed.new.tape.items (record { running = c.feed.new.script.running; widening = kept })) (sym c.note_start.ensures)
    (line_told (view c.args.line) c.args.script.now c.feed.new.script c.feed.new.out.items c.feed.new.tape.items c.run-before.result c.run-after.result c.in_ok-feed.ensures c.run-before.ensures c.run-after.ensures)
