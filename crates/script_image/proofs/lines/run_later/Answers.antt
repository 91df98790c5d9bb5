use Rattle.std.proofs.Common.{Ok, sym, ap, ◌∙◌}
use Rattle.gev_script.specs.Lines.{view}
use Rattle.script_trace.specs.Standing.{is_out_of_place}
use Rattle.script_replay.proofs.InPlace.{later_in}
use Rattle.script_image.proofs.Passing.{other_came, take_came}
use Rattle.script_image.proofs.lines.run_later.Goals as goal

pub run_other-requires-clause-run : goal.run_other-requires-clause-run
run_other-requires-clause-run c =
    later_in c.args.line.now (view c.in-Ok.says) (sym c.in-Ok.ensures.value) c.in-Ok.ensures.is_line (ap is_out_of_place (sym c.first_name.ensures) ∙ sym c.if-is_out_of_place.ensures)

pub returns-in-Ok-Take : goal.returns-in-Ok-Take
returns-in-Ok-Take c =
    take_came c.take.result c.came_of.result c.args.script.now c.take.new.script c.args.line.now c.came_of.ensures
    (ap (λ l. Ok (view l)) (sym c.in-Ok-Take.field-0-is) ∙ c.in-Ok-Take.ensures.value) (ap is_out_of_place (sym c.first_name.ensures) ∙ sym c.is_out_of_place.ensures ∙ c.if-is_out_of_place.false) c.take.ensures.runs

pub returns-in-Ok-run_other : goal.returns-in-Ok-run_other
returns-in-Ok-run_other c =
    other_came c.in-Ok-run_other.came (view c.in-Ok.says) c.args.script.now c.run_other.new.script c.args.line.now
    c.in-Ok.ensures.value (ap is_out_of_place (sym c.first_name.ensures) ∙ sym c.is_out_of_place.ensures ∙ c.if-is_out_of_place.false) c.in-Ok-run_other.ensures
