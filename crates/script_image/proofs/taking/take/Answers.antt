use Rattle.script_image.proofs.Finding.{take_runs}
use Rattle.script_image.proofs.taking.take.Goals as goal

pub returns : goal.returns
returns c = record {
  runs =
      take_runs c.take_open-got.result c.args.script.now c.take_open-got.new.running c.run-before.result c.run-after.result c.note_start.new.widening
      c.take_open-got.ensures.runs c.run-before.ensures c.run-after.ensures c.note_start.ensures;
}
