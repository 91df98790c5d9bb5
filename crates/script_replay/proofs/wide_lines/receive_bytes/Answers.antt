use Rattle.std.proofs.Common.{arith}
use Rattle.script_replay.proofs.Widened.{heard_goes}
use Rattle.script_replay.proofs.wide_lines.receive_bytes.Goals as goal

pub returns : goal.returns
returns c = record {
  goes =
      heard_goes c.args.running.now c.args.bytes.now c.receive.new.board c.receive.new.acq c.receive.new.counts c.requires.keeps c.requires.runs (λ i. let fits = c.type_inv.bytes i in omega arith)
      c.receive.ensures.drives c.receive.ensures.rest c.receive.ensures.config;
}
