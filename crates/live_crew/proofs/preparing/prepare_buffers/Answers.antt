use Rattle.std.proofs.Common.{◌∙◌, arith}
use Rattle.buffer_words.proofs.Hands.{hands_same, hands_then}
use Rattle.live_crew.proofs.Beginning.{none_prepared, one_more_prepared, lacks_memory}
use Rattle.live_crew.proofs.preparing.prepare_buffers.Goals as goal

pub buffers-init : goal.buffers-init
buffers-init c = record {
  table = c.requires.table;
  has = none_prepared c.args.pass.now c.args.size c.requires.first c.requires.unseen;
  hands = hands_same c.args.pass.now;
}

pub buffers-preserved : goal.buffers-preserved
buffers-preserved c = record {
  table = c.in-Ok.ensures.entries.enters.table ∙ c.buffers.invariant.table;
  has = one_more_prepared c.args.size c.buffers._buffer c.args.pass.now c.buffers.pass c.prepare_buffer.new.pass c.in-Ok._id c.requires.unseen c.buffers.invariant.has (omega (arith, c.buffers-test.true, c.requires.few)) c.in-Ok.ensures.entries;
  hands = hands_then c.args.pass.now c.buffers.pass c.prepare_buffer.new.pass c.buffers.invariant.hands c.in-Ok.ensures.hands;
}

pub returns-in-Err-clause-short : goal.returns-in-Err-clause-short
returns-in-Err-clause-short c =
    lacks_memory c.args.size c.buffers._buffer c.args.buffers c.args.pass.now c.buffers.pass c.prepare_buffer.new.pass c.in-Err._error c.requires.unseen c.buffers.invariant.has c.buffers-test.true c.requires.few c.requires.size c.in-Err.ensures.entries

pub returns-in-Err-clause-hands : goal.returns-in-Err-clause-hands
returns-in-Err-clause-hands c = hands_then c.args.pass.now c.buffers.pass c.prepare_buffer.new.pass c.buffers.invariant.hands c.in-Err.ensures.hands
