use Rattle.std.proofs.Common.{◌*◌, ◌+◌, arith}
use Rattle.script_replay.proofs.Spelled.{all_digits, spelled_more, all_spelled}
use Rattle.script_replay.proofs.hex_digits.decode.Goals as goal

pub spelled_byte-requires-clause-high : goal.spelled_byte-requires-clause-high
spelled_byte-requires-clause-high c = all_digits c.args.digits.now c.requires.spelled (2 * c.loop-i.i) (omega arith)

pub spelled_byte-requires-clause-low : goal.spelled_byte-requires-clause-low
spelled_byte-requires-clause-low c = all_digits c.args.digits.now c.requires.spelled (2 * c.loop-i.i + 1) (omega arith)

pub loop-i-preserved : goal.loop-i-preserved
loop-i-preserved c = spelled_more c.args.digits.now c.loop-i.bytes c.loop-i.i c.spelled_byte.result (omega arith) c.spelled_byte.ensures c.loop-i.invariant

pub returns : goal.returns
returns c = all_spelled c.args.digits.now c.loop-i.bytes c.loop-i.i (omega arith) (omega arith) c.loop-i.invariant
