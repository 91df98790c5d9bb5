use Rattle.script_replay.proofs.Spelled.{AreSpelled}
use Rattle.script_replay.proofs.hex_digits.decode.Given as goal

abbrev pub invariant-loop-i : goal.invariant-loop-i
invariant-loop-i l = AreSpelled l.digits l.bytes l.i
