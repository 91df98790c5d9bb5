use Rattle.std.proofs.Common.{◌≡◌, ◌+◌, ◌≤◌, ◌++◌, length, vec_capacity}
use Rattle.acq_core.specs.Waiting.{waiting_fills, waiting_requests}
use Rattle.acq_core.specs.Receiver.{KeepsBlocks}
use Rattle.take_lines.specs.Players.{places_of}
use Rattle.take_lines.specs.Pool.{HasBuffers}
use Rattle.take_lines.proofs.turning.take_back.Given as goal

abbrev pub invariant-fills : goal.invariant-fills
invariant-fills l = record {
  has : HasBuffers l.size l.acq l.spare.items;
  told : places_of (waiting_fills l.fn.acq) ≡ l.back.items ++ places_of (waiting_fills l.acq);
  few : length l.back.items + length (waiting_fills l.acq) ≤ 4;
  requests : waiting_requests l.acq ≡ waiting_requests l.fn.acq;
  rest : KeepsBlocks l.fn.acq l.acq;
  room : 4 ≤ vec_capacity l.spare;
}

abbrev pub decreases-fills : goal.decreases-fills
decreases-fills l = length (waiting_fills l.acq)
