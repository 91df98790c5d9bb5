use Rattle.std.proofs.Common.{◌≡◌, []}
use Rattle.acq_core.specs.Receiver.{buffers}
use Rattle.acq_core.specs.Waiting.{waiting_fills, waiting_requests}
use Rattle.gev_acq.specs.Buffers.{Backs}
use Rattle.live_cases.proofs.workers.pacing.take_turns.Given as goal

abbrev pub invariant-loop-turn : goal.invariant-loop-turn
invariant-loop-turn g l = record {
  table : l.pass.table ≡ l.fn.pass.table;
  fills : waiting_fills l.acq ≡ [];
  requests : waiting_requests l.acq ≡ [];
  backs : Backs l.pass (buffers l.acq);
}
