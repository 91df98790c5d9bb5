use Rattle.std.specs.Prelude.{◌≡◌, []}
use Rattle.acq_core.specs.Receiver.{buffers}
use Rattle.acq_core.specs.Waiting.{waiting_fills, waiting_requests}
use Rattle.gev_acq.specs.Buffers.{Backs}
use Rattle.board_cases.proofs.application.acquire.Given as goal

abbrev pub invariant-datagrams : goal.invariant-datagrams
invariant-datagrams g l = record {
  table : l.pass.table ≡ l.fn.pass.table;
  fills : waiting_fills l.acq ≡ [];
  requests : waiting_requests l.acq ≡ [];
  backs : Backs l.pass (buffers l.acq);
}
