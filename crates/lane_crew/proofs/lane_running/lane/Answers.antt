-- Cell by cell, and the end.
use Rattle.std.proofs.Common.{refl, sym, ◌∙◌, subst}
use Rattle.acq_core.specs.Receiver.{config_of, Stands}
use Rattle.acq_core.specs.Waiting.{waiting_requests}
use Rattle.gev_acq.specs.Buffers.{Backs, HoldsAlone}
use Rattle.lane_crew.proofs.Cells.{begins, goes_on, ends_so}
use Rattle.lane_crew.proofs.lane_running.lane.Goals as goal

pub cells-init : goal.cells-init
cells-init g c = record {
  so = begins c.args.mode (config_of c.args.acq.now) (Stands c.args.acq.now) c.args.ends.now c.args.pass.now;
  lane = c.requires.lane;
  table = refl;
  config = refl;
  fills = c.requires.fills;
  requests = c.requires.requests;
  backs = c.requires.backs;
  alone = λ alone. alone;
}

pub next_cell-cell-requires : goal.next_cell-cell-requires
next_cell-cell-requires g c = record { lane = c.cells.invariant.lane }

pub free_cell-requires : goal.free_cell-requires
free_cell-requires g c = record { lane = c.next_cell-cell.ensures.lane }

pub retire_all-requires-clause-table : goal.retire_all-requires-clause-table
retire_all-requires-clause-table g c = c.cells.invariant.table ∙ c.requires.table

pub retire_all-requires-clause-fills : goal.retire_all-requires-clause-fills
retire_all-requires-clause-fills g c = c.cells.invariant.fills

pub retire_all-requires-clause-requests : goal.retire_all-requires-clause-requests
retire_all-requires-clause-requests g c = c.cells.invariant.requests

pub retire_all-requires-clause-backs : goal.retire_all-requires-clause-backs
retire_all-requires-clause-backs g c = c.cells.invariant.backs

pub returns-then-is_end-clause-serves : goal.returns-then-is_end-clause-serves
returns-then-is_end-clause-serves g c =
    ends_so c.args.mode (config_of c.args.acq.now) (config_of c.cells.acq) (Stands c.args.acq.now) (Stands c.cells.acq) (Stands c.retire_all.new.acq) c.args.ends.now
    c.cells.ends c.next_cell-cell.new.lane c.free_cell.new.lane c.next_cell-cell.result c.args.pass.now c.cells.pass c.retire_all.new.pass
    c.cells.invariant.so c.cells.invariant.config c.next_cell-cell.ensures.taken (sym c.is_end.ensures ∙ c.if-is_end.true) c.free_cell.ensures.freed
    c.retire_all.ensures.serves

pub returns-then-is_end-clause-lane : goal.returns-then-is_end-clause-lane
returns-then-is_end-clause-lane g c = c.free_cell.ensures.lane

pub returns-then-is_end-clause-table : goal.returns-then-is_end-clause-table
returns-then-is_end-clause-table g c = c.retire_all.ensures.table ∙ c.cells.invariant.table

pub returns-then-is_end-clause-config : goal.returns-then-is_end-clause-config
returns-then-is_end-clause-config g c = c.retire_all.ensures.config ∙ c.cells.invariant.config

pub returns-then-is_end-clause-fills : goal.returns-then-is_end-clause-fills
returns-then-is_end-clause-fills g c = c.retire_all.ensures.fills

pub returns-then-is_end-clause-requests : goal.returns-then-is_end-clause-requests
returns-then-is_end-clause-requests g c = c.retire_all.ensures.requests

pub returns-then-is_end-clause-buffers : goal.returns-then-is_end-clause-buffers
returns-then-is_end-clause-buffers g c = c.retire_all.ensures.buffers

pub returns-then-is_end-clause-empty : goal.returns-then-is_end-clause-empty
returns-then-is_end-clause-empty g c = λ alone. c.retire_all.ensures.empty (c.cells.invariant.alone alone)

pub serve_cell-requires-clause-table : goal.serve_cell-requires-clause-table
serve_cell-requires-clause-table g c = c.cells.invariant.table ∙ c.requires.table

pub serve_cell-requires-clause-fills : goal.serve_cell-requires-clause-fills
serve_cell-requires-clause-fills g c = c.cells.invariant.fills

pub serve_cell-requires-clause-requests : goal.serve_cell-requires-clause-requests
serve_cell-requires-clause-requests g c = c.cells.invariant.requests

pub serve_cell-requires-clause-backs : goal.serve_cell-requires-clause-backs
serve_cell-requires-clause-backs g c = c.cells.invariant.backs

pub free_cell-requires-in-cells : goal.free_cell-requires-in-cells
free_cell-requires-in-cells g c = record { lane = c.next_cell-cell.ensures.lane }

pub put_requests-requires : goal.put_requests-requires
put_requests-requires g c = record { lane = c.free_cell-in-cells.ensures.lane }

pub cells-preserved : goal.cells-preserved
cells-preserved g c = record {
  so = goes_on c.args.mode (config_of c.args.acq.now) (config_of c.cells.acq) (Stands c.args.acq.now) (Stands c.cells.acq) (Stands c.serve_cell.new.acq)
      (Stands c.put_requests.new.acq) c.args.ends.now c.cells.ends c.next_cell-cell.new.lane c.free_cell-in-cells.new.lane c.put_requests.new.ends
      c.next_cell-cell.result (waiting_requests c.serve_cell.new.acq) c.args.pass.now c.cells.pass c.serve_cell.new.pass c.cells.invariant.so
      c.cells.invariant.config c.next_cell-cell.ensures.taken (sym c.is_end.ensures ∙ c.if-is_end.false) c.serve_cell.ensures.serves
      c.free_cell-in-cells.ensures.freed c.put_requests.ensures.puts c.put_requests.ensures.rest.stands;
  lane = c.put_requests.ensures.lane;
  table = c.serve_cell.ensures.table ∙ c.cells.invariant.table;
  config = c.put_requests.ensures.rest.config ∙ (c.serve_cell.ensures.config ∙ c.cells.invariant.config);
  fills = c.put_requests.ensures.fills ∙ c.serve_cell.ensures.fills;
  requests = c.put_requests.ensures.requests;
  backs = subst (Backs c.serve_cell.new.pass) (sym c.put_requests.ensures.rest.buffers) c.serve_cell.ensures.backs;
  alone = λ alone. subst (HoldsAlone c.serve_cell.new.pass) (sym c.put_requests.ensures.rest.buffers)
      (c.serve_cell.ensures.alone (c.cells.invariant.alone alone));
}
