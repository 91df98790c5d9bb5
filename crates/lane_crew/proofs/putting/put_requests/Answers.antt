-- One request more.
use Rattle.lane_crew.proofs.Cells.{putting_begins, putting_goes_on}
use Rattle.lane_crew.proofs.putting.put_requests.Goals as goal

pub requests-init : goal.requests-init
requests-init g c = record { lane = c.requires.lane; so = putting_begins c.args.ends.now c.args.acq.now }

pub requests-preserved : goal.requests-preserved
requests-preserved g c = record {
  lane = c.put_request.ensures.lane;
  so = putting_goes_on c.args.ends.now c.args.acq.now c.requests.ends c.requests.acq c.put_request.new.lane c.next_request.new.self c.in-Some.request
      c.requests.invariant.so c.in-Some.ensures.request c.next_request.ensures.fills c.next_request.ensures.rest c.put_request.ensures.puts;
}
