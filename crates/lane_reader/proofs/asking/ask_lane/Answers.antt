-- Request by request.
use Rattle.std.proofs.Common.{[], ◌∷◌, ◌++◌, refl, ◌∙◌, length-append, arith}
use Rattle.gev_control.proofs.Fronts.{fails_then, fails_none, sends_none, sends_then}
use Rattle.gev_lanes.proofs.News.{readers_length}
use Rattle.lane_reader.proofs.Looping.{asks_begin, asks_more, asks_none, asks_many}
use Rattle.lane_reader.proofs.asking.ask_lane.Goals as goal

pub requests-init : goal.requests-init
requests-init g c = record {
  requests = [];
  reader = c.requires.reader;
  asked = asks_begin c.args.reader.now c.args.lane (omega (arith, c.requires.lane, readers_length c.args.lanes.now c.args.reader.now c.requires.reader));
  many = refl;
  sends = sends_none c.args.camera c.args.failed (g.M.Link.sent c.args.control.now);
  fails = fails_none c.args.failed (g.M.Link.faults c.args.control.now);
  received = refl;
}

pub returns-in-None-clause-asks : goal.returns-in-None-clause-asks
returns-in-None-clause-asks g c = record {
  requests = c.requests.invariant.requests;
  asks = asks_none c.requests.invariant.requests c.args.lane c.args.reader.now c.requests.reader c.ask.new.reader c.requests.invariant.asked
      (omega (arith, c.requests.invariant.many, c.requests-test.true, c.requests.auto._request-end)) c.in-None.ensures.asked;
  sends = c.requests.invariant.sends;
}

pub requests-preserved : goal.requests-preserved
requests-preserved g c = record {
  requests = c.requests.invariant.requests ++ c.in-Some.request ∷ [];
  reader = c.in-Some.ensures.reader;
  asked = asks_more c.requests.invariant.requests c.in-Some.request c.args.lane c.args.reader.now c.requests.reader c.ask.new.reader c.requests.invariant.asked
      c.in-Some.ensures.asked;
  many = omega (arith, length-append c.requests.invariant.requests (c.in-Some.request ∷ []), c.requests.invariant.many);
  sends = sends_then c.args.camera c.requests.invariant.requests (c.in-Some.request ∷ []) c.args.failed c.requests.failed c.send_unless-failed.result
      (g.M.Link.sent c.args.control.now) (g.M.Link.sent c.requests.control) (g.M.Link.sent c.send_unless-failed.new.control) c.requests.invariant.sends
      c.send_unless-failed.ensures.sends;
  fails = fails_then c.args.failed c.requests.failed c.send_unless-failed.result (g.M.Link.faults c.args.control.now) (g.M.Link.faults c.requests.control)
      (g.M.Link.faults c.send_unless-failed.new.control) c.requests.invariant.fails c.send_unless-failed.ensures.fails;
  received = c.send_unless-failed.ensures.received ∙ c.requests.invariant.received;
}

pub returns-clause-asks : goal.returns-clause-asks
returns-clause-asks g c = record {
  requests = c.requests.invariant.requests;
  asks = asks_many c.requests.invariant.requests c.args.lane c.args.reader.now c.requests.reader c.requests.invariant.asked
      (omega (arith, c.requests.invariant.many, c.requests-test.false, c.requests.auto._request-end));
  sends = c.requests.invariant.sends;
}
