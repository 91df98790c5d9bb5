use Rattle.soak_receiver.proofs.Listening.{IsTold, is_told, moment_moves, moment_hosting, moment_asks}
use Rattle.std.proofs.lemmas.Result.{on_ok_weaker}
use Rattle.soak_receiver.proofs.ticking.tell_moment.Goals as goal

pub returns : goal.returns
returns c =
    let is : IsTold c.args.moment c.args.running.now c.fill_retired.new.board c.tick.new.self c.fill_retired.new.acq c.add_requests.new.acq c.fill_retired.new.counts =
    is_told _ _ _ _ _ _ _ c.requires c.tick.ensures.takes c.tick.ensures.asked c.fill_retired.ensures.fills c.fill_retired.ensures.rest c.fill_retired.ensures.requests c.fill_retired.ensures.no_fill c.fill_retired.ensures.away
    c.add_requests.ensures.rest c.add_requests.ensures.fills c.add_requests.ensures.no_request in
    record {
      moves = moment_moves _ _ _ _ _ _ _ c.requires is;
      requests =
          on_ok_weaker c.add_requests.result
          (λ added. moment_asks c.args.moment c.args.running.now c.tick.new.self c.fill_retired.new.acq c.args.requests.now.items c.add_requests.new.requests.items c.requires c.tick.ensures.takes c.fill_retired.ensures.requests added)
          c.add_requests.ensures.requests;
      hosting = moment_hosting _ _ _ _ _ _ _ c.requires is;
    }
