use Rattle.std.proofs.lemmas.Result.{on_ok_weaker}
use Rattle.script_replay.proofs.standard_requests.tick.Goals as goal

pub returns-clause-told : goal.returns-clause-told
returns-clause-told c =
    on_ok_weaker c.write_standard.result
    (λ said. record {
      mid = c.tick.new.self;
      fed = c.fill_retired.new.acq;
      takes = c.tick.ensures.takes;
      all = c.fill_retired.ensures.fills;
      keeps = c.fill_retired.ensures.rest;
      requests = c.fill_retired.ensures.requests;
      keeps_too = c.write_standard.ensures.rest;
      told = said;
    })
    c.write_standard.ensures.lines
