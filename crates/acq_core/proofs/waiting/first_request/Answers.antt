use Rattle.std.proofs.Common.{◌<◌, length, arith}
use Rattle.acq_core.proofs.FirstOnes.{resend_first}
use Rattle.acq_core.proofs.Wanting.{some_slots}
use Rattle.acq_core.proofs.waiting.first_request.Goals as goal

pub returns-clause-request : goal.returns-clause-request
returns-clause-request c =
    let count = some_slots c.args.window.now.requests.len c.is_empty.result c.is_empty.ensures c.if-is_empty.false in
    let all = c.args.window.now.requests.ok.0 in
    let some : 0 < length c.args.window.now.requests.items = omega (arith, count, all) in
    resend_first c.args.window.now.requests.items c.index-asked.result.now some c.index-asked.ensures
