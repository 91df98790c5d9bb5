use Rattle.std.proofs.Common.{◌≡◌, ◌<◌, ◌∷◌, length, subst, sym, arith, List}
use Rattle.acq_core.specs.declared.asked.Asked.{Asked}
use Rattle.gvcp_wire.specs.declared.resend.Resend.{Resend}
use Rattle.acq_core.proofs.FirstOnes.{resends, resend_taken}
use Rattle.acq_core.proofs.Wanting.{some_slots}
use Rattle.acq_core.proofs.waiting.next_request.Goals as goal

pub returns-clause-resend : goal.returns-clause-resend
returns-clause-resend c =
    let count = some_slots c.args.window.now.requests.len c.is_empty.result c.is_empty.ensures c.if-is_empty.false in
    let all = c.args.window.now.requests.ok.0 in
    let some : 0 < length c.args.window.now.requests.items = omega (arith, count, all) in
    subst (λ (xs : List Asked). (r : Resend) × (resends c.args.window.now.requests.items ≡ r ∷ resends xs)) (sym c.remove-asked.ensures.items)
    (resend_taken c.args.window.now.requests.items some)
