use Rattle.std.proofs.Common.{ℕ, List, Bool, false, ◌++◌, drop, sym, ap, ◌∙◌, arith}
use Rattle.std.proofs.lemmas.List.{drop_all, append-nil}
use Rattle.packet_requests.specs.Requests.{command_in}
use Rattle.packet_requests.proofs.writing.write_form.Goals as goal

pub returns-clause-written : goal.returns-clause-written
returns-clause-written c =
    let command = command_in false c.args.number c.args.resend in
    c.write_resend.ensures.written
    ∙ sym (append-nil command)
    ∙ ap (λ (l : List ℕ). command ++ l) (sym (drop_all 28 c.args.out.now (omega arith)))
    ∙ ap (λ (b : Bool). command_in b c.args.number c.args.resend ++ drop 28 c.args.out.now) (sym c.if-standard.false)
