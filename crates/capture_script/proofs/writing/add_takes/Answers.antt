use Rattle.std.proofs.Common.{◌≤◌, arith}
use Rattle.std.proofs.lemmas.Result.{on_ok_weaker}
use Rattle.capture_script.proofs.Adding.{taken_all}
use Rattle.capture_script.proofs.writing.add_takes.Goals as goal

pub returns : goal.returns
returns c =
    let some : 1 ≤ c.args.filled = omega (arith, c.if-filled-eq0.false) in
    on_ok_weaker c.add_flush.result (λ text. taken_all c.args.filled c.args.out.now.items c.add_takes.new.out.items c.add_flush.new.out.items some c.in_ok-add_takes.ensures text)
    c.add_flush.ensures
