use Rattle.gev_record.proofs.Steps.{stops}
use Rattle.gev_record.proofs.replica.stop.Goals as goal

pub returns : goal.returns
returns c =
    λ q s. stops c.args.player.now c.stop-back.new.self c.args.used.now c.stop-back.result.items c.args.text.now.items c.add_line.new.out.items c.add_takes.new.text.items q s
    c.stop-back.ensures.plays c.in_ok-add_line.ensures (rw c.as_slice.ensures.value at c.in_ok-used.ensures.said)
