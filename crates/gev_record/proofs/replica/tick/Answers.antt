use Rattle.gev_record.proofs.Steps.{ticks}
use Rattle.gev_record.proofs.replica.tick.Goals as goal

pub returns : goal.returns
returns c =
    ticks c.args.player.now c.tick-back.new.self c.args.used.now c.in_ok-used.field-0 c.args.moment c.tick-back.result.items
    c.args.text.now.items c.add_line.new.out.items c.add_takes.new.text.items c.tick-back.ensures.plays (rw c.as_slice.ensures.value at c.in_ok-used.ensures.freed)
    c.in_ok-add_line.ensures (rw c.as_slice.ensures.value at c.in_ok-used.ensures.said)
