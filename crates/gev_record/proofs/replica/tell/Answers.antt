use Rattle.gev_record.proofs.Steps.{tells, asks}
use Rattle.gev_record.proofs.replica.tell.Goals as goal

pub returns-clause-takes : goal.returns-clause-takes
returns-clause-takes c =
    tells c.args.player.now c.datagram-need.new.self c.args.used.now c.in_ok-used.field-0 c.args.bytes.now c.datagram-need.result.1.items c.args.text.now.items c.add_takes.new.text.items
    c.datagram-need.ensures.plays (rw c.as_slice.ensures.value at c.in_ok-used.ensures.freed) (rw c.as_slice.ensures.value at c.in_ok-used.ensures.said)

pub returns-clause-need : goal.returns-clause-need
returns-clause-need c q s = asks c.args.player.now c.args.used.now q c.args.bytes.now c.datagram-need.result.0 s (c.datagram-need.ensures.need q s.took)
