use Rattle.capture_script.proofs.Turns.{plays_again}
use Rattle.capture_script.proofs.turning.tell_again.Goals as goal

pub returns-clause-plays : goal.returns-clause-plays
returns-clause-plays c q took =
    plays_again c.args.p c.args.player.now c.give.new.self c.datagram-need.new.self c.args.bytes.now c.datagram-need.result.1.items c.count.result q c.requires.config
    c.give.ensures.plays c.datagram-need.ensures.plays c.count.ensures.is took
