use Rattle.acquisition_machine.specs.Machine.{tick}
use Rattle.capture_script.proofs.Turns.{plays_one}
use Rattle.capture_script.proofs.turning.tell_moment.Goals as goal

pub returns-clause-plays : goal.returns-clause-plays
returns-clause-plays c q took =
    plays_one c.args.p c.args.player.now c.tick-back.new.self (tick c.args.moment) c.tick-back.result.items c.count.result q c.requires.config c.tick-back.ensures.plays c.count.ensures.is took
