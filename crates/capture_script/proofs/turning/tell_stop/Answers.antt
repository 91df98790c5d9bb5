use Rattle.acquisition_machine.specs.Machine.{stop}
use Rattle.capture_script.proofs.Turns.{plays_one}
use Rattle.capture_script.proofs.turning.tell_stop.Goals as goal

pub returns-clause-plays : goal.returns-clause-plays
returns-clause-plays c q took =
    plays_one c.args.p c.args.player.now c.stop-back.new.self stop c.stop-back.result.items c.count.result q c.requires.config c.stop-back.ensures.plays c.count.ensures.is took
