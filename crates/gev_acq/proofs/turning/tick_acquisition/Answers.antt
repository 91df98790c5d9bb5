-- A moment is one input, which is served by the fills of what retires.
use Rattle.gev_acq.proofs.Moving.{ticks_once}
use Rattle.gev_acq.proofs.turning.tick_acquisition.Goals as goal

pub returns-clause-ticks : goal.returns-clause-ticks
returns-clause-ticks g c =
    ticks_once c.args.mode c.args.acq.now c.tick.new.self c.fill_all.new.acq c.args.moment c.args.pass.now c.fill_all.new.pass c.requires.fills c.requires.requests
    c.tick.ensures.takes c.fill_all.ensures.requests c.fill_all.ensures.rest c.fill_all.ensures.enters
