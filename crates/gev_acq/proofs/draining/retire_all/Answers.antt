-- A stop is one input, which is served by the fills of what retires.
use Rattle.std.proofs.Common.{refl}
use Rattle.acquisition_machine.specs.Machine.{stop as stopped}
use Rattle.gev_acq.proofs.Serves.{serves_filled}
use Rattle.gev_acq.proofs.draining.retire_all.Goals as goal

pub returns-clause-serves : goal.returns-clause-serves
returns-clause-serves g c =
    serves_filled c.args.mode c.args.acq.now c.stop.new.self c.fill_all.new.acq stopped c.args.pass.now c.fill_all.new.pass refl refl c.requires.fills
    c.stop.ensures.takes c.fill_all.ensures.rest c.fill_all.ensures.enters
