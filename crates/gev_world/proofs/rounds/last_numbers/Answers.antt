use Rattle.gev_world.proofs.Closing.{numbers_are}
use Rattle.gev_world.proofs.rounds.last_numbers.Goals as goal

pub returns : goal.returns
returns c = λ acts w stands.
    numbers_are c.args.stage.now.frames c.from.result c.args.stage.now.camera.executed c.executed.result c.numbers-counts.result w.host
    c.from.ensures c.executed.ensures (c.numbers-counts.ensures _ w.host stands.hosts.stands)
