-- A free cell with the message was given.
use Rattle.gev_lanes.specs.Messages.{told}
use Rattle.gev_lanes.proofs.Acting.{brought}
use Rattle.gev_lanes.proofs.reader_acts.bring_moment.Goals as goal

pub returns-in-Some : goal.returns-in-Some
returns-in-Some g c = record {
  tries = brought (record { moment = c.args.moment; says = told }) c.args.side.now c.in-Some.free c.ticking-cell.result
      c.take.new.taker c.give_quietly.new.giver c.ticking-cell.ensures c.in-Some.ensures.taken c.give_quietly.ensures.given;
}
