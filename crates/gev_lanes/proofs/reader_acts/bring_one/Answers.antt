-- A free cell with the message was given.
use Rattle.std.proofs.Common.{◌≡◌, [], ◌∷◌, subst}
use Rattle.gev_lanes.specs.LineEnds.{took}
use Rattle.gev_lanes.specs.Messages.{heard}
use Rattle.gev_lanes.proofs.Acting.{brought}
use Rattle.gev_lanes.proofs.reader_acts.bring_one.Goals as goal

pub returns-in-Some : goal.returns-in-Some
returns-in-Some g c = record {
  tries = brought (record { moment = c.args.moment; says = heard c.args.datagram.now }) c.args.side.now c.in-Some.free c.with_datagram-cell.result
      c.take.new.taker c.give_waiting.new.giver c.with_datagram-cell.ensures
      (subst (λ f. c.take.new.taker ≡ took f (c.in-Some.free ∷ [])) c.rest_while_few-rests.ensures.same c.in-Some.ensures.taken) c.give_waiting.ensures.given;
}
