-- The kept cell with the end was given.
use Rattle.std.proofs.Common.{sym, ◌∙◌}
use Rattle.gev_lanes.specs.Messages.{ended}
use Rattle.gev_lanes.proofs.Acting.{kept_given}
use Rattle.gev_lanes.proofs.reader_acts.end_one.Goals as goal

pub returns : goal.returns
returns g c = record {
  ends = kept_given (record { moment = c.args.moment; says = ended }) c.args.side.now c.unwrap.result c.ending-cell.result c.take.new.self
      c.give_waiting.new.giver (sym c.take.ensures.value ∙ c.unwrap.ensures) c.take.ensures.after c.ending-cell.ensures c.give_waiting.ensures.given;
}
