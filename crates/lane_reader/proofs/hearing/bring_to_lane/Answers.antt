-- The lane is the datagram's.
use Rattle.std.proofs.Common.{ap, ◌∙◌}
use Rattle.lane_reader.specs.LanesTurns.{lane_of}
use Rattle.lane_reader.proofs.Hearings.{heard_at}
use Rattle.lane_reader.proofs.hearing.bring_to_lane.Goals as goal

pub returns-clause-hears : goal.returns-clause-hears
returns-clause-hears g c = λ peer.
    heard_at _ c.args.moment c.lane_for-lane.result c.args.datagram.now peer c.bring.result c.args.reader.now c.bring.new.reader
    (c.lane_for-lane.ensures ∙ ap (λ n. lane_of n c.args.datagram.now) c.count.ensures.count) c.bring.ensures.brings
