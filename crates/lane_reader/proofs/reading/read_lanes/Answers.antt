-- The turns kept the cells for the end.
use Rattle.std.proofs.Common.{length}
use Rattle.lane_reader.proofs.Keeping.{turns_keep}
use Rattle.lane_reader.proofs.reading.read_lanes.Goals as goal

pub end_lanes-requires-clause-kept : goal.end_lanes-requires-clause-kept
end_lanes-requires-clause-kept g c =
    turns_keep (length c.args.lanes.now) c.make_turns-end.ensures.reads.made c.args.reader.now c.make_turns-end.new.reader
    c.make_turns-end.ensures.reads.on.lanes c.requires.kept
