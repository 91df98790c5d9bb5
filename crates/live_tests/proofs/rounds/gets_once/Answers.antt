-- The cell for the end is there when it comes.
use Rattle.std.proofs.Common.{[], ◌∷◌, length}
use Rattle.gev_links.specs.Links.{Address, came}
use Rattle.live_tests.proofs.Kept.{hears_keep, ticks_keep}
use Rattle.live_tests.proofs.rounds.gets_once.Goals as goal

nobody : Address
nobody = record { address = 0; port = 0 }

pub end_lanes-requires-clause-kept : goal.end_lanes-requires-clause-kept
end_lanes-requires-clause-kept g c =
    ticks_keep 7 c.bring_received.new.reader c.tick_lanes-2.new.reader c.tick_lanes-2.ensures.ticks
    (hears_keep (length c.args.lanes.now) 7 (came (5 ∷ 6 ∷ []) nobody) c.tick_lanes.new.reader c.bring_received.new.reader c.bring_received.ensures.hears
    (ticks_keep 0 _ c.tick_lanes.new.reader c.tick_lanes.ensures.ticks c.requires.kept))
