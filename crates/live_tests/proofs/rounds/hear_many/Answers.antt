-- A datagram leaves the cells for the end.
use Rattle.std.proofs.Common.{[], ◌∷◌, length}
use Rattle.gev_links.specs.Links.{Address, came}
use Rattle.live_tests.proofs.Kept.{hears_keep}
use Rattle.live_tests.proofs.rounds.hear_many.Goals as goal

nobody : Address
nobody = record { address = 0; port = 0 }

pub moments-preserved : goal.moments-preserved
moments-preserved g c = record {
  readers = c.bring_to_lane.ensures.reader;
  kept =
      hears_keep (length c.args.lanes.now) _ (came (1 ∷ 2 ∷ 3 ∷ []) nobody) _ _ (c.bring_to_lane.ensures.hears nobody)
      c.moments.invariant.kept;
}
