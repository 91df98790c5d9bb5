-- The cell for the end is there when it comes.
use Rattle.std.proofs.Common.{arith}
use Rattle.gev_lanes.proofs.News.{readers_length}
use Rattle.live_tests.proofs.Kept.{bring_keeps, tick_keeps, kept_at}
use Rattle.live_tests.proofs.rounds.cells_come.Goals as goal

pub end-requires-clause-kept : goal.end-requires-clause-kept
end-requires-clause-kept g c =
    kept_at _ _
    (tick_keeps 6 _ _ _ c.tick-2.ensures.ticks
    (tick_keeps 5 _ _ _ c.tick.ensures.ticks
    (bring_keeps _ _ _ _ _ c.bring.ensures.brings c.requires.kept)))
    (omega (arith, c.requires.number, readers_length c.args.lanes.now _ c.tick-2.ensures.reader))
