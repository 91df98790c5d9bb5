use Rattle.std.proofs.Common.{[], refl, ◌∙◌}
use Rattle.board_calls.specs.Rounds.{PoolsHeldBelow, PoolsIfHeld}
use Rattle.board_machine.proofs.Adding.{adds_nothing, adds_more}
use Rattle.board_calls.proofs.Lists.{held_more}
use Rattle.board_model.proofs.board.PlainBoard.pool_held.Goals as goal

pub pool_if_held-requires-clause-actor : goal.pool_if_held-requires-clause-actor
pool_if_held-requires-clause-actor c = c.loop-place.invariant.entries.actors _ c.requires.actor

pub loop-place-init : goal.loop-place-init
loop-place-init c = record {
  entries = adds_nothing _ _ _ (record { seen = []; all = refl; grabbed = tt; is = refl });
  contents = refl;
}

pub loop-place-preserved : goal.loop-place-preserved
loop-place-preserved c = record {
  entries = adds_more _ _ _ _ (PoolsHeldBelow c.loop-place.place) (PoolsIfHeld c.loop-place.place) _ (held_more c.loop-place.place) c.loop-place.invariant.entries c.pool_if_held.ensures.entries;
  contents = c.pool_if_held.ensures.contents ∙ c.loop-place.invariant.contents;
}
