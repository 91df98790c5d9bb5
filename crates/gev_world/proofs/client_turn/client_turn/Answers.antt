use Rattle.gev_world.proofs.Composing.{client_does}
use Rattle.gev_world.proofs.client_turn.client_turn.Goals as goal

pub returns-clause-does : goal.returns-clause-does
returns-clause-does c =
    client_does _ _ _ _ _ c.begin.ensures.does c.tick-outcome.ensures.told c.tick-outcome.ensures.does c.in_ok-send.ensures.does
