-- Requests leave the cells for the end.
use Rattle.live_tests.proofs.Kept.{asks_keep}
use Rattle.live_tests.proofs.rounds.sends_requests.Goals as goal

pub returns-clause-kept : goal.returns-clause-kept
returns-clause-kept g c = asks_keep c.ask_lanes-failed.ensures.asks.asked _ _ c.ask_lanes-failed.ensures.asks.asks c.requires.kept
