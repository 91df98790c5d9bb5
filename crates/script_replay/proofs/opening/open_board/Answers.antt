use Rattle.std.proofs.Common.{◌∙◌}
use Rattle.script_replay.proofs.Began.{opened_left, opened_ready}
use Rattle.script_replay.proofs.opening.open_board.Goals as goal

pub returns-clause-left : goal.returns-clause-left
returns-clause-left c = opened_left _ c.split_off.ensures.splits (c.split_off.ensures.contents ∙ c.in_ok-board.ensures.contents)

pub returns-clause-ready : goal.returns-clause-ready
returns-clause-ready c = opened_ready _ c.split_off.ensures.splits (c.split_off.ensures.contents ∙ c.in_ok-board.ensures.contents)
