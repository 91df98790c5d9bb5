use Rattle.script_replay.proofs.Standings.{begun}
use Rattle.script_replay.proofs.beginning.begin.Goals as goal

pub returns-clause-keeps : goal.returns-clause-keeps
returns-clause-keeps c =
    begun c.in_ok-board.board c.in_ok-acq.acq c.in_ok-tree.tree c.in_ok-tree.stream c.args.config c.requires c.in_ok-board.ensures.left c.in_ok-board.ensures.ready
    c.in_ok-acq.ensures.stands c.in_ok-acq.ensures.config c.in_ok-acq.ensures.fills c.in_ok-acq.ensures.requests c.in_ok-acq.ensures.buffers c.in_ok-acq.ensures.asked
    c.in_ok-tree.ensures.handles c.in_ok-tree.ensures.stream
