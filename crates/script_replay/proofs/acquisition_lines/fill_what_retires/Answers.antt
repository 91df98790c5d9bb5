use Rattle.script_replay.proofs.Driving.{away_before}
use Rattle.script_replay.proofs.Claiming.{settled_by}
use Rattle.script_replay.proofs.acquisition_lines.fill_what_retires.Goals as goal

pub fill_retired-requires-clause-away : goal.fill_retired-requires-clause-away
fill_retired-requires-clause-away c =
    away_before c.args.board.now c.args.acq.now c.datagram-need.new.self c.requires.no_fill c.datagram-need.ensures.buffers c.requires.away

pub returns-clause-settled : goal.returns-clause-settled
returns-clause-settled c =
    settled_by c.args.mode c.args.board.now c.fill_retired.new.board c.args.acq.now c.datagram-need.new.self c.fill_retired.new.acq _ _ _ c.datagram-need.ensures.takes c.fill_retired.ensures.rest c.requires.no_fill c.fill_retired.ensures.fills
