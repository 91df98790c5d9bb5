use Rattle.std.proofs.Common.{Ok, ◌∙◌}
use Rattle.board_calls.specs.Calls.{Stops}
use Rattle.acq_core.specs.Receiver.{buffers}
use Rattle.std.proofs.lemmas.Result.{on_ok_weaker}
use Rattle.script_replay.proofs.Driving.{stop_drives, no_stop_drives, stop_rests, away_called, away_before}
use Rattle.script_replay.proofs.acquisition_lines.stop.Goals as goal

pub returns-in-Ok-clause-drives : goal.returns-in-Ok-clause-drives
returns-in-Ok-clause-drives c =
    on_ok_weaker c.line_done.result
    (λ said. stop_drives c.args.mode _ _ _ _ _ _ _ _ c.args.flags _ c.requires.rest c.in-Ok.ensures.entries c.in-Ok.ensures.contents c.stop.ensures.takes c.fill_retired.ensures.fills c.fill_retired.ensures.rest said)
    c.line_done.ensures

pub fill_retired-requires-clause-away : goal.fill_retired-requires-clause-away
fill_retired-requires-clause-away c =
    away_before c.ds_stop.new.self c.args.acq.now c.stop.new.self c.requires.rest.no_fill c.stop.ensures.buffers
    (away_called c.args.board.now c.ds_stop.new.self (Stops c.args.flags (Ok tt)) (buffers c.args.acq.now) c.requires.rest.ready c.in-Ok.ensures.entries c.in-Ok.ensures.contents c.requires.rest.away)

pub returns-in-Ok-clause-rest : goal.returns-in-Ok-clause-rest
returns-in-Ok-clause-rest c =
    stop_rests _ _ _ _ _ _ c.args.flags c.requires.rest c.in-Ok.ensures.entries c.in-Ok.ensures.contents c.stop.ensures.takes c.fill_retired.ensures.rest c.stop.ensures.asked c.fill_retired.ensures.fills
    c.fill_retired.ensures.no_fill (c.fill_retired.ensures.requests ∙ c.stop.ensures.requests) c.fill_retired.ensures.away

pub returns-in-Err-clause-drives : goal.returns-in-Err-clause-drives
returns-in-Err-clause-drives c =
    on_ok_weaker c.line_refused.result
    (λ said. no_stop_drives c.args.mode _ _ _ _ _ c.args.flags c.in-Err.error _ c.in-Err.ensures.entries c.in-Err.ensures.contents said)
    c.line_refused.ensures
