use Rattle.std.proofs.Common.{Ok, ◌∙◌}
use Rattle.std.proofs.lemmas.Result.{on_ok_weaker}
use Rattle.board_calls.specs.Calls.{Stops}
use Rattle.acq_core.specs.Receiver.{config_of, buffers}
use Rattle.script_replay.proofs.Driving.{stop_rests, away_called, away_before}
use Rattle.explain_lines.proofs.Datagrams.{rest_kept}
use Rattle.explain_lines.proofs.Streams.{stop_drives, no_stop_drives}
use Rattle.explain_lines.proofs.lines.stop_stream.Goals as goal

pub tape_retired-requires-clause-away : goal.tape_retired-requires-clause-away
tape_retired-requires-clause-away c =
    away_before c.ds_stop.new.self c.tell_ends.new.self c.stop.new.self (c.tell_ends.ensures.fills ∙ c.requires.rest.no_fill) c.stop.ensures.buffers
    (away_called c.args.board.now c.ds_stop.new.self (Stops c.args.flags (Ok tt)) (buffers c.tell_ends.new.self) c.requires.rest.ready c.in-Ok.ensures.entries c.in-Ok.ensures.contents
    (let rest = rest_kept c.args.board.now c.args.acq.now c.tell_ends.new.self c.requires.rest c.tell_ends.ensures.rest c.tell_ends.ensures.fills c.tell_ends.ensures.requests in rest.away))

pub returns-in_ok-tape_retired-in-Ok-clause-drives : goal.returns-in_ok-tape_retired-in-Ok-clause-drives
returns-in_ok-tape_retired-in-Ok-clause-drives c =
    on_ok_weaker c.line_done.result
    (λ said. stop_drives c.args.mode c.args.board.now c.ds_stop.new.self c.tape_retired.new.board c.args.acq.now c.tell_ends.new.self c.stop.new.self c.tape_retired.new.acq c.args.counts.now c.tape_retired.new.counts c.args.flags c.line_done.new.out.items
    c.args.tape.now.items c.tape_retired.new.tape.items c.in-Ok.ensures.entries c.in-Ok.ensures.contents c.tell_ends.ensures.rest c.tell_ends.ensures.telling (c.tell_ends.ensures.fills ∙ c.requires.rest.no_fill) c.stop.ensures.takes
    c.in_ok-tape_retired-in-Ok.ensures.told c.in_ok-tape_retired-in-Ok.ensures.rest said)
    c.line_done.ensures

pub returns-in_ok-tape_retired-in-Ok-clause-rest : goal.returns-in_ok-tape_retired-in-Ok-clause-rest
returns-in_ok-tape_retired-in-Ok-clause-rest c =
    on_ok_weaker c.line_done.result
    (λ said. stop_rests c.args.board.now c.ds_stop.new.self c.tape_retired.new.board c.tell_ends.new.self c.stop.new.self c.tape_retired.new.acq c.args.flags
    (rest_kept c.args.board.now c.args.acq.now c.tell_ends.new.self c.requires.rest c.tell_ends.ensures.rest c.tell_ends.ensures.fills c.tell_ends.ensures.requests)
    c.in-Ok.ensures.entries c.in-Ok.ensures.contents c.stop.ensures.takes c.in_ok-tape_retired-in-Ok.ensures.rest c.stop.ensures.asked c.in_ok-tape_retired-in-Ok.ensures.told.all
    c.in_ok-tape_retired-in-Ok.ensures.no_fill (c.in_ok-tape_retired-in-Ok.ensures.requests ∙ c.stop.ensures.requests) c.in_ok-tape_retired-in-Ok.ensures.away)
    c.line_done.ensures

pub returns-in-Err-clause-drives : goal.returns-in-Err-clause-drives
returns-in-Err-clause-drives c =
    on_ok_weaker c.line_refused.result
    (λ said. no_stop_drives c.args.mode c.args.board.now c.ds_stop.new.self c.args.acq.now c.args.counts.now (config_of c.args.acq.now) c.args.flags c.in-Err.error c.line_refused.new.out.items c.args.tape.now.items c.in-Err.ensures.entries c.in-Err.ensures.contents said)
    c.line_refused.ensures
