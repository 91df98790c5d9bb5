use Rattle.explain_lines.proofs.Streams.{tick_told_ok, tick_rests_ok}
use Rattle.explain_lines.proofs.lines.tick_stream.Goals as goal

pub returns-clause-told : goal.returns-clause-told
returns-clause-told c =
    tick_told_ok c.tape_requests.result c.args.mode c.args.told.moment c.args.told.standard c.args.board.now c.tape_retired.new.board c.args.acq.now c.tell_ends.new.self c.tick.new.self c.tape_retired.new.acq c.tape_requests.new.acq
    c.args.counts.now c.tape_retired.new.counts c.args.out.now.items c.tape_requests.new.out.items c.args.tape.now.items c.tape_retired.new.tape.items c.tape_requests.new.tape.items c.requires.rest
    c.tell_ends.ensures.rest c.tell_ends.ensures.telling c.tell_ends.ensures.fills c.tell_ends.ensures.requests c.tick.ensures.takes c.in_ok-tape_retired.ensures.told
    c.in_ok-tape_retired.ensures.rest c.in_ok-tape_retired.ensures.requests c.in_ok-tape_retired.ensures.resends c.requires.empty
    c.tape_requests.ensures.rest c.tape_requests.ensures.told c.tape_requests.ensures.lines

pub returns-clause-rest : goal.returns-clause-rest
returns-clause-rest c =
    tick_rests_ok c.tape_requests.result c.args.mode c.args.told.moment c.args.board.now c.tape_retired.new.board c.args.acq.now c.tell_ends.new.self c.tick.new.self c.tape_retired.new.acq c.tape_requests.new.acq
    c.args.counts.now c.tape_retired.new.counts c.args.tape.now.items c.tape_retired.new.tape.items c.requires.rest
    c.tell_ends.ensures.rest c.tell_ends.ensures.fills c.tell_ends.ensures.requests c.tick.ensures.takes c.tick.ensures.asked c.in_ok-tape_retired.ensures.told
    c.in_ok-tape_retired.ensures.rest c.in_ok-tape_retired.ensures.no_fill c.in_ok-tape_retired.ensures.away
    c.tape_requests.ensures.rest c.tape_requests.ensures.fills c.tape_requests.ensures.no_request
