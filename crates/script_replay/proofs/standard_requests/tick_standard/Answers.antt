use Rattle.script_replay.proofs.Replaying.{on_ok_two}
use Rattle.script_replay.proofs.Widened.{standard_tick}
use Rattle.script_replay.proofs.standard_requests.tick_standard.Goals as goal

pub returns : goal.returns
returns c =
    on_ok_two c.tick.result
    (λ told rest. standard_tick c.args.moment c.args.script.now c.tick.new.board told.mid told.fed c.tick.new.acq c.tick.new.counts c.args.out.now.items c.tick.new.out.items
    c.requires.keeps c.requires.widened told.takes told.all told.keeps told.requests told.keeps_too rest c.requires.empty told.told)
    c.tick.ensures.told c.tick.ensures.rest
