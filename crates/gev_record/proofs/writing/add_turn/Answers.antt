use Rattle.std.specs.Prelude.{Some, None}
use Rattle.gev_record.specs.Standing.{turn_of}
use Rattle.gev_record.proofs.Answering.{on_ok}
use Rattle.gev_record.proofs.Turning.{stands_on}
use Rattle.gev_record.proofs.writing.add_turn.Goals as goal

pub returns-in-Some-clause-stands : goal.returns-in-Some-clause-stands
returns-in-Some-clause-stands c =
    rw c.in-Some.is
    (on_ok c.add_heard.result c.add_heard.ensures
    (λ turns. stands_on c.args.player.now c.add_heard.new.player c.args.used.now c.add_heard.new.used (turn_of (Some c.in-Some.bytes.now) c.args.mark) c.args.text.now.items c.add_heard.new.text.items turns))

pub returns-in-None-clause-stands : goal.returns-in-None-clause-stands
returns-in-None-clause-stands c =
    rw c.in-None.is
    (on_ok c.add_silent.result c.add_silent.ensures
    (λ turns. stands_on c.args.player.now c.add_silent.new.player c.args.used.now c.add_silent.new.used (turn_of None c.args.mark) c.args.text.now.items c.add_silent.new.text.items turns))
