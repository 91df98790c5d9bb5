use Rattle.std.proofs.Common.{sym, eqb-true}
use Rattle.gev_record.proofs.Answering.{on_ok, some_length}
use Rattle.gev_record.proofs.Hearing.{turns_empty, turns_heard}
use Rattle.gev_record.proofs.turns.add_heard.Goals as goal

pub returns-then-is_empty : goal.returns-then-is_empty
returns-then-is_empty c =
    on_ok c.tick.result c.tick.ensures
    (turns_empty c.args.player.now c.tick.new.player c.args.used.now c.tick.new.used c.args.bytes.now c.args.mark c.args.text.now.items c.tick.new.text.items
    (eqb-true _ 0 (sym c.if-is_empty.ensures)))

pub returns : goal.returns
returns c =
    on_ok c.tick-2.result c.tick-2.ensures
    (turns_heard c.args.player.now c.receive.new.player c.tick-2.new.player c.args.used.now c.receive.new.used c.tick-2.new.used c.args.bytes.now c.args.mark c.args.text.now.items
    c.receive.new.text.items c.tick-2.new.text.items (some_length c.args.bytes.now (sym c.if-is_empty.ensures)) c.in_ok-receive.ensures)
