use Rattle.std.proofs.Common.{true, false}
use Rattle.gev_script.specs.Lines as script_line
use Rattle.script_replay.proofs.Widened.{first_version, not_standard, bytes_do, moved_test}
use Rattle.script_replay.proofs.wide_lines.run_any_datagram.Goals as goal

pub returns-then-script-ne2 : goal.returns-then-script-ne2
returns-then-script-ne2 c = first_version c.args.digits.now c.args.script.now c.run_datagram.new.running c.if-script-ne2.true c.run_datagram.ensures

pub returns-then-is_standard : goal.returns-then-is_standard
returns-then-is_standard c =
    bytes_do c.args.digits.now c.decode.new.bytes c.args.script.now c.widen_bytes.new.script c.decode.ensures
    (moved_test c.args.script.now.widening.version c.args.script.now.running.board.board.run c.run-run.result c.args.script.now.widening.widener c.top-top.result c.decode.new.bytes true c.run-run.ensures c.top-top.ensures c.if-is_standard.ensures)
    (c.widen_bytes.ensures (script_line.datagram c.args.digits.now))

pub returns : goal.returns
returns c =
    not_standard c.args.digits.now c.decode.new.bytes c.args.script.now c.run_datagram-2.new.running c.decode.ensures
    (moved_test c.args.script.now.widening.version c.args.script.now.running.board.board.run c.run-run.result c.args.script.now.widening.widener c.top-top.result c.decode.new.bytes false c.run-run.ensures c.top-top.ensures c.if-is_standard.ensures)
    c.run_datagram-2.ensures
