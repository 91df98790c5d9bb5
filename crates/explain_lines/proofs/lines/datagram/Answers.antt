use Rattle.std.proofs.Common.{false, refl, ◌∙◌}
use Rattle.std.proofs.lemmas.Result.{on_ok_weaker}
use Rattle.script_replay.proofs.Widened.{moved_test}
use Rattle.explain_lines.proofs.Noted.{idle_line_ok, plain_tells}
use Rattle.explain_lines.proofs.lines.datagram.Goals as goal

pub returns-then-run-ne1 : goal.returns-then-run-ne1
returns-then-run-ne1 c =
    idle_line_ok c.idle.result c.args.digits.now c.args.script.now c.idle.new.tape.items c.idle.new.running _ c.requires.fits.spelled (λ e. c.if-run-ne1.true (c.run-run.ensures ∙ e)) refl c.idle.ensures

pub returns : goal.returns
returns c =
    on_ok_weaker c.receive_bytes.result
    (λ goes. plain_tells c.args.digits.now c.decode.new.bytes c.args.script.now c.receive_bytes.new.tape.items c.receive_bytes.new.running c.decode.ensures
    (moved_test c.args.script.now.widening.version c.args.script.now.running.board.board.run c.run-run.result c.args.script.now.widening.widener c.top-top.result c.decode.new.bytes false c.run-run.ensures c.top-top.ensures c.if-is_standard.ensures)
    (goes c.args.digits.now c.decode.ensures))
    c.receive_bytes.ensures.goes
