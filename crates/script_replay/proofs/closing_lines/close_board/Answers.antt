use Rattle.script_replay.proofs.Closing.{closes_if, stays_if}
use Rattle.script_replay.proofs.closing_lines.close_board.Goals as goal
use Rattle.script_replay.proofs.closing_lines.close_board.Goals.{then-named, else-named}

pub returns : goal.returns
returns c =
    elim c.if-named.branch [
      | then-named w ↦
          closes_if c.line_done.result c.args.board.now w.ds_close.new.self c.if-named.board c.args.named _ w.if-named.true w.board-is w.ds_close.ensures.entries w.ds_close.ensures.contents c.requires.ready c.line_done.ensures
      | else-named w ↦ stays_if c.line_done.result c.args.board.now c.if-named.board c.args.named _ w.if-named.false w.board-is c.requires.ready c.line_done.ensures
    ]
