use Rattle.std.proofs.Common.{◌∙◌}
use Rattle.explain_lines.proofs.Retiring.{tells_fill_ok}
use Rattle.explain_lines.proofs.retired.tape_filled.Goals as goal

pub returns : goal.returns
returns c =
    tells_fill_ok c.tape_done.result c.args.mode c.args.end c.args.fill c.args.board.now c.fill_one-filled.new.board c.args.counts.now c.fill_one-filled.new.counts c.args.tape.now.items c.tape_gone.new.tape.items c.tape_done.new.tape.items
    c.fill_one-filled.result c.fill_one-filled.new.gone.items c.id_at.result c.id_at.ensures c.fill_one-filled.ensures (λ before marks xs is. c.in_ok-tape_gone.ensures before marks xs (c.as_slice.ensures.value ∙ is)) c.tape_done.ensures
