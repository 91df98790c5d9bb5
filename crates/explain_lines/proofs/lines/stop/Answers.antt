use Rattle.explain_lines.proofs.Noted.{stop_tells_ok}
use Rattle.explain_lines.proofs.lines.stop.Goals as goal

pub returns : goal.returns
returns c =
    stop_tells_ok c.stop_stream.result c.args.flags c.args.script.now c.stop_stream.new.out.items c.args.tape.now.items c.stop_stream.new.tape.items c.stop_stream.new.board c.stop_stream.new.acq c.stop_stream.new.counts c.requires.keeps c.requires.untold
    c.stop_stream.ensures.drives c.stop_stream.ensures.rest c.stop_stream.ensures.config
