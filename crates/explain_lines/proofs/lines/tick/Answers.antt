use Rattle.std.proofs.Common.{refl}
use Rattle.explain_lines.proofs.Noted.{tick_tells_ok}
use Rattle.explain_lines.proofs.lines.tick.Goals as goal

pub returns : goal.returns
returns c =
    tick_tells_ok c.tick_stream.result c.args.moment c.args.script.now.widening.widened c.args.script.now c.tick_stream.new.out.items c.args.tape.now.items c.tick_stream.new.tape.items c.tick_stream.new.board c.tick_stream.new.acq c.tick_stream.new.counts c.requires.keeps c.requires.untold refl
    c.tick_stream.ensures.told c.tick_stream.ensures.rest
