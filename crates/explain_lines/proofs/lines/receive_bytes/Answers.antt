use Rattle.std.proofs.Common.{arith}
use Rattle.explain_lines.proofs.Noted.{heard_goes_ok, heard_wide_ok}
use Rattle.explain_lines.proofs.lines.receive_bytes.Goals as goal

pub returns-clause-goes : goal.returns-clause-goes
returns-clause-goes c =
    heard_goes_ok c.receive.result c.args.running.now c.args.bytes.now c.args.tape.now.items c.receive.new.tape.items c.receive.new.board c.receive.new.acq c.receive.new.counts c.requires.keeps c.requires.untold c.requires.runs c.receive.ensures.drives c.receive.ensures.rest c.receive.ensures.config

pub returns-clause-wide : goal.returns-clause-wide
returns-clause-wide c =
    heard_wide_ok c.receive.result c.args.running.now c.args.bytes.now c.args.tape.now.items c.receive.new.tape.items c.receive.new.board c.receive.new.acq c.receive.new.counts c.requires.keeps c.requires.untold c.requires.runs (λ i. let fits = c.type_inv.bytes i in omega arith)
    c.receive.ensures.drives c.receive.ensures.rest c.receive.ensures.config
