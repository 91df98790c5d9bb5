use Rattle.std.proofs.lemmas.Result.{err_from_is_err_and}
use Rattle.gev_script.specs.declared.line.Line.TheVariants.{Header}
use Rattle.gev_make.proofs.Texts.{leads_on, leads_stops, leads_end}
use Rattle.gev_make.proofs.Turns.{first_is_line, others_are_lines, lines_turn, lines_end}
use Rattle.gev_make.proofs.lines.write_lines.Goals as goal

pub write_one-requires : goal.write_one-requires
write_one-requires g c = first_is_line c.args.lines.now c.loop-line.line-index _ c.loop-line-test.true c.loop-line.invariant.lines

pub returns-in_err-write_one : goal.returns-in_err-write_one
returns-in_err-write_one g c =
    let p = err_from_is_err_and c.from_residual.result c.from_residual.ensures.1 in
    rw (p.1, p.2)
    (leads_stops _ _ _ _ _ _ _ _ _ _ _ c.loop-line.invariant.leads (lines_turn c.args.lines.now c.loop-line.line-index _ c.loop-line-test.true) c.in_err-write_one.ensures)

pub loop-line-preserved : goal.loop-line-preserved
loop-line-preserved g c = record {
  leads = leads_on _ _ _ _ _ _ _ _ _ _ c.loop-line.invariant.leads (lines_turn c.args.lines.now c.loop-line.line-index _ c.loop-line-test.true) c.in_ok-write_one.ensures;
  lines = others_are_lines c.args.lines.now c.loop-line.line-index (Header 0 0 0 0 0 0) c.loop-line-test.true c.loop-line.invariant.lines;
}

pub returns : goal.returns
returns g c = leads_end _ _ _ _ _ _ c.loop-line.invariant.leads (lines_end c.args.lines.now c.loop-line.line-index c.loop-line-test.false)
