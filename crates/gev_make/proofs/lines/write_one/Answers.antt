use Rattle.std.proofs.lemmas.Result.{err_from_is_err_and}
use Rattle.gev_make.proofs.Texts.{writes_none}
use Rattle.gev_make.proofs.lines.write_one.Goals as goal

pub returns-in_err-spell : goal.returns-in_err-spell
returns-in_err-spell g c =
    let p = err_from_is_err_and c.from_residual.result c.from_residual.ensures.1 in rw (p.1, p.2) (writes_none _ _ _)
