use Rattle.std.proofs.Common.{◌∷◌, Ok}
use Rattle.std.specs.Prelude.{decimal}
use Rattle.gev_script.proofs.Written.{grown_more, adds_more, adds_failed}
use Rattle.gev_script.proofs.writing.add_times.Goals as goal

pub returns-in_err-add_number-2 : goal.returns-in_err-add_number-2
returns-in_err-add_number-2 c =
    adds_failed c.from_residual-in_err-add_number-2.result _ _ _ c.from_residual-in_err-add_number-2.ensures.0
    (grown_more _ _ _ _ c.in_ok-add_number.ensures c.in_err-add_number-2.ensures)

pub returns : goal.returns
returns c =
    let both = adds_more (Ok tt) c.args.out.now.items c.add_number.new.out.items c.add_number-2.new.out.items (32 ∷ decimal c.from.result) (32 ∷ decimal c.from-2.result) c.in_ok-add_number.ensures c.in_ok-add_number-2.ensures in
    rw (← c.from.ensures, ← c.from-2.ensures, ← c.from-3.ensures) (adds_more c.add_number-3.result _ c.add_number-2.new.out.items _ _ _ both c.add_number-3.ensures)
