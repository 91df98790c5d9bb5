use Rattle.std.proofs.Common.{◌∷◌, ◌++◌, Ok}
use Rattle.std.specs.Prelude.{decimal, codes}
use Rattle.gev_script.proofs.Written.{grown_more, adds_more, adds_failed}
use Rattle.gev_script.proofs.writing.add_step.Goals as goal

pub returns-in_err-add_both : goal.returns-in_err-add_both
returns-in_err-add_both c =
    adds_failed c.from_residual-in_err-add_both.result _ _ _ c.from_residual-in_err-add_both.ensures.0
    (grown_more _ _ _ _ c.in_ok-add_number.ensures c.in_err-add_both.ensures)

pub returns-in-Some : goal.returns-in-Some
returns-in-Some c =
    let words = adds_more c.add_number-in-Some.result c.add_number.new.out.items c.add_both.new.out.items c.add_number-in-Some.new.out.items (32 ∷ c.act_word.result.now) (32 ∷ decimal c.from-in-Some.result) c.in_ok-add_both.ensures c.add_number-in-Some.ensures in
    rw (c.in-Some.is, ← c.from.ensures, ← c.from-in-Some.ensures, ← c.act_word.ensures)
    (adds_more c.add_number-in-Some.result c.args.out.now.items c.add_number.new.out.items _ (codes "step " ++ decimal c.from.result) _ c.in_ok-add_number.ensures words)

pub returns-in-None : goal.returns-in-None
returns-in-None c =
    let both = adds_more (Ok tt) c.args.out.now.items c.add_number.new.out.items c.add_both.new.out.items (codes "step " ++ decimal c.from.result) (32 ∷ c.act_word.result.now) c.in_ok-add_number.ensures c.in_ok-add_both.ensures in
    rw (c.in-None.is, ← c.from.ensures, ← c.act_word.ensures) both
