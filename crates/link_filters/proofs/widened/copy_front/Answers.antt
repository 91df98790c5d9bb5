use Rattle.std.proofs.Common.{◌≡◌, ◌++◌, take, drop, sym, subst, ◌∙◌, arith}
use Rattle.std.proofs.lemmas.List.{take_all}
use Rattle.link_filters.proofs.Fronts.{front_taken}
use Rattle.link_filters.proofs.widened.copy_front.Goals as goal

pub returns-clause-front : goal.returns-clause-front
returns-clause-front c =
    subst (λ l. take c.min-count.result (l ++ drop c.min-count.result c.args.out.now) ≡ take 9000 c.args.bytes.now) (sym c.copy_from_slice.ensures.after)
    (front_taken c.min-count.result 9000 c.args.bytes.now _ (omega (arith, c.min-count.ensures, c.requires)))

pub returns-clause-whole : goal.returns-clause-whole
returns-clause-whole c fits = returns-clause-front c ∙ take_all 9000 c.args.bytes.now fits
