use Rattle.std.proofs.Common.{Some, None, Ok, refl, ap, arith, rules, ◌∷◌, [], ◌≡◌}
use Rattle.board_machine.specs.declared.events.Event.TheVariants.{Look, Grab, Pool}
use Rattle.board_machine.proofs.Adding.{adds_kind, adds_first, adds_step}
use Rattle.board_model.proofs.board.PlainBoard.pool_if_held.Goals as goal

pub returns-then-ne-clause-entries : goal.returns-then-ne-clause-entries
returns-then-ne-clause-entries c =
    adds_kind _ _ _ _ _ tt (record { seen = record { word = c.load-word.result; grab = None }; grabbed = first_of (search rules, grind arith); is = refl }) c.load-word.ensures.step

pub returns-in-Ok-clause-entries : goal.returns-in-Ok-clause-entries
returns-in-Ok-clause-entries c =
    adds_first _ _ _ _ _ (λ es. es ≡ Grab c.args.place c.load-word.result.generation (Ok tt) ∷ Pool c.args.place ∷ []) _ tt
    (λ es kind. record { seen = record { word = c.load-word.result; grab = Some (Ok tt) }; grabbed = first_of (search rules, grind arith); is = ap (λ fs. Look c.args.place c.load-word.result ∷ fs) kind })
    c.load-word.ensures.step
    (adds_first _ _ _ _ _ (λ es. es ≡ Pool c.args.place ∷ []) _ tt
    (λ es kind. ap (λ fs. Grab c.args.place c.load-word.result.generation (Ok tt) ∷ fs) kind)
    c.in-Ok.ensures.step (adds_step _ _ _ _ tt c.pool.ensures.step))
