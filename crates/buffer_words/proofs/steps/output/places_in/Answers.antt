use Rattle.std.proofs.Common.{arith, subst, sym, List, ℕ, ◌/◌}
use Rattle.buffer_words.proofs.Fields.{Reading, reading_first, reading_next, reading_done}
use Rattle.buffer_words.proofs.steps.output.places_in.Goals as goal

pub loop-rest-init : goal.loop-rest-init
loop-rest-init c = subst (λ (xs : List ℕ). Reading c.args.number c.args.number xs) (sym c.new-places.ensures) (reading_first _ c.requires.fields)

pub overflow_sub-rest : goal.overflow_sub-rest
overflow_sub-rest c = (reading_next _ _ _ c.loop-rest.invariant c.loop-rest-test.true).some

pub push-requires : goal.push-requires
push-requires c = (omega arith, (reading_next _ _ _ c.loop-rest.invariant c.loop-rest-test.true).room)

pub loop-rest-preserved : goal.loop-rest-preserved
loop-rest-preserved c =
    subst (λ (xs : List ℕ). Reading c.args.number (c.loop-rest.rest / 16) xs) (sym c.push.ensures.items)
    (reading_next _ _ _ c.loop-rest.invariant c.loop-rest-test.true).after

pub returns : goal.returns
returns c = record { fields = reading_done _ _ _ c.loop-rest.invariant (omega (arith, c.loop-rest-test.false)) }
