use Rattle.gev_world.proofs.Taking.{taking_start, takes_as, fewer_wait, taking_on, takes_end, lines_end, lines_stop}
use Rattle.gev_world.proofs.takes.write_takes.Goals as goal

pub takes-init : goal.takes-init
takes-init g c = taking_start c.args.host.now _ _ c.requires.hosted

pub takes-smaller : goal.takes-smaller
takes-smaller g c =
    fewer_wait c.args.host.now c.takes.host c.write_take.new.host _ _ _ _ _ _ c.takes.invariant
    (takes_as _ _ _ _ _ _ _ _ c.in-Ok-true.field-0-test c.in-Ok-true.ensures)

pub takes-preserved : goal.takes-preserved
takes-preserved g c =
    taking_on c.args.host.now c.takes.host c.write_take.new.host _ _ _ _ _ _ c.takes.invariant
    (takes_as _ _ _ _ _ _ _ _ c.in-Ok-true.field-0-test c.in-Ok-true.ensures)

pub returns-in-Ok-false-clause-taken : goal.returns-in-Ok-false-clause-taken
returns-in-Ok-false-clause-taken g c =
    takes_end c.args.host.now c.takes.host c.write_take.new.host _ _ _ _ _ _ c.takes.invariant
    (takes_as _ _ _ _ _ _ _ _ c.in-Ok-false.field-0-test c.in-Ok-false.ensures)

pub returns-in-Ok-false-clause-wrote : goal.returns-in-Ok-false-clause-wrote
returns-in-Ok-false-clause-wrote g c =
    lines_end c.args.host.now c.takes.host c.write_take.new.host _ _ _ _ _ _ c.takes.invariant
    (takes_as _ _ _ _ _ _ _ _ c.in-Ok-false.field-0-test c.in-Ok-false.ensures)

pub returns-in-Err-clause-wrote : goal.returns-in-Err-clause-wrote
returns-in-Err-clause-wrote g c =
    lines_stop c.in-Err.stop c.args.host.now c.takes.host c.write_take.new.host _ _ _ _ _ _ c.takes.invariant c.in-Err.ensures
