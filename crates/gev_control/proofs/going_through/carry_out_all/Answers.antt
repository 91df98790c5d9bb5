-- Order by order.
use Rattle.std.proofs.Common.{refl, ◌∙◌, arith}
use Rattle.gev_control.specs.CarriesThrough.{begins}
use Rattle.gev_control.proofs.Throughs.{through_on, through_given_up, through_all}
use Rattle.gev_control.proofs.going_through.carry_out_all.Goals as goal

pub loop-place-init : goal.loop-place-init
loop-place-init g c = record {
  through = begins;
  faults = refl;
}

pub loop-place-preserved : goal.loop-place-preserved
loop-place-preserved g c = record {
  through = through_on c.args.camera c.args.orders.now c.loop-place.place _ _ _ _ _ _ c.loop-place-test.true c.loop-place.invariant.through c.in-None.ensures.one;
  faults = c.in-None.ensures.fails ∙ c.loop-place.invariant.faults;
}

pub returns-in-Some-clause-carries_through : goal.returns-in-Some-clause-carries_through
returns-in-Some-clause-carries_through g c =
    through_given_up c.args.camera c.args.orders.now c.loop-place.place _ _ _ _ _ _ _ c.loop-place-test.true c.loop-place.invariant.through
    c.in-Some.ensures.one

pub returns-clause-carries_through : goal.returns-clause-carries_through
returns-clause-carries_through g c =
    through_all c.args.camera c.args.orders.now c.loop-place.place _ _ _ (omega (arith, c.loop-place-test.false, c.loop-place.auto.place-end)) c.loop-place.invariant.through
