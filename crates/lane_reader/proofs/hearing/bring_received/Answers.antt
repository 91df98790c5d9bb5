-- By what the receive gave.
use Rattle.std.proofs.Common.{length, ap, sym, ◌∙◌, subst, Ok}
use Rattle.gev_lanes.specs.Acts.{Hears}
use Rattle.gev_links.specs.Links.{answer_of}
use Rattle.lane_reader.specs.LanesTurns.{part_of, Each}
use Rattle.lane_reader.proofs.Hearings.{heard_nothing, heard_failed}
use Rattle.lane_reader.proofs.hearing.bring_received.Goals as goal

pub returns-in-Some-clause-hears : goal.returns-in-Some-clause-hears
returns-in-Some-clause-hears g c =
    subst (λ a. Each (λ k. Hears (part_of (length c.args.lanes.now) k a) c.args.moment) 0 c.args.reader.now c.bring_to_lane.new.reader)
    (sym (ap (λ r. answer_of r c.args.out.now) (c.in-Ok.is ∙ ap (λ x. Ok x) c.in-Some.is))) (c.bring_to_lane.ensures.hears c.in-Some.field-0-1)

pub returns-in-None-clause-hears : goal.returns-in-None-clause-hears
returns-in-None-clause-hears g c =
    heard_nothing _ c.args.moment (answer_of c.args.received c.args.out.now) c.args.reader.now
    (ap (λ r. answer_of r c.args.out.now) (c.in-Ok.is ∙ ap (λ x. Ok x) c.in-None.is))

pub returns-in-Err-clause-hears : goal.returns-in-Err-clause-hears
returns-in-Err-clause-hears g c =
    heard_failed _ c.args.moment (answer_of c.args.received c.args.out.now) c.args.reader.now (ap (λ r. answer_of r c.args.out.now) c.in-Err.is)
