use Rattle.std.proofs.Common.{ap, ◌∙◌}
use Rattle.gvsp_wire.specs.View.{view}
use Rattle.acq_core.specs.Hearing.{need_of_verdict}
use Rattle.acq_core.proofs.Judging.{need_starved, need_stands, hears_starved}
use Rattle.acq_core.proofs.slots.tell_hold.Goals as goal

pub returns-in-Without-clause-need : goal.returns-in-Without-clause-need
returns-in-Without-clause-need c o s = need_starved c.args.p c.args.slot.now o (view c.args.packet.now) c.in-Without.field-0 c.starved.result s c.in-Without.is c.starved.ensures

pub returns-in-Without-clause-stands : goal.returns-in-Without-clause-stands
returns-in-Without-clause-stands c o s = hears_starved c.args.p c.args.slot.now o (view c.args.packet.now) c.in-Without.field-0 s c.in-Without.is

pub returns-in-With-clause-need : goal.returns-in-With-clause-need
returns-in-With-clause-need c o s =
    need_stands c.args.p c.args.slot.now o (view c.args.packet.now) c.in-With.field-0 c.in-With.assembly c.need.result s c.in-With.is
    (λ q b size heard a. c.need.ensures ∙ ap need_of_verdict (c.accept.ensures.verdict q b size heard a))
