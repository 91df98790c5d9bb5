use Rattle.acq_core.proofs.Judging.{release_fills, release_nothing}
use Rattle.acq_core.proofs.Widths.{wide_more, wide_waiting}
use Rattle.acq_core.proofs.slots.release.Goals as goal

pub returns-in-Without-clause-fills : goal.returns-in-Without-clause-fills
returns-in-Without-clause-fills c o s = release_nothing c.args.cause c.args.p c.args.hold o c.in-Without.pair c.args.fills.now.items s c.in-Without.is

pub returns-in-With-clause-fills : goal.returns-in-With-clause-fills
returns-in-With-clause-fills c o s =
    release_fills c.args.cause c.args.p c.args.hold o c.in-With.place c.in-With.assembly c.finish-buf.result.0 c.args.fills.now.items
    c.push_reserved-in-With.new.self.items s c.in-With.is c.finish-buf.ensures.image c.push_reserved-in-With.ensures.items

pub returns-in-Without-clause-wide : goal.returns-in-Without-clause-wide
returns-in-Without-clause-wide c wide =
    wide_more c.args.spare.now.items c.push_reserved.new.self.items c.in-Without.pair wide (wide_waiting c.args.p c.args.hold c.in-Without.pair c.requires.stands c.in-Without.is) c.push_reserved.ensures.items

pub returns-in-With-clause-wide : goal.returns-in-With-clause-wide
returns-in-With-clause-wide c wide =
    wide_more c.args.spare.now.items c.push_reserved-in-With-2.new.self.items _ wide (record { kept = c.finish-buf.ensures.kept; refused = c.finish-buf.ensures.refused }) c.push_reserved-in-With-2.ensures.items
