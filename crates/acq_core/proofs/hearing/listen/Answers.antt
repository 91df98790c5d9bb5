use Rattle.std.proofs.Common.{sym, ◌∙◌}
use Rattle.gvsp_wire.specs.View.{view}
use Rattle.acq_core.proofs.Listening.{listen_late, listen_on}
use Rattle.acq_core.proofs.hearing.listen.Goals as goal

pub returns-then-is_late-clause-answers : goal.returns-then-is_late-clause-answers
returns-then-is_late-clause-answers c s acts sound =
    listen_late c.args.window.now c.ignore.new.window s (view c.args.packet.now) c.head.result c.late.result c.bound-bound.result c.ignore.result
    c.head.ensures (c.bound-bound.ensures s acts) (sym c.is_late.ensures ∙ c.if-is_late.true) c.late.ensures (c.ignore.ensures.answers s acts)

pub returns-clause-answers : goal.returns-clause-answers
returns-clause-answers c s acts sound =
    listen_on c.args.window.now c.hear_packet.new.window s (view c.args.packet.now) c.head.result c.bound-bound.result c.hear_packet.result
    c.head.ensures (c.bound-bound.ensures s acts) (sym c.is_late.ensures ∙ c.if-is_late.false) (c.hear_packet.ensures.answers s acts sound)
