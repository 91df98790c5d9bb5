use Rattle.std.proofs.Common.{sym, subst}
use Rattle.script_image.specs.Showing.{LiesAt}
use Rattle.script_image.proofs.showing.take_each.Goals as goal

pub draw_at-end-requires : goal.draw_at-end-requires
draw_at-end-requires g c = record { lies = subst (λ i. LiesAt c.args.place i.script) (sym c.showing.view_is) c.requires.lies }
