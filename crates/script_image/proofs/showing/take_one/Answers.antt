use Rattle.std.proofs.Common.{sym, subst}
use Rattle.script_image.specs.Showing.{LiesAt}
use Rattle.script_image.proofs.showing.take_one.Goals as goal

pub draw_at-requires : goal.draw_at-requires
draw_at-requires g c = record { lies = subst (λ i. LiesAt c.args.place i.script) (sym c.showing.view_is) c.requires.lies }
