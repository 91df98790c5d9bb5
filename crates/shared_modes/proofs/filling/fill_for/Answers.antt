use Rattle.shared_modes.proofs.Parts.{fills}
use Rattle.shared_modes.proofs.filling.fill_for.Goals as goal

pub returns-clause-enters : goal.returns-clause-enters
returns-clause-enters g c =
    fills _ _ _ _ c.args.place c.args.mode c.args.buf _ c.drop_before_fill-dropped.ensures.enters c.fill.ensures.entry
