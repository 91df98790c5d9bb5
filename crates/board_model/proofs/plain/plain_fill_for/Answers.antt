use Rattle.board_model.proofs.Parts.{fills}
use Rattle.board_model.proofs.plain.plain_fill_for.Goals as goal

pub returns-clause-entries : goal.returns-clause-entries
returns-clause-entries c =
    fills _ _ _ _ c.drop_before_fill-dropped.result c.args.place c.args.mode c.args.buf _ c.drop_before_fill-dropped.ensures.entries c.fill.ensures.step
