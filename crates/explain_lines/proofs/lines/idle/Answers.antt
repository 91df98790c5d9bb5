use Rattle.std.proofs.Common.{◌++◌, ◌∷◌, [], ap, ◌∙◌}
use Rattle.note_tape.specs.declared.told.Told.TheVariants.{Idle}
use Rattle.explain_lines.proofs.Noted.{idle_goes}
use Rattle.explain_lines.proofs.lines.idle.Goals as goal

pub returns : goal.returns
returns c digits spelled is long =
    idle_goes c.args.running.now digits spelled c.push.new.self.items c.args.bytes c.saturating_add-running.result c.requires.keeps c.requires.stopped is long
    (c.in_ok-push.ensures.items ∙ ap (λ l. l ++ Idle c.args.bytes ∷ []) c.requires.untold) c.saturating_add-running.ensures
