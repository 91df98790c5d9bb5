-- With OldestFirstOverwrite nothing is dropped before a fill.
use Rattle.std.proofs.Common.{sym, subst}
use Rattle.buffer_words.specs.Several.{EntersOf}
use Rattle.board_model.specs.Steps.{Drops}
use Rattle.board_calls.specs.declared.mode.Mode.{Mode}
use Rattle.shared_modes.proofs.Parts.{drops_nothing_too}
use Rattle.shared_modes.proofs.filling.drop_before_fill.Goals as goal

pub returns-in-OldestFirstOverwrite-clause-enters : goal.returns-in-OldestFirstOverwrite-clause-enters
returns-in-OldestFirstOverwrite-clause-enters g c =
    subst (λ (m : Mode). EntersOf c.args.pass.now (Drops m 0) c.args.pass.now) (sym c.in-OldestFirstOverwrite.is) (drops_nothing_too c.args.pass.now)
