use Rattle.std.proofs.Common.{sym, ap, ◌∙◌, List}
use Rattle.std.specs.Prelude.{◌==◌, position}
use Rattle.acq_core.specs.declared.slot.Slot.{Slot}
use Rattle.acq_core.proofs.FirstOnes.{round_some, round_none}
use Rattle.acq_core.proofs.waiting.round_of.Goals as goal

pub returns-in-Some : goal.returns-in-Some
returns-in-Some c s acts sound =
    round_some c.args.window.now s c.args.block c.in-Some.at c.index.result.now acts sound
    (sym (c.in-Some.ensures ∙ ap (λ (xs : List Slot). position (λ (y : Slot). y.block == c.args.block) xs) c.as_slice.ensures.value)) c.index.ensures

pub returns-in-None : goal.returns-in-None
returns-in-None c s acts sound =
    round_none c.args.window.now s c.args.block acts
    (sym (c.in-None.ensures ∙ ap (λ (xs : List Slot). position (λ (y : Slot). y.block == c.args.block) xs) c.as_slice.ensures.value))
