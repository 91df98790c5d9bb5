use Rattle.gev_types.specs.Filling.{Filling}
use Rattle.board_machine.specs.declared.events.Event.TheVariants.{Vacate}
use Rattle.board_machine.proofs.Adding.{adds_step}
use Rattle.board_model.proofs.CallsKinds.{revoke_done, revoke_refusal}
use Rattle.board_model.proofs.board.PlainBoard.ds_revoke.Goals as goal

pub returns-in-Ok-clause-entries : goal.returns-in-Ok-clause-entries
returns-in-Ok-clause-entries c =
    revoke_done Filling _ _ _ _ c.args.id c.vacate.result c.in-Ok.ensures.entries
    (adds_step _ _ _ (Vacate c.args.id.place) tt c.vacate.ensures.step)

pub returns-in-Err-clause-entries : goal.returns-in-Err-clause-entries
returns-in-Err-clause-entries c = revoke_refusal Filling _ _ _ c.args.id c.in-Err.error _ c.as_busy.ensures c.in-Err.ensures.entries
