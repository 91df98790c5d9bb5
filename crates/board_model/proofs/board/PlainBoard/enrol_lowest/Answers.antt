use Rattle.std.proofs.Common.{[], refl, ◌∙◌}
use Rattle.board_machine.proofs.Adding.{adds_nothing}
use Rattle.board_model.proofs.CallsAnnounce.{enrol_more, enrol_found}
use Rattle.board_model.proofs.board.PlainBoard.enrol_lowest.Goals as goal

pub enrol-requires-clause-actor : goal.enrol-requires-clause-actor
enrol-requires-clause-actor c = c.loop-place.invariant.tried.actors _ c.requires.actor

pub loop-place-init : goal.loop-place-init
loop-place-init c = record {
  tried = adds_nothing _ _ _ (record { words = []; all = refl; is = refl });
  same = refl;
  contents = refl;
}

pub loop-place-preserved : goal.loop-place-preserved
loop-place-preserved c = record {
  tried = enrol_more _ _ _ _ c.loop-place.place c.loop-place.buf c.args.buf c.in-Err._word c.loop-place.invariant.same c.loop-place.invariant.tried c.in-Err.ensures.step;
  same = c.in-Err.ensures.back ∙ c.loop-place.invariant.same;
  contents = c.in-Err.ensures.refused ∙ c.loop-place.invariant.contents;
}

pub returns-in-Ok-clause-entries : goal.returns-in-Ok-clause-entries
returns-in-Ok-clause-entries c =
    enrol_found _ _ _ _ c.loop-place.place c.in-Ok.generation c.loop-place.buf c.args.buf c.loop-place.invariant.same c.loop-place.invariant.tried c.in-Ok.ensures.step
