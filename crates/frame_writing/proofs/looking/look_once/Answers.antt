use Rattle.std.proofs.Common.{rules}
use Rattle.gev_apply.proofs.OneLook.{gets, idles}
use Rattle.frame_writing.proofs.OneTurn.{turned, idled, ended, same_hands}
use Rattle.frame_writing.proofs.looking.look_once.Goals as goal

pub returns-in-Ok-clause-turn : goal.returns-in-Ok-clause-turn
returns-in-Ok-clause-turn g c =
    turned _ _ _ _ _ _ c.in-Ok.loan _ _ _ _ _ _ _ c.end_by.ensures
    (gets _ _ _ c.in-Ok.loan _ _ _ _ c.look_run-run.ensures.entry c.in-Ok.ensures.entries c.in-Ok.ensures.contents c.witness.ensures.holds c.in-Ok.ensures.loan.is c.witness.ensures.run c.hand_out-wrote.ensures.back)
    (search rules) c.hand_out-wrote.ensures.wrote

pub returns-then-run-eq1-clause-turn : goal.returns-then-run-eq1-clause-turn
returns-then-run-eq1-clause-turn g c =
    idled c.args.outlet.now.output _ _ _ c.in-Err.field-0 _ _ _ _ (idles _ _ _ c.in-Err.field-0 _ _ _ c.look_run-run.ensures.entry c.in-Err.ensures.refused c.in-Err.ensures.contents c.witness.ensures.run) c.if-run-eq1.true

pub returns-else-run-eq1-clause-turn : goal.returns-else-run-eq1-clause-turn
returns-else-run-eq1-clause-turn g c =
    ended c.args.outlet.now.output _ _ _ c.in-Err.field-0 _ _ _ _ (idles _ _ _ c.in-Err.field-0 _ _ _ c.look_run-run.ensures.entry c.in-Err.ensures.refused c.in-Err.ensures.contents c.witness.ensures.run) c.if-run-eq1.false

pub returns-in-Ok-clause-hands : goal.returns-in-Ok-clause-hands
returns-in-Ok-clause-hands g c = same_hands _ _ _ _ c.in-Ok.loan c.look_run-run.ensures.hands c.in-Ok.ensures.loan c.hand_out-wrote.ensures.hands
