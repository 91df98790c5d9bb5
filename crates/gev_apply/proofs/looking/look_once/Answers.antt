use Rattle.std.proofs.Common.{◌∙◌}
use Rattle.buffer_words.proofs.Retries.{hands_then}
use Rattle.gev_apply.proofs.OneLook.{gets, idles, hands_out, falls_short, finds_none, finds_end, hands_same}
use Rattle.gev_apply.proofs.looking.look_once.Goals as goal

pub returns-in-Ok-hand_out-clause-looks : goal.returns-in-Ok-hand_out-clause-looks
returns-in-Ok-hand_out-clause-looks g c =
    hands_out _ _ _ _ _ c.in-Ok.loan _ _
    (gets _ _ _ c.in-Ok.loan _ _ _ _ c.look_run-run.ensures.entry c.in-Ok.ensures.entries c.in-Ok.ensures.contents c.witness.ensures.holds c.in-Ok.ensures.loan.is c.witness.ensures.run c.in-Ok-hand_out.ensures.back)
    c.in-Ok-hand_out.ensures.line

pub returns-in-Err-hand_out-clause-looks : goal.returns-in-Err-hand_out-clause-looks
returns-in-Err-hand_out-clause-looks g c =
    falls_short _ _ _ _ _ c.in-Ok.loan _ _
    (gets _ _ _ c.in-Ok.loan _ _ _ _ c.look_run-run.ensures.entry c.in-Ok.ensures.entries c.in-Ok.ensures.contents c.witness.ensures.holds c.in-Ok.ensures.loan.is c.witness.ensures.run c.in-Err-hand_out.ensures.back)
    c.in-Err-hand_out.ensures.unchanged

pub returns-then-run-eq1-clause-looks : goal.returns-then-run-eq1-clause-looks
returns-then-run-eq1-clause-looks g c =
    finds_none _ _ _ _ c.in-Err.field-0 _ _ (idles _ _ _ c.in-Err.field-0 _ _ _ c.look_run-run.ensures.entry c.in-Err.ensures.refused c.in-Err.ensures.contents c.witness.ensures.run) c.if-run-eq1.true

pub returns-else-run-eq1-clause-looks : goal.returns-else-run-eq1-clause-looks
returns-else-run-eq1-clause-looks g c =
    finds_end _ _ _ _ c.in-Err.field-0 _ _ (idles _ _ _ c.in-Err.field-0 _ _ _ c.look_run-run.ensures.entry c.in-Err.ensures.refused c.in-Err.ensures.contents c.witness.ensures.run) c.if-run-eq1.false

pub event_get-answer-requires : goal.event_get-answer-requires
event_get-answer-requires g c = record { table = c.look_run-run.ensures.entry.table ∙ c.requires.table }

pub returns-in-Ok-hand_out-clause-hands : goal.returns-in-Ok-hand_out-clause-hands
returns-in-Ok-hand_out-clause-hands g c = hands_same _ _ _ _ c.in-Ok.loan c.look_run-run.ensures.hands c.in-Ok.ensures.loan c.in-Ok-hand_out.ensures.hands

pub returns-in-Err-hand_out-clause-hands : goal.returns-in-Err-hand_out-clause-hands
returns-in-Err-hand_out-clause-hands g c = hands_same _ _ _ _ c.in-Ok.loan c.look_run-run.ensures.hands c.in-Ok.ensures.loan c.in-Err-hand_out.ensures.hands

pub returns-then-run-eq1-clause-hands : goal.returns-then-run-eq1-clause-hands
returns-then-run-eq1-clause-hands g c = hands_then _ _ _ c.look_run-run.ensures.hands c.in-Err.ensures.hands

pub returns-else-run-eq1-clause-hands : goal.returns-else-run-eq1-clause-hands
returns-else-run-eq1-clause-hands g c = hands_then _ _ _ c.look_run-run.ensures.hands c.in-Err.ensures.hands

pub hand_out-requires-clause-table : goal.hand_out-requires-clause-table
hand_out-requires-clause-table g c = c.in-Ok.ensures.entries.grows.table ∙ c.in-Ok.ensures.entries.enters.enters.table ∙ c.look_run-run.ensures.entry.table ∙ c.requires.table

pub hand_out-requires-clause-loan : goal.hand_out-requires-clause-loan
hand_out-requires-clause-loan g c = c.in-Ok.ensures.loan.is
