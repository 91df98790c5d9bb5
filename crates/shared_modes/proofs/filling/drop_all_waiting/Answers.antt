use Rattle.std.proofs.Common.{◌∙◌, true, false}
use Rattle.buffer_words.proofs.Hands.{hands_same, hands_then}
use Rattle.shared_modes.proofs.Parts.{begins, drops_more, drops_end, dropped_one}
use Rattle.shared_modes.proofs.filling.drop_all_waiting.Goals as goal

pub returns-then-not-drop_waiting-clause-enters : goal.returns-then-not-drop_waiting-clause-enters
returns-then-not-drop_waiting-clause-enters g c =
    drops_end _ _ _ c.loop-dropped.dropped c.loop-dropped-test.true c.loop-dropped.invariant.enters
    (dropped_one _ _ false c.drop_waiting.result c.if-not-drop_waiting.true c.drop_waiting.ensures.enters)

pub loop-dropped-preserved : goal.loop-dropped-preserved
loop-dropped-preserved g c = record {
  enters = drops_more _ _ _ c.loop-dropped.dropped c.loop-dropped.invariant.enters
      (dropped_one _ _ true c.drop_waiting.result c.if-not-drop_waiting.false c.drop_waiting.ensures.enters);
  hands = hands_then _ _ _ c.loop-dropped.invariant.hands c.drop_waiting.ensures.hands;
  table = c.drop_waiting.ensures.enters.enters.table ∙ c.loop-dropped.invariant.table;
}
