use Rattle.std.proofs.Common.{refl, inl}
use Rattle.buffer_words.proofs.Retries.{hands_self, hands_then}
use Rattle.gev_apply.proofs.AllLooks.{begins, hands_one, idles_on, is_over, wants_memory}
use Rattle.gev_apply.proofs.applying.apply.Goals as goal

pub turns-init : goal.turns-init
turns-init g c = record { on = begins _ _ _ _; hands = hands_self _ }

pub turns-preserved-in-Handed : goal.turns-preserved-in-Handed
turns-preserved-in-Handed g c = record {
  on = hands_one _ _ _ _ _ _ _ _ _ c.in-Ok.end _ _ _ c.turns.invariant.on c.in-Ok.ensures.looks c.in-Handed.is c.if-taken-frames.false refl;
  hands = hands_then _ _ _ c.turns.invariant.hands c.in-Ok.ensures.hands;
}

pub turns-preserved : goal.turns-preserved
turns-preserved g c = record {
  on = idles_on _ _ _ _ _ _ _ _ c.in-Ok.end _ _ _ c.turns.invariant.on c.in-Ok.ensures.looks c.in-Idle.is;
  hands = hands_then _ _ _ c.turns.invariant.hands c.in-Ok.ensures.hands;
}

pub returns-in-Over-clause-applies : goal.returns-in-Over-clause-applies
returns-in-Over-clause-applies g c = is_over _ _ _ _ _ _ _ _ c.in-Ok.end _ _ _ c.turns.invariant.on c.in-Ok.ensures.looks c.in-Over.is

pub returns-in-Err-clause-applies : goal.returns-in-Err-clause-applies
returns-in-Err-clause-applies g c = wants_memory _ _ _ _ _ _ _ _ _ _ _ c.turns.invariant.on c.in-Err.ensures.looks c.if-taken-frames.false

pub returns-then-taken-frames-clause-applies : goal.returns-then-taken-frames-clause-applies
returns-then-taken-frames-clause-applies g c = record {
  made = c.turns.invariant.on.made;
  looks = c.turns.invariant.on.looks;
  number = c.turns.invariant.on.number;
  few = c.turns.invariant.on.few;
  enough = inl (c.if-taken-frames.true, c.turns.invariant.on.on);
  lines = c.turns.invariant.on.lines;
}

pub returns-then-taken-frames-clause-hands : goal.returns-then-taken-frames-clause-hands
returns-then-taken-frames-clause-hands g c = c.turns.invariant.hands

pub returns-in-Over-clause-hands : goal.returns-in-Over-clause-hands
returns-in-Over-clause-hands g c = hands_then _ _ _ c.turns.invariant.hands c.in-Ok.ensures.hands

pub returns-in-Err-clause-hands : goal.returns-in-Err-clause-hands
returns-in-Err-clause-hands g c = hands_then _ _ _ c.turns.invariant.hands c.in-Err.ensures.hands
