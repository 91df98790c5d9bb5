use Rattle.std.proofs.lemmas.Result.{err_from_is_err_and}
use Rattle.gev_record.proofs.Turning.{turn_next, none_left, turning_begins, turning_goes_on, turning_stops, turning_ends}
use Rattle.gev_record.proofs.writing.write_turns.Goals as goal

pub loop-turn-init : goal.loop-turn-init
loop-turn-init g c = record {
  turning = λ s at. turning_begins _ _ _ _ s _ at;
}

pub returns-in_err-write_turn-clause-written : goal.returns-in_err-write_turn-clause-written
returns-in_err-write_turn-clause-written g c =
    let p = err_from_is_err_and c.from_residual.result c.from_residual.ensures.1 in
    λ s at. rw (p.1, p.2)
    (turning_stops _ _ _ _ _ _ _ _ s _ _ _ _ _ (turn_next c.loop-turn.turn _ c.args.marks.now _ _ c.kept_at.ensures.value c.loop-turn-test.true)
    c.in_err-write_turn.ensures.written (c.loop-turn.invariant.turning s at))

pub loop-turn-preserved : goal.loop-turn-preserved
loop-turn-preserved g c = record {
  turning = λ s at. turning_goes_on _ _ _ _ _ _ _ _ _ _ s _ _ _ _ (turn_next c.loop-turn.turn _ c.args.marks.now _ _ c.kept_at.ensures.value c.loop-turn-test.true)
      c.in_ok-write_turn.ensures.stands c.in_ok-write_turn.ensures.written (c.loop-turn.invariant.turning s at);
}

pub returns-clause-stands : goal.returns-clause-stands
returns-clause-stands g c = λ s at. (turning_ends _ _ _ _ _ _ s _ _ (none_left c.loop-turn.turn _ c.args.marks.now c.loop-turn-test.false) (c.loop-turn.invariant.turning s at)).1

pub returns-clause-written : goal.returns-clause-written
returns-clause-written g c = λ s at. (turning_ends _ _ _ _ _ _ s _ _ (none_left c.loop-turn.turn _ c.args.marks.now c.loop-turn-test.false) (c.loop-turn.invariant.turning s at)).0
