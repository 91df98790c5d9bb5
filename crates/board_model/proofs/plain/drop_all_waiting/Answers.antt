use Rattle.std.proofs.Common.{◌≡◌, ◌∙◌, ◌+◌, ◌++◌, map, take, true, false, ap, arith, is_some}
use Rattle.board_model.specs.Gone.{gone_of}
use Rattle.board_model.proofs.Parts.{drops_more, drops_end, dropped_one, keeps_then, gone_more, gone_all}
use Rattle.board_model.proofs.plain.drop_all_waiting.Goals as goal

pub returns-in-None-clause-entries : goal.returns-in-None-clause-entries
returns-in-None-clause-entries c =
    drops_end _ _ _ _ c.loop-dropped.dropped c.loop-dropped-test.true c.loop-dropped.invariant.entries
    (dropped_one _ _ _ false (is_some c.drop_waiting.result) (ap is_some c.in-None.is) c.drop_waiting.ensures.entries)

pub returns-in-None-clause-gone : goal.returns-in-None-clause-gone
returns-in-None-clause-gone c = gone_all _ _ _ c.loop-dropped.dropped c.loop-dropped.invariant.gone

pub returns-clause-gone : goal.returns-clause-gone
returns-clause-gone c =
    let all : c.loop-dropped.dropped ≡ 15 = omega (arith, c.loop-dropped-test.false, c.loop-dropped.auto.dropped-end) in
    gone_all _ _ _ c.loop-dropped.dropped c.loop-dropped.invariant.gone ∙ ap (λ n. map gone_of (take n c.args.board.now.board.out)) all

pub loop-dropped-preserved : goal.loop-dropped-preserved
loop-dropped-preserved c = record {
  entries = drops_more _ _ _ _ c.loop-dropped.dropped c.loop-dropped.invariant.entries
      (dropped_one _ _ _ true (is_some c.drop_waiting.result) (ap is_some c.in-Some.is) c.drop_waiting.ensures.entries);
  held = keeps_then _ _ _ _ c.loop-dropped.invariant.held c.drop_waiting.ensures.held;
  contents = c.drop_waiting.ensures.contents ∙ c.loop-dropped.invariant.contents;
  many = c.push.ensures.len ∙ ap (λ n. n + 1) c.loop-dropped.invariant.many;
  gone = λ m.
      ap (λ xs. xs ++ map gone_of (take m c.drop_waiting.new.board.board.out)) c.push.ensures.items
      ∙ gone_more _ _ _ _ c.in-Some.one c.loop-dropped.dropped c.loop-dropped.invariant.gone (c.in-Some.ensures {u = tt}).gone m;
}
