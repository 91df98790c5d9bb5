use Rattle.std.proofs.Common.{ap, ◌∙◌}
use Rattle.gev_types.specs.declared.block_record.Record.{Record}
use Rattle.script_replay.specs.Counting.{with_fill}
use Rattle.script_replay.proofs.Retiring.{one_filled, one_laid}
use Rattle.script_replay.proofs.retired.fill_one.Goals as goal

pub returns-in-Filled : goal.returns-in-Filled
returns-in-Filled c =
    one_filled c.args.mode c.args.fill c.args.board.now c.plain_fill_for-end.new.board c.args.counts.now c.count_dropped.new.counts c.count_fill.new.counts c.plain_fill_for-end.result.1 c.plain_fill_for-end.result.0
    c.plain_fill_for-end.new.gone.items c.in-Filled.is c.plain_fill_for-end.ensures.entries c.plain_fill_for-end.ensures.contents c.count_dropped.ensures
    (c.count_fill.ensures ∙ ap (λ (r : Record). with_fill c.count_dropped.new.counts r.complete) c.rec-complete.ensures.value) c.plain_fill_for-end.ensures.gone

pub returns-in-Closed : goal.returns-in-Closed
returns-in-Closed c =
    one_laid c.args.mode c.args.fill c.args.board.now c.plain_fill_for-end.new.board c.set_down.new.self c.lay.new.self c.args.counts.now c.count_dropped.new.counts c.plain_fill_for-end.result.1 c.plain_fill_for-end.result.0
    c.in-Closed.back c.plain_fill_for-end.new.gone.items c.in-Closed.is c.plain_fill_for-end.ensures.entries c.plain_fill_for-end.ensures.contents c.plain_fill_for-end.ensures.back c.set_down.ensures.board c.set_down.ensures.contents
    c.lay.ensures.step c.lay.ensures.contents c.count_dropped.ensures c.plain_fill_for-end.ensures.gone
