use Rattle.std.proofs.Common.{List, sym, subst, ap, ◌∙◌, if◌then◌else◌, Some, None}
use Rattle.gev_types.specs.declared.block_record.Record.{Record}
use Rattle.script_replay.proofs.Claiming.{claims_none, claims_some, none_away, some_away, claims_ready}
use Rattle.acquisition_machine.specs.Blocks.{Given}
use Rattle.acq_core.specs.Receiver.{buffers}
use Rattle.script_replay.specs.Acquiring.{AreAway}
use Rattle.script_replay.proofs.retired.give_claimed.Goals as goal

pub returns-in-Some-clause-told : goal.returns-in-Some-clause-told
returns-in-Some-clause-told c =
    claims_some c.args.mode c.args.board.now c.plain_claim_for.new.board c.lift-buf.new.self c.args.acq.now c.give.new.self c.args.counts.now c.count_claimed.new.counts c.in-Some.place c.in-Some.was_dropped c.lift-buf.result c.dropped_block-dropped.result
    c.in-Some.ensures.entries c.in-Some.ensures.contents c.in-Some.ensures.in_hand c.in-Some.ensures.set_down
    c.lift-buf.ensures.size c.lift-buf.ensures.board c.lift-buf.ensures.contents c.give.ensures.takes c.count_claimed.ensures
    c.in-Some.ensures.first c.lift-buf.ensures.value (c.dropped_block-dropped.ensures ∙ ap (λ (r : Record). if c.in-Some.was_dropped then Some r.block else None) c.rec.ensures.value)

pub returns-in-Some-clause-claims : goal.returns-in-Some-clause-claims
returns-in-Some-clause-claims c = (returns-in-Some-clause-told c).claims

pub returns-in-Some-clause-ready : goal.returns-in-Some-clause-ready
returns-in-Some-clause-ready c =
    claims_ready c.args.board.now c.lift-buf.new.self c.args.acq.now c.give.new.self (returns-in-Some-clause-claims c) c.requires.ready

pub returns-in-Some-clause-away : goal.returns-in-Some-clause-away
returns-in-Some-clause-away c =
    some_away c.args.mode c.args.board.now c.plain_claim_for.new.board c.lift-buf.new.self c.args.acq.now c.give.new.self c.in-Some.place c.in-Some.was_dropped c.lift-buf.result c.requires.ready
    c.in-Some.ensures.entries c.in-Some.ensures.contents c.in-Some.ensures.in_hand c.in-Some.ensures.set_down
    c.lift-buf.ensures.size c.lift-buf.ensures.board c.lift-buf.ensures.contents c.give.ensures.buffers c.requires.away

pub returns-in-None-clause-told : goal.returns-in-None-clause-told
returns-in-None-clause-told c =
    claims_none c.args.mode c.args.board.now c.plain_claim_for.new.board c.args.acq.now c.give-in-None.new.self c.args.counts.now c.in-None.ensures.entries c.in-None.ensures.contents c.give-in-None.ensures.takes

pub returns-in-None-clause-claims : goal.returns-in-None-clause-claims
returns-in-None-clause-claims c = (returns-in-None-clause-told c).claims

pub returns-in-None-clause-away : goal.returns-in-None-clause-away
returns-in-None-clause-away c =
    subst (λ (gs : List Given). AreAway c.plain_claim_for.new.board gs) (sym c.give-in-None.ensures.buffers)
    (none_away c.args.mode c.args.board.now c.plain_claim_for.new.board (buffers c.args.acq.now) c.in-None.ensures.entries c.in-None.ensures.contents c.requires.away)
