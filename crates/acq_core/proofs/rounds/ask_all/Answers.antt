use Rattle.std.proofs.Common.{refl, arith, rules}
use Rattle.acq_core.proofs.Rounding.{rounds_none, rounds_one, rounds_end, slot_next}
use Rattle.acq_core.proofs.rounds.ask_all.Goals as goal

pub loop-at-init : goal.loop-at-init
loop-at-init c = rounds_none c.args.window.now c.requires.room c.requires.drained

pub ask-window-requires-clause-stands : goal.ask-window-requires-clause-stands
ask-window-requires-clause-stands c =
    slot_next c.args.window.now c.loop-at.window c.loop-at.at c.index_mut.result.now c.requires.slots c.loop-at.invariant (omega arith) c.index_mut.ensures.value

pub loop-at-preserved : goal.loop-at-preserved
loop-at-preserved c =
    rounds_one c.args.window.now c.loop-at.window _ c.loop-at.at c.index_mut.result.now c.ask-window.new.slot c.loop-at.invariant (omega arith)
    c.index_mut.ensures.value refl refl c.ask-window.ensures.stands c.ask-window.ensures.requests c.ask-window.ensures.number
    (search rules) (search rules) c.ask-window.ensures.few

pub returns-clause-asks : goal.returns-clause-asks
returns-clause-asks c = rounds_end c.args.window.now c.loop-at.window c.loop-at.at c.loop-at.invariant (omega arith)
