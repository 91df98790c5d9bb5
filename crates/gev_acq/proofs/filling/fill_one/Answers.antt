-- One fill, or one fill that found the output closed and then the lay.
use Rattle.std.proofs.Common.{◌∙◌, Bool, ap, subst}
use Rattle.board_calls.specs.Ends.{is_filled}
use Rattle.buffer_words.specs.Handing.{AfterFill}
use Rattle.gev_acq.proofs.Emptying.{fills_once, lays_once, laid_hands}
use Rattle.gev_acq.proofs.filling.fill_one.Goals as goal

pub returns-in-Filled-clause-enters : goal.returns-in-Filled-clause-enters
returns-in-Filled-clause-enters g c =
    fills_once c.args.mode c.args.pass.now c.fill_for-end.new.pass c.args.retired c.fill_for-end.result.1 (is_filled c.fill_for-end.result.0)
    (ap is_filled c.in-Filled.is) c.fill_for-end.ensures.enters

pub returns-in-Closed-clause-enters : goal.returns-in-Closed-clause-enters
returns-in-Closed-clause-enters g c =
    lays_once c.args.mode c.args.pass.now c.fill_for-end.new.pass c.set_down.new.pass c.lay.new.pass c.args.retired c.fill_for-end.result.1
    (is_filled c.fill_for-end.result.0) (ap is_filled c.in-Closed.is) c.fill_for-end.ensures.enters c.set_down.ensures.stays c.lay.ensures.entry

pub returns-in-Filled-clause-hands : goal.returns-in-Filled-clause-hands
returns-in-Filled-clause-hands g c =
    subst (λ (filled : Bool). AfterFill filled c.args.retired.place c.args.pass.now c.fill_for-end.new.pass) (ap is_filled c.in-Filled.is) c.fill_for-end.ensures.hands

pub returns-in-Closed-clause-hands : goal.returns-in-Closed-clause-hands
returns-in-Closed-clause-hands g c =
    laid_hands c.args.pass.now c.fill_for-end.new.pass c.set_down.new.pass c.lay.new.pass (record { place = c.args.retired.place; buf = c.in-Closed.back })
    (subst (λ (filled : Bool). AfterFill filled c.args.retired.place c.args.pass.now c.fill_for-end.new.pass) (ap is_filled c.in-Closed.is) c.fill_for-end.ensures.hands)
    c.set_down.ensures.hands c.lay.ensures.hands

pub set_down-requires-clause-table : goal.set_down-requires-clause-table
set_down-requires-clause-table g c = c.fill_for-end.ensures.enters.enters.table ∙ c.requires.table

pub set_down-requires-clause-holds : goal.set_down-requires-clause-holds
set_down-requires-clause-holds g c =
    (subst (λ (filled : Bool). AfterFill filled c.args.retired.place c.args.pass.now c.fill_for-end.new.pass) (ap is_filled c.in-Closed.is) c.fill_for-end.ensures.hands
    c.args.retired.place).slot ∙ c.requires.holds

pub fill_for-end-requires-clause-table : goal.fill_for-end-requires-clause-table
fill_for-end-requires-clause-table g c = c.requires.table

pub fill_for-end-requires-clause-holds : goal.fill_for-end-requires-clause-holds
fill_for-end-requires-clause-holds g c = c.requires.holds

pub fill_for-end-requires-clause-size : goal.fill_for-end-requires-clause-size
fill_for-end-requires-clause-size g c = c.requires.size
