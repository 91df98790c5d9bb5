-- One more buffer is filled.
use Rattle.std.proofs.Common.{◌∙◌, length, ap, arith}
use Rattle.gev_acq.proofs.Emptying.{filling_begins, filling_goes_on, filling_ends}
use Rattle.gev_acq.proofs.filling.fill_all.Goals as goal

pub fills-preserved : goal.fills-preserved
fills-preserved g c =
    filling_goes_on c.args.mode c.args.pass.now c.fills.pass c.fill_one.new.pass c.args.acq.now c.fills.acq c.next_fill.new.self c.in-Some.retired c.fills.invariant
    c.in-Some.ensures.fill c.next_fill.ensures.requests c.next_fill.ensures.rest c.fill_one.ensures.enters c.fill_one.ensures.hands

pub fills-init : goal.fills-init
fills-init g c = filling_begins c.args.mode c.args.pass.now c.args.acq.now c.requires.backs

pub fills-smaller : goal.fills-smaller
fills-smaller g c = omega (arith, ap length c.in-Some.ensures.fill)

pub fill_one-requires-clause-table : goal.fill_one-requires-clause-table
fill_one-requires-clause-table g c = c.fills.invariant.enters.enters.table ∙ c.requires.table

pub returns-clause-table : goal.returns-clause-table
returns-clause-table g c = c.fills.invariant.enters.enters.table

pub returns-clause-fills : goal.returns-clause-fills
returns-clause-fills g c = c.in_default.ensures.fill.1

pub returns-clause-enters : goal.returns-clause-enters
returns-clause-enters g c =
    (filling_ends c.args.mode c.args.pass.now c.fills.pass c.args.acq.now c.fills.acq c.next_fill.new.self c.fills.invariant c.in_default.ensures.fill.0
    c.next_fill.ensures.requests c.next_fill.ensures.rest).enters

pub returns-clause-requests : goal.returns-clause-requests
returns-clause-requests g c =
    (filling_ends c.args.mode c.args.pass.now c.fills.pass c.args.acq.now c.fills.acq c.next_fill.new.self c.fills.invariant c.in_default.ensures.fill.0
    c.next_fill.ensures.requests c.next_fill.ensures.rest).requests

pub returns-clause-rest : goal.returns-clause-rest
returns-clause-rest g c =
    (filling_ends c.args.mode c.args.pass.now c.fills.pass c.args.acq.now c.fills.acq c.next_fill.new.self c.fills.invariant c.in_default.ensures.fill.0
    c.next_fill.ensures.requests c.next_fill.ensures.rest).rest

pub returns-clause-backs : goal.returns-clause-backs
returns-clause-backs g c =
    (filling_ends c.args.mode c.args.pass.now c.fills.pass c.args.acq.now c.fills.acq c.next_fill.new.self c.fills.invariant c.in_default.ensures.fill.0
    c.next_fill.ensures.requests c.next_fill.ensures.rest).backs

pub returns-clause-alone : goal.returns-clause-alone
returns-clause-alone g c =
    (filling_ends c.args.mode c.args.pass.now c.fills.pass c.args.acq.now c.fills.acq c.next_fill.new.self c.fills.invariant c.in_default.ensures.fill.0
    c.next_fill.ensures.requests c.next_fill.ensures.rest).alone
