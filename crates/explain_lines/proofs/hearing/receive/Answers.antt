use Rattle.std.proofs.Common.{ap, Some}
use Rattle.acquisition_machine.specs.declared.need.Need.{Need}
use Rattle.acquisition_machine.specs.TurnLaws.{asked_by}
use Rattle.explain_lines.proofs.Datagrams.{drives_once, drives_twice, rests_twice}
use Rattle.explain_lines.proofs.hearing.receive.Goals as goal

pub returns-in_ok-fill_what_retires-in-Buffer-clause-drives : goal.returns-in_ok-fill_what_retires-in-Buffer-clause-drives
returns-in_ok-fill_what_retires-in-Buffer-clause-drives c =
    drives_twice c.args.mode c.args.board.now c.fill_what_retires.new.board c.give_claimed-got.new.board c.fill_what_retires-in-Buffer.new.board c.args.acq.now c.tell_ends.new.self c.fill_what_retires.new.acq c.give_claimed-got.new.acq c.fill_what_retires-in-Buffer.new.acq
    c.args.counts.now c.fill_what_retires.new.counts c.give_claimed-got.new.counts c.fill_what_retires-in-Buffer.new.counts c.args.bytes.now c.in_ok-block.field-0 c.in-Buffer.block c.give_claimed-got.result
    c.args.tape.now.items c.fill_what_retires.new.tape.items c.tape_claim.new.tape.items c.fill_what_retires-in-Buffer.new.tape.items c.in_ok-fill_what_retires-in-Buffer.field-0 c.tell_ends.ensures.rest
    c.in-Buffer.is c.in_ok-block.ensures c.give_claimed-got.ensures.told c.in_ok-tape_claim-in-Buffer.ensures c.in_ok-fill_what_retires-in-Buffer.ensures

pub returns-in_ok-fill_what_retires-in-Buffer-clause-rest : goal.returns-in_ok-fill_what_retires-in-Buffer-clause-rest
returns-in_ok-fill_what_retires-in-Buffer-clause-rest c =
    rests_twice c.args.mode c.args.board.now c.fill_what_retires.new.board c.give_claimed-got.new.board c.fill_what_retires-in-Buffer.new.board c.args.acq.now c.tell_ends.new.self c.fill_what_retires.new.acq c.give_claimed-got.new.acq c.fill_what_retires-in-Buffer.new.acq
    c.args.counts.now c.fill_what_retires.new.counts c.give_claimed-got.new.counts c.fill_what_retires-in-Buffer.new.counts c.args.bytes.now c.in_ok-block.field-0 c.in-Buffer.block
    c.args.tape.now.items c.fill_what_retires.new.tape.items c.tape_claim.new.tape.items c.fill_what_retires-in-Buffer.new.tape.items c.in_ok-fill_what_retires-in-Buffer.field-0 c.requires.rest c.tell_ends.ensures.rest c.tell_ends.ensures.fills c.tell_ends.ensures.requests
    c.in-Buffer.is c.in_ok-block.ensures c.give_claimed-got.ensures.claims c.in_ok-fill_what_retires-in-Buffer.ensures

pub returns-in-Done-clause-drives : goal.returns-in-Done-clause-drives
returns-in-Done-clause-drives c =
    drives_once c.args.mode c.args.board.now c.fill_what_retires.new.board c.args.acq.now c.tell_ends.new.self c.fill_what_retires.new.acq c.args.counts.now c.fill_what_retires.new.counts c.args.bytes.now c.args.tape.now.items c.fill_what_retires.new.tape.items c.in_ok-block.field-0
    c.tell_ends.ensures.rest c.in_ok-block.ensures (ap (λ (x : Need). asked_by (Some x)) c.in-Done.is)

pub returns-in-Ignored-clause-drives : goal.returns-in-Ignored-clause-drives
returns-in-Ignored-clause-drives c =
    drives_once c.args.mode c.args.board.now c.fill_what_retires.new.board c.args.acq.now c.tell_ends.new.self c.fill_what_retires.new.acq c.args.counts.now c.fill_what_retires.new.counts c.args.bytes.now c.args.tape.now.items c.fill_what_retires.new.tape.items c.in_ok-block.field-0
    c.tell_ends.ensures.rest c.in_ok-block.ensures (ap (λ (x : Need). asked_by (Some x)) c.in-Ignored.is)
