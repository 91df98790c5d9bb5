use Rattle.std.proofs.Common.{Some}
use Rattle.script_trace.specs.BoardLines.{TakeIfOpen, TakeLine}
use Rattle.script_replay.specs.Boards.{Acts}
use Rattle.script_replay.specs.Takes.{ActsUnder}
use Rattle.script_replay.proofs.Lent.{take_under, for_each}
use Rattle.script_replay.proofs.buffer_lines.take.Goals as goal

pub returns-in-Some-clause-acts : goal.returns-in-Some-clause-acts
returns-in-Some-clause-acts c =
    for_each c.take_buffer.result (λ event count. Acts (λ t. TakeIfOpen t (Some event)) 0 count c.args.board.now c.take_buffer.new.out.items c.take_buffer.new.board)
    (λ count. ActsUnder c.args.tree.now TakeLine 0 count c.args.board.now c.take_buffer.new.out.items c.take_buffer.new.board) c.take_buffer.ensures.acts
    (λ count each. take_under c.args.board.now c.take_buffer.new.board c.args.tree.now c.args.stream.serial c.in-Some._event.serial count _ c.requires.stream c.in-Some.ensures each)
