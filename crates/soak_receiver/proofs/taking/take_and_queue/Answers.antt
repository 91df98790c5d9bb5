use Rattle.std.proofs.Common.{ap}
use Rattle.gev_types.specs.declared.block_record.Record.{Record}
use Rattle.soak_receiver.proofs.Lending.{takes_item}
use Rattle.soak_receiver.proofs.taking.take_and_queue.Goals as goal

pub returns-clause-takes : goal.returns-clause-takes
returns-clause-takes c =
    takes_item c.in-Some.id c.args.running.now c.take_buffer.new.running c.queue_buffer.new.running c.rec-complete.result.complete c.buf-buf.result.now c.args.out.now.items c.line_take-told.new.out.items
    c.in-Some.ensures.took c.queue_buffer.ensures.moves c.buf-buf.ensures.content (ap (λ (r : Record). r.complete) c.rec-complete.ensures.value) c.in_ok-told.ensures.line
