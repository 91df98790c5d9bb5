use Rattle.soak_receiver.proofs.Lending.{queue_moves, queue_hosting}
use Rattle.soak_receiver.proofs.taking.queue_buffer.Goals as goal

pub returns : goal.returns
returns c = record {
  moves = queue_moves c.args.running.now c.args.id c.ds_queue-queued.result c.ds_queue-queued.new.self c.requires.hosting c.requires.within c.requires.held c.ds_queue-queued.ensures.entries c.ds_queue-queued.ensures.contents;
  hosting = queue_hosting c.args.running.now c.args.id c.ds_queue-queued.result c.ds_queue-queued.new.self c.requires.hosting c.requires.within c.requires.held c.ds_queue-queued.ensures.entries c.ds_queue-queued.ensures.contents;
}
