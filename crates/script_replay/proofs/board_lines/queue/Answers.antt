use Rattle.std.proofs.Common.{refl, lit≤}
use Rattle.board_calls.specs.Calls.{Queues}
use Rattle.script_trace.specs.BoardLines.{QueueLine}
use Rattle.script_replay.proofs.Quiet.{queue_quiet}
use Rattle.script_replay.proofs.Calling.{quiet_calls}
use Rattle.script_replay.proofs.board_lines.queue.Goals as goal

pub ds_queue-answer-requires : goal.ds_queue-answer-requires
ds_queue-answer-requires c = record { actor = c.requires.ready.actors 0 (lit≤ tt) }

pub returns : goal.returns
returns c =
    quiet_calls c.line_answer.result _ _ (Queues c.args.id c.ds_queue-answer.result) (λ t. QueueLine t c.args.id) _ _ (queue_quiet c.args.id c.ds_queue-answer.result)
    (λ t es kind. (c.ds_queue-answer.result, record { events = es; kind = kind; is = refl })) c.requires.ready c.ds_queue-answer.ensures.entries c.ds_queue-answer.ensures.contents c.line_answer.ensures
