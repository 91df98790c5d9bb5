use Rattle.std.proofs.Common.{refl, lit≤}
use Rattle.board_calls.specs.Calls.{DiscardsOutput}
use Rattle.script_trace.specs.BoardLines.{EventFlushLine}
use Rattle.script_replay.proofs.Quiet.{discard_quiet}
use Rattle.script_replay.proofs.Calling.{quiet_calls}
use Rattle.script_replay.proofs.board_lines.event_flush.Goals as goal

pub event_flush-requires : goal.event_flush-requires
event_flush-requires c = record { actor = c.requires.ready.actors 0 (lit≤ tt) }

pub returns : goal.returns
returns c =
    quiet_calls c.line_done.result _ _ DiscardsOutput EventFlushLine _ _ discard_quiet
    (λ t es kind. record { events = es; kind = kind; is = refl }) c.requires.ready c.event_flush.ensures.entries c.event_flush.ensures.contents c.line_done.ensures
