use Rattle.std.proofs.Common.{refl, lit≤}
use Rattle.board_calls.specs.Calls.{Kills}
use Rattle.script_trace.specs.BoardLines.{KillLine}
use Rattle.script_replay.proofs.Quiet.{kill_quiet}
use Rattle.script_replay.proofs.Calling.{quiet_calls}
use Rattle.script_replay.proofs.board_lines.kill.Goals as goal

pub event_kill-requires : goal.event_kill-requires
event_kill-requires c = record { actor = c.requires.ready.actors 0 (lit≤ tt) }

pub returns : goal.returns
returns c =
    quiet_calls c.line_done.result _ _ Kills KillLine _ _ kill_quiet
    (λ t es kind. record { events = es; kind = kind; is = refl }) c.requires.ready c.event_kill.ensures.entries c.event_kill.ensures.contents c.line_done.ensures
