use Rattle.std.proofs.Common.{Err}
use Rattle.std.proofs.Common.{ℕ}
use Rattle.board_calls.specs.Calls.{Gets, itself}
use Rattle.script_replay.proofs.Quiet.{get_quiet}
use Rattle.script_replay.proofs.Lines.{quiet_ready, caller_apart}
use Rattle.script_replay.proofs.Lent.{take_acts, take_ready, no_take_acts, begun_empty}
use Rattle.script_replay.proofs.buffer_lines.take_buffer.Goals as goal

pub returns-in_err-line_take-in-Ok-clause-ready : goal.returns-in_err-line_take-in-Ok-clause-ready
returns-in_err-line_take-in-Ok-clause-ready c =
    take_ready _ _ _ c.in-Ok.place c.in-Ok.ensures.entries c.in-Ok.ensures.contents c.ds_return.ensures.entries c.ds_return.ensures.contents c.requires.ready

pub returns-in_ok-line_take-in-Ok-clause-ready : goal.returns-in_ok-line_take-in-Ok-clause-ready
returns-in_ok-line_take-in-Ok-clause-ready c =
    take_ready _ _ _ c.in-Ok.place c.in-Ok.ensures.entries c.in-Ok.ensures.contents c.ds_return.ensures.entries c.ds_return.ensures.contents c.requires.ready

pub returns-in_err-line_refused-in-Err-clause-ready : goal.returns-in_err-line_refused-in-Err-clause-ready
returns-in_err-line_refused-in-Err-clause-ready c =
    quiet_ready _ _ 0 (Gets {T = ℕ} 0 itself (Err c.in-Err.error)) caller_apart (get_quiet {T = ℕ} 0 itself c.in-Err.error) c.requires.ready c.in-Err.ensures.entries c.in-Err.ensures.contents

pub returns-in_ok-line_refused-in-Err-clause-ready : goal.returns-in_ok-line_refused-in-Err-clause-ready
returns-in_ok-line_refused-in-Err-clause-ready c =
    quiet_ready _ _ 0 (Gets {T = ℕ} 0 itself (Err c.in-Err.error)) caller_apart (get_quiet {T = ℕ} 0 itself c.in-Err.error) c.requires.ready c.in-Err.ensures.entries c.in-Err.ensures.contents

pub returns-in_ok-line_take-in-Ok-clause-acts : goal.returns-in_ok-line_take-in-Ok-clause-acts
returns-in_ok-line_take-in-Ok-clause-acts c event =
    take_acts _ _ _ c.in-Ok.place c.generation_at-generation.result _ _ event c.owned.ensures.kept c.in-Ok.ensures.entries c.in-Ok.ensures.contents c.generation_at-generation.ensures
    c.ds_return.ensures.entries c.ds_return.ensures.contents c.buf.ensures.content (begun_empty _ _ _ c.in_ok-line_take-in-Ok.ensures.line c.requires.empty)

pub returns-in_ok-line_refused-in-Err-clause-acts : goal.returns-in_ok-line_refused-in-Err-clause-acts
returns-in_ok-line_refused-in-Err-clause-acts c event =
    no_take_acts _ _ c.in-Err.error _ event c.in-Err.ensures.entries c.in-Err.ensures.contents c.in_ok-line_refused-in-Err.ensures
