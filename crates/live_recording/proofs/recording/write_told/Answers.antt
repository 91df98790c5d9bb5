-- The tape kept as many receives as the reader made turns.
use Rattle.std.proofs.Common.{sym, ◌∙◌}
use Rattle.live_recording.proofs.recording.write_told.Goals as goal

pub write_run-requires-clause-counted : goal.write_run-requires-clause-counted
write_run-requires-clause-counted g c = sym c.len.ensures ∙ assumption
