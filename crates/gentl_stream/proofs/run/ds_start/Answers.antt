-- Only a closed stream is told as closed, and then nothing starts.
use Rattle.std.proofs.Common.{true}
use Rattle.std.specs.Prelude.{Err}
use Rattle.board_calls.specs.Calls.{LooksOut, Starts, closed_refusal}
use Rattle.buffer_words.proofs.Several.{of_as}
use Rattle.gentl_stream.proofs.Running.{start_done, start_refused}
use Rattle.gentl_stream.proofs.run.ds_start.Goals as goal

pub returns-then-look_closed-clause-entries : goal.returns-then-look_closed-clause-entries
returns-then-look_closed-clause-entries c = of_as _ _ (LooksOut true) (Starts (Err closed_refusal)) (λ es seen. seen) c.if-look_closed.ensures.entries

pub returns-in-Ok-clause-entries : goal.returns-in-Ok-clause-entries
returns-in-Ok-clause-entries c = start_done _ _ _ c.if-look_closed.ensures.entries c.in-Ok.ensures.entry

pub returns-in-Err-clause-entries : goal.returns-in-Err-clause-entries
returns-in-Err-clause-entries c = start_refused _ _ _ c.in-Err.run' _ c.shown_run.ensures c.if-look_closed.ensures.entries c.in-Err.ensures.entry
