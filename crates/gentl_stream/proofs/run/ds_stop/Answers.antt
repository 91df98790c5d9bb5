use Rattle.std.proofs.Common.{refl, arith}
use Rattle.buffer_words.proofs.Several.{of_one}
use Rattle.gentl_stream.proofs.Running.{stop_refused}
use Rattle.gentl_stream.proofs.run.ds_stop.Goals as goal

pub returns-in-Ok-clause-entries : goal.returns-in-Ok-clause-entries
returns-in-Ok-clause-entries c = of_one _ _ _ _ (omega arith, refl) refl c.in-Ok.ensures.entry

pub returns-in-Err-clause-entries : goal.returns-in-Err-clause-entries
returns-in-Err-clause-entries c = stop_refused _ _ c.args.flags c.in-Err.run' _ (omega arith) c.shown_run.ensures c.in-Err.ensures.entry
