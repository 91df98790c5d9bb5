use Rattle.std.proofs.Common.{refl}
use Rattle.buffer_words.proofs.Several.{of_one}
use Rattle.gentl_stream.proofs.looks.look_closed.Goals as goal

pub returns-clause-entries : goal.returns-clause-entries
returns-clause-entries c = of_one _ _ _ _ (record { output = c.look_out-output.result.0.items; is = refl }) refl c.look_out-output.ensures.entry
