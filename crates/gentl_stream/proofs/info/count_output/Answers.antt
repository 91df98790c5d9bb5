use Rattle.std.proofs.Common.{refl}
use Rattle.buffer_words.proofs.Several.{of_one}
use Rattle.gentl_stream.proofs.info.count_output.Goals as goal

pub returns-clause-entries : goal.returns-clause-entries
returns-clause-entries c =
    of_one _ _ _ _ (record { output = c.look_out-output.result.0.items; closed = c.look_out-output.result.1; is = refl; value = c.len.ensures.value }) refl c.look_out-output.ensures.entry
