use Rattle.std.proofs.Common.{refl}
use Rattle.buffer_words.proofs.Several.{of_one}
use Rattle.gentl_stream.proofs.info.count_pool.Goals as goal

pub returns-clause-entries : goal.returns-clause-entries
returns-clause-entries c = of_one _ _ _ _ (record { pooled = c.look_pool.result.items; is = refl; value = c.len.ensures.value }) refl c.look_pool.ensures.entry
