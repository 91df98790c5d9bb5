use Rattle.std.proofs.Common.{refl, inl, inr}
use Rattle.buffer_words.proofs.Several.{of_one}
use Rattle.gentl_stream.proofs.info.grabbing_value.Goals as goal

pub returns-then-look_run-eq1-clause-entries : goal.returns-then-look_run-eq1-clause-entries
returns-then-look_run-eq1-clause-entries c =
    of_one _ _ _ _ (record { run = c.look_run.result; is = refl; value = inl (refl, c.if-look_run-eq1.true) }) refl c.look_run.ensures.entry

pub returns-else-look_run-eq1-clause-entries : goal.returns-else-look_run-eq1-clause-entries
returns-else-look_run-eq1-clause-entries c =
    of_one _ _ _ _ (record { run = c.look_run.result; is = refl; value = inr (refl, c.if-look_run-eq1.false) }) refl c.look_run.ensures.entry
