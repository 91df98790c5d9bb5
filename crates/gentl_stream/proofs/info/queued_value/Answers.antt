use Rattle.gentl_stream.proofs.Informing.{looked_for}
use Rattle.gentl_stream.proofs.info.queued_value.Goals as goal

pub returns-clause-entries : goal.returns-clause-entries
returns-clause-entries c =
    looked_for _ _ _ c.args.place c.among_value.result _ _ _ _ c.look_out-output.result.1 c.as_slice.ensures.value c.as_slice-2.ensures.value c.among_value.ensures
    c.look_pool-pooled.ensures.entry c.look_out-output.ensures.entry
