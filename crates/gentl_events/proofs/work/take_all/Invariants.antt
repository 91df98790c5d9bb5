use Rattle.buffer_words.specs.Passes.{IsEmptyHanded}
use Rattle.buffer_words.specs.Workers.{Works}
use Rattle.gentl_events.specs.Kinds.{is_takers}
use Rattle.gentl_events.proofs.work.take_all.Given as goal

abbrev pub invariant-takes : goal.invariant-takes
invariant-takes g l = record {
  works : Works is_takers l.fn.pass l.pass;
  empty : IsEmptyHanded l.pass;
}
