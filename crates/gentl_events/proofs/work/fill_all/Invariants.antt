use Rattle.buffer_words.specs.Passes.{IsEmptyHanded}
use Rattle.buffer_words.specs.Workers.{Works}
use Rattle.gentl_events.specs.Kinds.{is_fillers}
use Rattle.gentl_events.proofs.work.fill_all.Given as goal

abbrev pub invariant-fills : goal.invariant-fills
invariant-fills g l = record {
  works : Works is_fillers l.fn.pass l.pass;
  empty : IsEmptyHanded l.pass;
}
