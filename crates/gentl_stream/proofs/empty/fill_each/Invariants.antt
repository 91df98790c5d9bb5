use Rattle.std.proofs.Common.{take}
use Rattle.buffer_words.specs.Several.{EntersOf}
use Rattle.gentl_stream.specs.Several.{Leaves}
use Rattle.gentl_stream.specs.Emptied.{FillAllEmptied}
use Rattle.gentl_stream.proofs.empty.fill_each.Given as goal

abbrev pub invariant-loop-place : goal.invariant-loop-place
invariant-loop-place g l = record {
  entries : EntersOf l.fn.pass (FillAllEmptied l.fn.pass (take l.place-index l.places)) l.pass;
  hands : Leaves (take l.place-index l.places) l.fn.pass l.pass;
}
