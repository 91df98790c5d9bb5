use Rattle.buffer_words.specs.Passes.{SameHands}
use Rattle.gev_apply.proofs.AllLooks.{GoesOn}
use Rattle.gev_apply.proofs.applying.apply.Given as goal

abbrev pub invariant-turns : goal.invariant-turns
invariant-turns g l = record {
  on : GoesOn l.frames l.taken (g.C.Clock.told l.fn.clock) (g.C.Clock.told l.clock) l.fn.out.items l.out.items l.fn.pass l.pass;
  hands : SameHands l.fn.pass l.pass;
}
