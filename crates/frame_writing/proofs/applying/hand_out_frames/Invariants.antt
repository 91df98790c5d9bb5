use Rattle.std.proofs.Common.{◌≡◌}
use Rattle.buffer_words.specs.Passes.{SameHands}
use Rattle.gev_links.specs.Told.{Drops}
use Rattle.frame_writing.proofs.AllTurns.{GoesOn}
use Rattle.frame_writing.proofs.applying.hand_out_frames.Given as goal

abbrev pub invariant-turns : goal.invariant-turns
invariant-turns g l = record {
  on : GoesOn l.fn.outlet.frames l.fn.outlet.output (g.C.Clock.told l.fn.outlet.clock) (g.C.Clock.told l.outlet.clock) l.taken l.complete l.fn.pass l.pass (g.K.Sink.written l.fn.sink) (g.K.Sink.written l.sink) (g.K.Sink.faults l.fn.sink) (g.K.Sink.faults l.sink);
  hands : SameHands l.fn.pass l.pass;
  dropped : Drops (g.I.Source.left l.fn.input) (g.I.Source.left l.input);
  input_faults : g.I.Source.faults l.input ≡ g.I.Source.faults l.fn.input;
  frames : l.outlet.frames ≡ l.fn.outlet.frames;
  output : l.outlet.output ≡ l.fn.outlet.output;
  watched : l.outlet.watch.on ≡ l.fn.outlet.watch.on;
}
