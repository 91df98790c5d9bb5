use Rattle.std.proofs.Common.{◌≡◌, ◌≤◌, List, false}
use Rattle.gev_serve.specs.Wires.{wire}
use Rattle.camera_serving.specs.Turns.{Turn}
use Rattle.camera_serving.specs.Pacing.{IsPace}
use Rattle.camera_serving.specs.Turning.{Serves}
use Rattle.camera_serving.proofs.turning.serve_turns.Given as goal

abbrev pub invariant-turns : goal.invariant-turns
invariant-turns g l = record {
  made : List Turn;
  serves : Serves l.words.rate l.words.with_input l.fn.camera l.camera (wire (g.L.Link.received l.fn.link) (g.L.Link.sent l.fn.link) (g.L.Link.faults l.fn.link))
      (wire (g.L.Link.received l.link) (g.L.Link.sent l.link) (g.L.Link.faults l.link)) (g.C.Clock.told l.fn.clock) (g.C.Clock.told l.clock)
      (g.S.Source.left l.fn.source) (g.S.Source.left l.source) l.turns l.frames made;
  pace : IsPace l.words.rate made l.pace;
  few : l.turns ≤ l.words.turns;
  unread : l.words.with_input ≡ false → g.S.Source.left l.source ≡ g.S.Source.left l.fn.source;
  reads : g.S.Source.faults l.source ≡ g.S.Source.faults l.fn.source;
}
