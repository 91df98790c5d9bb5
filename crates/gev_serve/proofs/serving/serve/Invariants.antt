use Rattle.std.proofs.Common.{◌≡◌}
use Rattle.buffer_words.specs.Boards.{board_id}
use Rattle.gev_serve.specs.Wires.{wire}
use Rattle.gev_serve.specs.Serving.{ServesOn, KeepsHands}
use Rattle.gev_serve.proofs.serving.serve.Given as goal

abbrev pub invariant-loop-turn : goal.invariant-loop-turn
invariant-loop-turn g l = record {
  serves : ServesOn l.fn.camera l.camera (wire (g.L.Link.received l.fn.link) (g.L.Link.sent l.fn.link) (g.L.Link.faults l.fn.link))
      (wire (g.L.Link.received l.link) (g.L.Link.sent l.link) (g.L.Link.faults l.link)) (g.C.Clock.told l.fn.clock) (g.C.Clock.told l.clock) l.fn.pass l.pass l._turn;
  table : l.pass.table ≡ board_id l.board;
  hands : KeepsHands l.fn.pass l.pass;
}
