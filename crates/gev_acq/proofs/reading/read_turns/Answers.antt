-- The setup alone, or the turns after it.
use Rattle.std.proofs.Common.{refl, ap}
use Rattle.acq_core.specs.Receiver.{config_of, Stands}
use Rattle.gev_control.specs.Ends.{is_fault_end}
use Rattle.gev_acq.proofs.AllTurns.{faults_later}
use Rattle.gev_acq.proofs.Joined.{ends_early, then_turns}
use Rattle.gev_acq.proofs.OneTurn.{control_faults}
use Rattle.gev_acq.proofs.reading.read_turns.Goals as goal

pub set_up-end-requires : goal.set_up-end-requires
set_up-end-requires g c = c.requires.client

pub acquire-requires : goal.acquire-requires
acquire-requires g c = record {
  table = c.requires.table;
  fills = c.requires.fills;
  requests = c.requires.requests;
  backs = c.requires.backs;
  room = c.requires.room;
}

pub returns-in-Stopped : goal.returns-in-Stopped
returns-in-Stopped g c = record {
  reads = then_turns c.args.reader.now.mode (config_of c.args.reader.now.acq) c.args.reader.now.camera c.args.reader.now.own (Stands c.args.reader.now.acq) (Stands c.acquire.new.acq)
      (g.S.Link.received c.args.reader.now.host.stream) (g.S.Link.received c.set_up-end.new.self.stream) (g.S.Link.received c.acquire.new.stream) (g.M.Link.received c.args.reader.now.host.control)
      (g.M.Link.received c.set_up-end.new.self.control) (g.M.Link.received c.acquire.new.control) (g.M.Link.sent c.args.reader.now.host.control)
      (g.M.Link.sent c.set_up-end.new.self.control) (g.M.Link.sent c.acquire.new.control) (g.C.Clock.told c.args.reader.now.host.clock)
      (g.C.Clock.told c.set_up-end.new.self.clock) (g.C.Clock.told c.acquire.new.clock) c.args.reader.now.host.client c.set_up-end.new.self.client c.acquire.new.client
      c.args.reader.now.journal.items c.acquire.new.journal.items c.args.reader.now.turns c.acquire.result c.args.pass.now c.acquire.new.pass
      c.requires.new (ap g.S.Link.received c.set_up-end.ensures.stream) c.in-Stopped.ensures.sets_up c.acquire.ensures.acquires;
  faults = faults_later _ _ _ _ _ _ _ _ refl (ap g.S.Link.faults c.set_up-end.ensures.stream) c.in-Stopped.ensures.fails c.acquire.ensures.faults;
  table = c.acquire.ensures.table;
  config = c.acquire.ensures.config;
  fills = c.acquire.ensures.fills;
  requests = c.acquire.ensures.requests;
  backs = c.acquire.ensures.backs;
  alone = c.acquire.ensures.alone;
}

pub returns-in_default : goal.returns-in_default
returns-in_default g c = record {
  reads = ends_early c.args.reader.now.mode (config_of c.args.reader.now.acq) c.args.reader.now.camera c.args.reader.now.own (Stands c.args.reader.now.acq)
      (g.S.Link.received c.args.reader.now.host.stream) (g.S.Link.received c.set_up-end.new.self.stream) (g.M.Link.received c.args.reader.now.host.control)
      (g.M.Link.received c.set_up-end.new.self.control) (g.M.Link.sent c.args.reader.now.host.control) (g.M.Link.sent c.set_up-end.new.self.control)
      (g.C.Clock.told c.args.reader.now.host.clock) (g.C.Clock.told c.set_up-end.new.self.clock) c.args.reader.now.host.client c.set_up-end.new.self.client
      c.args.reader.now.journal.items c.args.reader.now.turns c.set_up-end.result c.args.pass.now c.in_default.not-Stopped c.requires.new
      (ap g.S.Link.received c.set_up-end.ensures.stream) c.set_up-end.ensures.sets_up;
  faults = control_faults (is_fault_end c.set_up-end.result) _ _ _ _ (ap g.S.Link.faults c.set_up-end.ensures.stream) c.set_up-end.ensures.fails;
  table = refl;
  config = refl;
  fills = c.requires.fills;
  requests = c.requires.requests;
  backs = c.requires.backs;
  alone = λ alone. alone;
}
