-- The turn of what its calls gave.
use Rattle.std.proofs.Common.{◌∙◌, sym, subst}
use Rattle.acq_core.specs.Receiver.{config_of, Stands}
use Rattle.acq_core.specs.Waiting.{waiting_requests}
use Rattle.gev_links.specs.Links.{answer_of}
use Rattle.gev_control.specs.Controlled.{is_fault}
use Rattle.gev_acq.specs.Buffers.{Backs, HoldsAlone}
use Rattle.gev_acq.specs.Turning.{ServesTurn}
use Rattle.gev_acq.proofs.OneTurn.{takes_one, failed_is_lost, come_is_some, turn_faults}
use Rattle.gev_acq.proofs.reader_turn.turn_once.Goals as goal

pub returns : goal.returns
returns g c = record {
  takes = takes_one c.args.mode (config_of c.args.acq.now) c.args.lent.camera (Stands c.args.acq.now) (Stands c.serve_turn-heard.new.acq) (Stands c.send_requests-failed.new.acq)
      (λ moment told. g.P.Moments.says c.args.moments.now moment told c.tell-told.new.self)
      (g.L.Link.received c.args.lent.stream.now) (g.L.Link.received c.recv-received.new.self) (g.M.Link.received c.args.lent.control.now)
      (g.M.Link.received c.send_requests-failed.new.control) (g.M.Link.received c.client_turn-end.new.control) (g.M.Link.sent c.args.lent.control.now)
      (g.M.Link.sent c.send_requests-failed.new.control) (g.M.Link.sent c.client_turn-end.new.control) (g.C.Clock.told c.args.lent.clock.now)
      (g.C.Clock.told c.now-moment.new.self) c.args.lent.client.now c.client_turn-end.new.client (answer_of c.recv-received.result c.recv-received.new.out) _ c.tell-told.result _
      c.has_failed-lost.result c.send_requests-failed.result c.client_turn-end.result c.args.pass.now c.serve_turn-heard.new.pass
      c.recv-received.ensures.received c.now-moment.ensures.told c.tell-told.ensures.says
      (λ gone. c.has_failed-lost.ensures ∙ failed_is_lost c.recv-received.result c.recv-received.new.out gone)
      (c.has_come-datagram.ensures ∙ come_is_some c.recv-received.result c.recv-received.new.out)
      (subst (λ came. ServesTurn c.args.mode (config_of c.args.acq.now) (Stands c.args.acq.now) (Stands c.serve_turn-heard.new.acq) came c.tell-told.result c.serve_turn-heard.result
      (waiting_requests c.serve_turn-heard.new.acq) c.args.pass.now c.serve_turn-heard.new.pass) c.bytes_of-bytes.ensures c.serve_turn-heard.ensures.serves)
      c.send_requests-failed.ensures.rest.stands c.send_requests-failed.ensures.sends
      c.send_requests-failed.ensures.received c.client_turn-end.ensures.turn;
  faults = turn_faults c.recv-received.result c.has_failed-lost.result c.send_requests-failed.result (is_fault c.client_turn-end.result) _ _ _ _ _ c.has_failed-lost.ensures
      c.recv-received.ensures.no_fault c.recv-received.ensures.failed c.send_requests-failed.ensures.fails c.client_turn-end.ensures.fails;
  table = c.serve_turn-heard.ensures.table;
  config = c.send_requests-failed.ensures.rest.config ∙ c.serve_turn-heard.ensures.config;
  fills = c.send_requests-failed.ensures.fills ∙ c.serve_turn-heard.ensures.fills;
  requests = c.send_requests-failed.ensures.requests;
  backs = subst (Backs c.serve_turn-heard.new.pass) (sym c.send_requests-failed.ensures.rest.buffers) c.serve_turn-heard.ensures.backs;
  alone = λ alone. subst (HoldsAlone c.serve_turn-heard.new.pass) (sym c.send_requests-failed.ensures.rest.buffers) (c.serve_turn-heard.ensures.alone alone);
}

pub serve_turn-heard-requires : goal.serve_turn-heard-requires
serve_turn-heard-requires g c = record {
  table = c.requires.table;
  fills = c.requires.fills;
  requests = c.requires.requests;
  backs = c.requires.backs;
}
