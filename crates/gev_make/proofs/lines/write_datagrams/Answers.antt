use Rattle.std.proofs.lemmas.Result.{err_from_is_err_and}
use Rattle.std.proofs.lemmas.List.Elements.{All-rest}
use Rattle.gev_make.specs.MakeText.{FitsLine}
use Rattle.gev_make.proofs.Texts.{leads_on, leads_stops, leads_end}
use Rattle.gev_make.proofs.Turns.{datagrams_turn, datagrams_end}
use Rattle.gev_make.proofs.lines.write_datagrams.Goals as goal

pub returns-in_err-write_datagram-clause-written : goal.returns-in_err-write_datagram-clause-written
returns-in_err-write_datagram-clause-written g c =
    let p = err_from_is_err_and c.from_residual.result c.from_residual.ensures.1 in
    rw (p.1, p.2)
    (leads_stops _ _ _ _ _ _ _ _ _ _ _ c.loop-datagram.invariant.leads (datagrams_turn c.loop-datagram.queue c.pop.new.self c.in-Some.datagram c.in-Some.ensures)
    c.in_err-write_datagram.ensures)

pub loop-datagram-preserved : goal.loop-datagram-preserved
loop-datagram-preserved g c = record {
  leads =
      leads_on _ _ _ _ _ _ _ _ _ _ c.loop-datagram.invariant.leads (datagrams_turn c.loop-datagram.queue c.pop.new.self c.in-Some.datagram c.in-Some.ensures)
      c.in_ok-write_datagram.ensures;
  fit = All-rest FitsLine c.in-Some.datagram c.pop.new.self c.loop-datagram.queue c.in-Some.ensures c.loop-datagram.invariant.fit;
}

pub returns-clause-written : goal.returns-clause-written
returns-clause-written g c = leads_end _ _ _ _ _ _ c.loop-datagram.invariant.leads (datagrams_end c.loop-datagram.queue c.in_default.ensures.0)
