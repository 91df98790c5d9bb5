-- The order was carried out as a list of its own.
use Rattle.std.proofs.Common.{false, sym, subst, inl, arith}
use Rattle.gev_control.specs.Ends.{ends_in_fault}
use Rattle.gev_control.specs.Sends.{Fails}
use Rattle.gev_control.proofs.Throughs.{same_fault}
use Rattle.gev_control.proofs.going_through.carry_one.Goals as goal

pub carry_out-end-requires : goal.carry_out-end-requires
carry_out-end-requires g c = inl (omega arith)

pub returns-clause-one : goal.returns-clause-one
returns-clause-one g c = record {
  how_so = c.carry_out-end.result.end;
  carried = c.carry_out-end.ensures.carries_out.turns;
  refusal = c.refusal_after.ensures;
  ended = c.given_up.ensures;
}

pub returns-clause-fails : goal.returns-clause-fails
returns-clause-fails g c =
    subst (λ r. Fails false (ends_in_fault r) (g.L.Link.faults c.args.control.now) (g.L.Link.faults c.carry_out-end.new.control)) (sym c.given_up.ensures)
    (same_fault c.carry_out-end.result.end _ _ c.carry_out-end.ensures.fails)
