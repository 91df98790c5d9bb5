use Rattle.std.proofs.Common.{◌∙◌, arith}
use Rattle.gvsp_std.proofs.Written.{widened_fits}
use Rattle.first_leader.proofs.Widening.{widened_leader}
use Rattle.first_leader.proofs.leaders.wide_leader.Goals as goal

pub widen-requires-clause-room : goal.widen-requires-clause-room
widen-requires-clause-room c = widened_fits c.new-widener.result c.args.bytes.now 9012 (omega (arith, c.requires))

pub returns-in-Ok : goal.returns-in-Ok
returns-in-Ok c =
    c.leader_in.ensures
    ∙ widened_leader c.new-widener.result c.args.bytes.now _ c.in-Ok.len c.widen.new.self c.min.result c.widen.new.out c.new-widener.ensures c.in-Ok.ensures.answer
    c.min.ensures
