use Rattle.gev_world.proofs.Rounding.{ends_there, goes_there}
use Rattle.gev_world.proofs.rounds.host_round.Goals as goal

pub finish_round-requires : goal.finish_round-requires
finish_round-requires g c =
    let p = c.in-None.ensures.turned.passed c.requires.world.acts c.requires.world.world c.requires.world.stands in
    record { world = record { acts = _; world = _; stands = p.stands } }

pub returns-in-Some-clause-ends : goal.returns-in-Some-clause-ends
returns-in-Some-clause-ends g c = λ acts w stands. ends_there c.args.stage.now c.host_turn.new.stage c.args.host.now c.host_turn.new.host c.in-Some.end acts w _ _ stands c.in-Some.ensures.turned

pub returns-in-None-clause-ends : goal.returns-in-None-clause-ends
returns-in-None-clause-ends g c = λ acts w stands.
    goes_there c.args.stage.now c.host_turn.new.stage c.args.host.now c.host_turn.new.host c.finish_round.new.host c.finish_round.new.stage c.finish_round.result acts w _ _ _ _
    stands c.in-None.ensures.turned c.finish_round.ensures.ends
