use Rattle.std.proofs.Common.{Option, subst}
use Rattle.gev_world.specs.declared.run_end.RunEnd.{RunEnd}
use Rattle.gev_world.specs.Rounds.{ComesToHost}
use Rattle.gev_world.proofs.Closing.{stops_unwritten}
use Rattle.gev_world.proofs.Rounding.{comes_standing, round_ends, round_goes}
use Rattle.gev_world.proofs.rounds.round.Goals as goal

pub host_round-requires-clause-world : goal.host_round-requires-clause-world
host_round-requires-clause-world g c = record {
  acts = c.requires.world.acts;
  world = _;
  stands = comes_standing c.args.stage.now c.come_to_host.new.stage c.args.host.now c.requires.world.acts c.requires.world.world c.requires.world.stands
      (subst (λ (end : Option RunEnd). ComesToHost c.args.stage.now end c.come_to_host.new.stage) c.in-Ok-None.field-0-is c.in-Ok-None.ensures.comes);
}

pub returns-in-Ok-Some-clause-ends : goal.returns-in-Ok-Some-clause-ends
returns-in-Ok-Some-clause-ends g c = λ acts w stands.
    round_ends c.args.stage.now c.come_to_host.new.stage c.args.host.now c.in-Ok-Some.end acts w (g.K.Sink.written c.args.sink.now) (g.K.Sink.faults c.args.sink.now) stands
    (subst (λ (end : Option RunEnd). ComesToHost c.args.stage.now end c.come_to_host.new.stage) c.in-Ok-Some.field-0-is c.in-Ok-Some.ensures.comes)

pub returns-in-Ok-None-clause-ends : goal.returns-in-Ok-None-clause-ends
returns-in-Ok-None-clause-ends g c = λ acts w stands.
    round_goes c.args.stage.now c.come_to_host.new.stage c.host_round.new.stage c.args.host.now c.host_round.new.host c.host_round.result acts w
    (g.K.Sink.written c.args.sink.now) (g.K.Sink.written c.host_round.new.sink) (g.K.Sink.faults c.args.sink.now) (g.K.Sink.faults c.host_round.new.sink) stands
    (subst (λ (end : Option RunEnd). ComesToHost c.args.stage.now end c.come_to_host.new.stage) c.in-Ok-None.field-0-is c.in-Ok-None.ensures.comes) c.host_round.ensures.ends

pub returns-in-Err-clause-ends : goal.returns-in-Err-clause-ends
returns-in-Err-clause-ends g c = λ acts w stands. stops_unwritten _ _ _ _ _ _
