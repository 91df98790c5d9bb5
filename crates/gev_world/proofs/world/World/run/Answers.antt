use Rattle.std.proofs.Common.{subst, sym}
use Rattle.gev_world.specs.declared.soak_end.SoakEnd.{SoakEnd}
use Rattle.gev_world.specs.Seen.{run_of}
use Rattle.gev_world.specs.Runs.{RunsSoak}
use Rattle.gev_world.proofs.Looping.{going_first, has_time, going_on, left_falls, run_ended, run_stopped}
use Rattle.gev_world.proofs.world.World.run.Goals as goal

pub rounds-init : goal.rounds-init
rounds-init g c = going_first c.args.self.now _ _ c.requires.new

pub round-requires-clause-time : goal.round-requires-clause-time
round-requires-clause-time g c = has_time _ _ _ _ _ c.rounds.self c.rounds.invariant

pub rounds-smaller : goal.rounds-smaller
rounds-smaller g c =
    left_falls (run_of c.args.self.now.stage) (g.K.Sink.written c.args.sink.now) (g.K.Sink.written c.rounds.sink) (g.K.Sink.written c.round.new.sink)
    (g.K.Sink.faults c.args.sink.now) (g.K.Sink.faults c.rounds.sink) (g.K.Sink.faults c.round.new.sink) c.rounds.self
    (record { stage = c.round.new.stage; host = c.round.new.host; tools = c.round.new.tools }) c.rounds.invariant
    c.in-Ok-None.field-0 c.in-Ok-None.field-0-is c.in-Ok-None.ensures.ends c.in-Ok-None.ensures.run
    (c.in-Ok-None.ensures.between c.in-Ok-None.field-0-is) (c.in-Ok-None.ensures.empty c.in-Ok-None.field-0-is)

pub rounds-preserved : goal.rounds-preserved
rounds-preserved g c =
    going_on (run_of c.args.self.now.stage) (g.K.Sink.written c.args.sink.now) (g.K.Sink.written c.rounds.sink) (g.K.Sink.written c.round.new.sink)
    (g.K.Sink.faults c.args.sink.now) (g.K.Sink.faults c.rounds.sink) (g.K.Sink.faults c.round.new.sink) c.rounds.self
    (record { stage = c.round.new.stage; host = c.round.new.host; tools = c.round.new.tools }) c.rounds.invariant
    c.in-Ok-None.field-0 c.in-Ok-None.field-0-is c.in-Ok-None.ensures.ends c.in-Ok-None.ensures.run
    (c.in-Ok-None.ensures.between c.in-Ok-None.field-0-is) (c.in-Ok-None.ensures.empty c.in-Ok-None.field-0-is)

pub returns-in-Ok-Some : goal.returns-in-Ok-Some
returns-in-Ok-Some g c =
    subst (λ (answer : SoakEnd). RunsSoak answer (run_of c.args.self.now.stage) (g.K.Sink.written c.args.sink.now) (g.K.Sink.written c.round.new.sink) (g.K.Sink.faults c.args.sink.now) (g.K.Sink.faults c.round.new.sink))
    (sym c.ended.ensures)
    (run_ended (run_of c.args.self.now.stage) (g.K.Sink.written c.args.sink.now) (g.K.Sink.written c.rounds.sink) (g.K.Sink.written c.round.new.sink)
    (g.K.Sink.faults c.args.sink.now) (g.K.Sink.faults c.rounds.sink) (g.K.Sink.faults c.round.new.sink) c.rounds.self
    (record { stage = c.round.new.stage; host = c.round.new.host; tools = c.round.new.tools }) c.in-Ok-Some.end c.rounds.invariant
    c.in-Ok-Some.field-0 c.in-Ok-Some.field-0-is c.in-Ok-Some.ensures.ends)

pub returns-in-Err : goal.returns-in-Err
returns-in-Err g c =
    subst (λ (answer : SoakEnd). RunsSoak answer (run_of c.args.self.now.stage) (g.K.Sink.written c.args.sink.now) (g.K.Sink.written c.round.new.sink) (g.K.Sink.faults c.args.sink.now) (g.K.Sink.faults c.round.new.sink))
    (sym c.stopped.ensures)
    (run_stopped (run_of c.args.self.now.stage) (g.K.Sink.written c.args.sink.now) (g.K.Sink.written c.rounds.sink) (g.K.Sink.written c.round.new.sink)
    (g.K.Sink.faults c.args.sink.now) (g.K.Sink.faults c.rounds.sink) (g.K.Sink.faults c.round.new.sink) c.rounds.self
    (record { stage = c.round.new.stage; host = c.round.new.host; tools = c.round.new.tools }) c.in-Err.stop c.rounds.invariant
    c.in-Err.ensures.ends)
