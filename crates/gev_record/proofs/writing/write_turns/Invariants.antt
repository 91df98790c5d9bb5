use Rattle.std.proofs.Common.{drop}
use Rattle.acquisition_machine.specs.Machine.{State}
use Rattle.gev_record.specs.Standing.{StandsIn}
use Rattle.gev_record.proofs.Turning.{IsTurning, all_turns}
use Rattle.gev_record.proofs.writing.write_turns.Given as goal

abbrev pub invariant-loop-turn : goal.invariant-loop-turn
invariant-loop-turn g l = record {
  turning : (s : State) → StandsIn l.initial.player l.initial.used s
      → IsTurning l.player l.used (g.K.Sink.written l.initial.sink) (g.K.Sink.written l.sink) (g.K.Sink.faults l.initial.sink) (g.K.Sink.faults l.sink) s
      (all_turns l.tape.kept l.marks) (drop l.turn (all_turns l.tape.kept l.marks));
}
