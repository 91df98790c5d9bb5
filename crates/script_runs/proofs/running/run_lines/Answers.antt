use Rattle.std.proofs.Common.{◌∙◌, refl}
use Rattle.script_runs.proofs.Looping.{stood_none, stood_on, stood_ends}
use Rattle.script_runs.proofs.running.run_lines.Goals as goal

pub turns-init : goal.turns-init
turns-init g c = record {
  stood = stood_none g.M.Machine.runs c.args.machine.now _ _ (g.S.Source.left c.args.source.now) (g.K.Sink.written c.args.sink.now) c.requires.given c.requires.held;
  refusal = c.requires.refusal;
  reads = refl;
  writes = refl;
}

pub turns-preserved : goal.turns-preserved
turns-preserved g c = record {
  stood =
      stood_on _ _ _ _ _ _ _ _ _ _ _ _ _ _ _
      c.turns.invariant.stood c.in-None.ensures.turn.0 c.in-None.ensures.turn.1 c.in-None.ensures.turn.3 c.in-None.ensures.turn.4;
  refusal = c.in-None.ensures.turn.2;
  reads = c.in-None.ensures.reads_steady (λ e. absurd (cc)) ∙ c.turns.invariant.reads;
  writes = c.in-None.ensures.writes_steady (λ e. absurd (cc)) ∙ c.turns.invariant.writes;
}

pub returns-in-Some-clause-ends : goal.returns-in-Some-clause-ends
returns-in-Some-clause-ends g c =
    stood_ends g.M.Machine.runs g.M.Machine.refuses c.args.machine.now c.turns.machine c.turns.lines.given c.turns.lines.held c.in-Some.ending
    (g.S.Source.left c.args.source.now) (g.S.Source.left c.turns.source) (g.S.Source.left c.run_next.new.source)
    (g.K.Sink.written c.args.sink.now) (g.K.Sink.written c.turns.sink) (g.K.Sink.written c.run_next.new.sink)
    (g.S.Source.faults c.args.source.now) (g.S.Source.faults c.turns.source) (g.S.Source.faults c.run_next.new.source)
    (g.K.Sink.faults c.args.sink.now) (g.K.Sink.faults c.turns.sink) (g.K.Sink.faults c.run_next.new.sink)
    c.turns.invariant.stood c.turns.invariant.reads c.turns.invariant.writes c.in-Some.ensures.turn
