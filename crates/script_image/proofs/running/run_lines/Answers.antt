use Rattle.std.proofs.Common.{◌∙◌, refl}
use Rattle.script_image.proofs.Looping.{so_far_none, so_far_on, so_far_ends, so_far_waits, so_far_appended, some_state, fewer_left}
use Rattle.script_image.proofs.running.run_lines.Goals as goal

pub turns-init : goal.turns-init
turns-init g c = record {
  so_far =
      so_far_none c.args.showing.now.wanted c.args.showing.now c.args.lines.now.given c.args.lines.now.held (g.S.Source.left c.args.source.now) (g.K.Sink.written c.args.sink.now)
      c.requires.given c.requires.held c.requires.stands;
  refusal = c.requires.refusal;
  reads = refl;
  writes = refl;
}

pub run_next-requires-clause-stands : goal.run_next-requires-clause-stands
run_next-requires-clause-stands g c = some_state _ _ _ _ _ _ _ _ c.turns.invariant.so_far

pub turns-preserved : goal.turns-preserved
turns-preserved g c =
    let f = c.turns.invariant.so_far in
    let turn = c.in-None.ensures.turn c.args.showing.now.wanted f.now.text f.now.taking (g.K.Sink.written c.args.sink.now) f.is (so_far_waits _ _ _ _ _ _ _ _ f) (so_far_appended _ _ _ _ _ _ _ _ f) in
    record {
      so_far = so_far_on _ _ _ _ _ _ _ _ _ _ _ f turn;
      refusal = turn.unrefused;
      reads = c.in-None.ensures.reads_steady (λ e. absurd (cc)) ∙ c.turns.invariant.reads;
      writes = c.in-None.ensures.writes_steady (λ e. absurd (cc)) ∙ c.turns.invariant.writes;
    }

pub turns-smaller : goal.turns-smaller
turns-smaller g c =
    let f = c.turns.invariant.so_far in
    let turn = c.in-None.ensures.turn c.args.showing.now.wanted f.now.text f.now.taking (g.K.Sink.written c.args.sink.now) f.is (so_far_waits _ _ _ _ _ _ _ _ f) (so_far_appended _ _ _ _ _ _ _ _ f) in
    fewer_left c.turns.lines.given c.run_next.new.lines.given turn.next turn.few

pub returns-in-Some-clause-ends : goal.returns-in-Some-clause-ends
returns-in-Some-clause-ends g c =
    let f = c.turns.invariant.so_far in
    let turn = c.in-Some.ensures.turn c.args.showing.now.wanted f.now.text f.now.taking (g.K.Sink.written c.args.sink.now) f.is (so_far_waits _ _ _ _ _ _ _ _ f) (so_far_appended _ _ _ _ _ _ _ _ f) in
    so_far_ends c.args.showing.now.wanted c.turns.showing c.turns.lines c.in-Some.end
    (g.S.Source.left c.args.source.now) (g.S.Source.left c.turns.source) (g.S.Source.left c.run_next.new.source)
    (g.K.Sink.written c.args.sink.now) (g.K.Sink.written c.turns.sink) (g.K.Sink.written c.run_next.new.sink)
    (g.S.Source.faults c.args.source.now) (g.S.Source.faults c.turns.source) (g.S.Source.faults c.run_next.new.source)
    (g.K.Sink.faults c.args.sink.now) (g.K.Sink.faults c.turns.sink) (g.K.Sink.faults c.run_next.new.sink)
    f c.turns.invariant.reads c.turns.invariant.writes turn
