use Rattle.std.proofs.Common.{refl, sym, ap, ◌∙◌, ◌+◌}
use Rattle.std.proofs.lemmas.Bool.{OnTrue_at}
use Rattle.buffer_words.proofs.Retries.{hands_self, hands_then}
use Rattle.frame_writing.specs.declared.turn_end.TurnEnd.TheVariants.{Handed, WriteFault, NoMemory, Idle, Over}
use Rattle.frame_writing.proofs.Written.{drops_none, drops_then}
use Rattle.frame_writing.proofs.OneTurn.{turn_of}
use Rattle.frame_writing.proofs.AllTurns.{begins, goes_still, hands_on, idles_on, has_enough, input_ended, is_over, write_failed, memory_ended}
use Rattle.frame_writing.proofs.applying.hand_out_frames.Goals as goal

pub turns-init : goal.turns-init
turns-init g c = record {
  on = begins _ _ _ _ _ _;
  hands = hands_self _;
  dropped = drops_none _;
  input_faults = refl;
  frames = refl;
  output = refl;
  watched = refl;
}

pub returns-then-has_ended-clause-dropped : goal.returns-then-has_ended-clause-dropped
returns-then-has_ended-clause-dropped g c = drops_then _ _ _ c.turns.invariant.dropped c.has_ended.ensures.dropped

pub turns-preserved-in-Handed : goal.turns-preserved-in-Handed
turns-preserved-in-Handed g c = record {
  on =
      hands_on _ _ _ _ _ _ _ _ _ c.in-Handed.whole _ _ _ _ _ _ _ _ _ (goes_still _ _ _ _ _ _ _ _ _ _ _ _ _ _ _ c.turns.invariant.on (ap (λ x. g.C.Clock.told x) c.tell_progress.ensures.clock) c.tell_progress.ensures.written c.tell_progress.ensures.faults)
      (turn_of (Handed c.in-Handed.whole) c.args.outlet.now.output _ _ _ _ _ _ _ _ _ (c.tell_progress.ensures.output ∙ c.turns.invariant.output) c.in-Handed.ensures.turn)
      (λ e. c.if-taken-outlet.false (e ∙ sym c.turns.invariant.frames)) refl (ap (λ n. c.turns.complete + n) c.one_if-complete.ensures);
  hands = hands_then _ _ _ c.turns.invariant.hands c.in-Handed.ensures.hands;
  dropped = drops_then _ _ _ c.turns.invariant.dropped c.has_ended.ensures.dropped;
  input_faults = c.has_ended.ensures.faults ∙ c.turns.invariant.input_faults;
  frames = c.in-Handed.ensures.frames ∙ (c.tell_progress.ensures.frames ∙ c.turns.invariant.frames);
  output = c.in-Handed.ensures.output ∙ (c.tell_progress.ensures.output ∙ c.turns.invariant.output);
  watched = c.in-Handed.ensures.watched ∙ (c.tell_progress.ensures.watched ∙ (c.has_ended.ensures.on ∙ c.turns.invariant.watched));
}

pub turns-preserved : goal.turns-preserved
turns-preserved g c = record {
  on =
      idles_on _ _ _ _ _ _ _ _ _ _ _ _ _ _ _ _ (goes_still _ _ _ _ _ _ _ _ _ _ _ _ _ _ _ c.turns.invariant.on (ap (λ x. g.C.Clock.told x) c.tell_progress.ensures.clock) c.tell_progress.ensures.written c.tell_progress.ensures.faults) (turn_of Idle c.args.outlet.now.output _ _ _ _ _ _ _ _ _ (c.tell_progress.ensures.output ∙ c.turns.invariant.output) c.in-Idle.ensures.turn);
  hands = hands_then _ _ _ c.turns.invariant.hands c.in-Idle.ensures.hands;
  dropped = drops_then _ _ _ c.turns.invariant.dropped c.has_ended.ensures.dropped;
  input_faults = c.has_ended.ensures.faults ∙ c.turns.invariant.input_faults;
  frames = c.in-Idle.ensures.frames ∙ (c.tell_progress.ensures.frames ∙ c.turns.invariant.frames);
  output = c.in-Idle.ensures.output ∙ (c.tell_progress.ensures.output ∙ c.turns.invariant.output);
  watched = c.in-Idle.ensures.watched ∙ (c.tell_progress.ensures.watched ∙ (c.has_ended.ensures.on ∙ c.turns.invariant.watched));
}

pub returns-in-Over-clause-hands_out : goal.returns-in-Over-clause-hands_out
returns-in-Over-clause-hands_out g c =
    is_over _ _ _ _ _ _ _ _ _ _ _ _ _ _ _ _ _ _ _ (goes_still _ _ _ _ _ _ _ _ _ _ _ _ _ _ _ c.turns.invariant.on (ap (λ x. g.C.Clock.told x) c.tell_progress.ensures.clock) c.tell_progress.ensures.written c.tell_progress.ensures.faults) (turn_of Over c.args.outlet.now.output _ _ _ _ _ _ _ _ _ (c.tell_progress.ensures.output ∙ c.turns.invariant.output) c.in-Over.ensures.turn) (λ e. c.if-taken-outlet.false (e ∙ sym c.turns.invariant.frames)) c.ended-in-Over.ensures

pub returns-in-Over-clause-dropped : goal.returns-in-Over-clause-dropped
returns-in-Over-clause-dropped g c = drops_then _ _ _ c.turns.invariant.dropped c.has_ended.ensures.dropped

pub returns-in-WriteFault-clause-hands_out : goal.returns-in-WriteFault-clause-hands_out
returns-in-WriteFault-clause-hands_out g c =
    write_failed _ _ _ _ _ _ _ _ _ c.in-WriteFault.whole _ _ _ _ _ _ _ _ _ _ _ _ (goes_still _ _ _ _ _ _ _ _ _ _ _ _ _ _ _ c.turns.invariant.on (ap (λ x. g.C.Clock.told x) c.tell_progress.ensures.clock) c.tell_progress.ensures.written c.tell_progress.ensures.faults)
    (turn_of (WriteFault c.in-WriteFault.whole) c.args.outlet.now.output _ _ _ _ _ _ _ _ _ (c.tell_progress.ensures.output ∙ c.turns.invariant.output) c.in-WriteFault.ensures.turn)
    (λ e. c.if-taken-outlet.false (e ∙ sym c.turns.invariant.frames)) refl (ap (λ n. c.turns.complete + n) c.one_if.ensures) c.ended-in-WriteFault.ensures

pub returns-in-WriteFault-clause-dropped : goal.returns-in-WriteFault-clause-dropped
returns-in-WriteFault-clause-dropped g c = drops_then _ _ _ c.turns.invariant.dropped c.has_ended.ensures.dropped

pub returns-in-NoMemory-clause-hands_out : goal.returns-in-NoMemory-clause-hands_out
returns-in-NoMemory-clause-hands_out g c =
    memory_ended _ _ _ _ _ _ _ _ _ c.in-NoMemory.whole _ _ _ _ _ _ _ _ _ _ _ _ (goes_still _ _ _ _ _ _ _ _ _ _ _ _ _ _ _ c.turns.invariant.on (ap (λ x. g.C.Clock.told x) c.tell_progress.ensures.clock) c.tell_progress.ensures.written c.tell_progress.ensures.faults)
    (turn_of (NoMemory c.in-NoMemory.whole) c.args.outlet.now.output _ _ _ _ _ _ _ _ _ (c.tell_progress.ensures.output ∙ c.turns.invariant.output) c.in-NoMemory.ensures.turn)
    (λ e. c.if-taken-outlet.false (e ∙ sym c.turns.invariant.frames)) refl (ap (λ n. c.turns.complete + n) c.one_if-in-NoMemory.ensures) c.ended-in-NoMemory.ensures

pub returns-in-NoMemory-clause-dropped : goal.returns-in-NoMemory-clause-dropped
returns-in-NoMemory-clause-dropped g c = drops_then _ _ _ c.turns.invariant.dropped c.has_ended.ensures.dropped

pub returns-then-taken-outlet-clause-hands_out : goal.returns-then-taken-outlet-clause-hands_out
returns-then-taken-outlet-clause-hands_out g c = has_enough _ _ _ _ _ _ _ _ _ _ _ _ _ _ _ c.turns.invariant.on (c.if-taken-outlet.true ∙ c.turns.invariant.frames) c.ended.ensures

pub returns-then-taken-outlet-clause-dropped : goal.returns-then-taken-outlet-clause-dropped
returns-then-taken-outlet-clause-dropped g c = c.turns.invariant.dropped

pub returns-then-taken-outlet-clause-input_faults : goal.returns-then-taken-outlet-clause-input_faults
returns-then-taken-outlet-clause-input_faults g c = c.turns.invariant.input_faults

pub returns-then-taken-outlet-clause-hands : goal.returns-then-taken-outlet-clause-hands
returns-then-taken-outlet-clause-hands g c = c.turns.invariant.hands

pub returns-then-taken-outlet-clause-frames : goal.returns-then-taken-outlet-clause-frames
returns-then-taken-outlet-clause-frames g c = c.turns.invariant.frames

pub returns-then-taken-outlet-clause-output : goal.returns-then-taken-outlet-clause-output
returns-then-taken-outlet-clause-output g c = c.turns.invariant.output

pub returns-then-has_ended-clause-hands_out : goal.returns-then-has_ended-clause-hands_out
returns-then-has_ended-clause-hands_out g c = input_ended _ _ _ _ _ _ _ _ _ _ _ _ _ _ _ c.turns.invariant.on (λ e. c.if-taken-outlet.false (e ∙ sym c.turns.invariant.frames)) (sym c.turns.invariant.watched ∙ OnTrue_at c.if-has_ended.true c.has_ended.ensures.watched) (OnTrue_at c.if-has_ended.true c.has_ended.ensures.ended) c.ended-then-has_ended.ensures

pub returns-then-has_ended-clause-input_faults : goal.returns-then-has_ended-clause-input_faults
returns-then-has_ended-clause-input_faults g c = c.has_ended.ensures.faults ∙ c.turns.invariant.input_faults

pub returns-then-has_ended-clause-hands : goal.returns-then-has_ended-clause-hands
returns-then-has_ended-clause-hands g c = c.turns.invariant.hands

pub returns-then-has_ended-clause-frames : goal.returns-then-has_ended-clause-frames
returns-then-has_ended-clause-frames g c = c.turns.invariant.frames

pub returns-then-has_ended-clause-output : goal.returns-then-has_ended-clause-output
returns-then-has_ended-clause-output g c = c.turns.invariant.output

pub returns-in-Over-clause-input_faults : goal.returns-in-Over-clause-input_faults
returns-in-Over-clause-input_faults g c = c.has_ended.ensures.faults ∙ c.turns.invariant.input_faults

pub returns-in-Over-clause-hands : goal.returns-in-Over-clause-hands
returns-in-Over-clause-hands g c = hands_then _ _ _ c.turns.invariant.hands c.in-Over.ensures.hands

pub returns-in-Over-clause-frames : goal.returns-in-Over-clause-frames
returns-in-Over-clause-frames g c = c.in-Over.ensures.frames ∙ (c.tell_progress.ensures.frames ∙ c.turns.invariant.frames)

pub returns-in-Over-clause-output : goal.returns-in-Over-clause-output
returns-in-Over-clause-output g c = c.in-Over.ensures.output ∙ (c.tell_progress.ensures.output ∙ c.turns.invariant.output)

pub returns-in-WriteFault-clause-input_faults : goal.returns-in-WriteFault-clause-input_faults
returns-in-WriteFault-clause-input_faults g c = c.has_ended.ensures.faults ∙ c.turns.invariant.input_faults

pub returns-in-WriteFault-clause-hands : goal.returns-in-WriteFault-clause-hands
returns-in-WriteFault-clause-hands g c = hands_then _ _ _ c.turns.invariant.hands c.in-WriteFault.ensures.hands

pub returns-in-WriteFault-clause-frames : goal.returns-in-WriteFault-clause-frames
returns-in-WriteFault-clause-frames g c = c.in-WriteFault.ensures.frames ∙ (c.tell_progress.ensures.frames ∙ c.turns.invariant.frames)

pub returns-in-WriteFault-clause-output : goal.returns-in-WriteFault-clause-output
returns-in-WriteFault-clause-output g c = c.in-WriteFault.ensures.output ∙ (c.tell_progress.ensures.output ∙ c.turns.invariant.output)

pub returns-in-NoMemory-clause-input_faults : goal.returns-in-NoMemory-clause-input_faults
returns-in-NoMemory-clause-input_faults g c = c.has_ended.ensures.faults ∙ c.turns.invariant.input_faults

pub returns-in-NoMemory-clause-hands : goal.returns-in-NoMemory-clause-hands
returns-in-NoMemory-clause-hands g c = hands_then _ _ _ c.turns.invariant.hands c.in-NoMemory.ensures.hands

pub returns-in-NoMemory-clause-frames : goal.returns-in-NoMemory-clause-frames
returns-in-NoMemory-clause-frames g c = c.in-NoMemory.ensures.frames ∙ (c.tell_progress.ensures.frames ∙ c.turns.invariant.frames)

pub returns-in-NoMemory-clause-output : goal.returns-in-NoMemory-clause-output
returns-in-NoMemory-clause-output g c = c.in-NoMemory.ensures.output ∙ (c.tell_progress.ensures.output ∙ c.turns.invariant.output)
