use Rattle.std.proofs.Common.{◌∷◌, true, false, sym, ◌∙◌, subst, inr, arith}
use Rattle.std.specs.Prelude.{◌&&◌}
use Rattle.gev_serve.specs.Wires.{wire}
use Rattle.camera_serving.specs.declared.pacing.Pace.{Pace}
use Rattle.camera_serving.specs.Turns.{is_look_due}
use Rattle.camera_serving.specs.Pacing.{IsPace}
use Rattle.camera_serving.specs.Turning.{Begins}
use Rattle.camera_serving.proofs.Cutting.{fault_at, memory_at}
use Rattle.camera_serving.proofs.Serves.{serves_more, pace_more, kind_is, look_is, turns_fit}
use Rattle.camera_serving.proofs.Looks.{ended_spent}
use Rattle.camera_serving.proofs.turning.serve_turns.Goals as goal

pub returns-then-has_ended-clause-ends : goal.returns-then-has_ended-clause-ends
returns-then-has_ended-clause-ends g c =
    let look = look_is c.args.words.now.rate c.turns.invariant.made c.turns.pace true c.args.words.now.with_input (g.S.Source.left c.turns.source) (g.S.Source.left c.has_ended.new.source) c.turns.invariant.pace c.if-has_ended.ensures.looks in
    inr (record {
      made = c.turns.invariant.made;
      middle = g.S.Source.left c.turns.source;
      serves = c.turns.invariant.serves;
      few = omega (arith, c.if-turns-words.false);
      look = look;
      spent = ended_spent (c.args.words.now.with_input && is_look_due c.turns.invariant.made) (g.S.Source.left c.turns.source) (g.S.Source.left c.has_ended.new.source) look;
    })

pub turns-preserved : goal.turns-preserved
turns-preserved g c =
    let kind = c.next_kind-kind.ensures ∙ kind_is c.args.words.now.rate c.turns.invariant.made c.turns.pace c.turns.invariant.pace in
    let look = look_is c.args.words.now.rate c.turns.invariant.made c.turns.pace false c.args.words.now.with_input (g.S.Source.left c.turns.source) (g.S.Source.left c.has_ended.new.source) c.turns.invariant.pace c.if-has_ended.ensures.looks in
    record {
      made = record { kind = c.next_kind-kind.result; served = c.in-Ok.ensures.part.turn } ∷ c.turns.invariant.made;
      serves = serves_more c.args.words.now.rate c.args.words.now.with_input c.args.camera.now c.turns.camera c.make_turn.new.camera
          (wire (g.L.Link.received c.args.link.now) (g.L.Link.sent c.args.link.now) (g.L.Link.faults c.args.link.now))
          (wire (g.L.Link.received c.turns.link) (g.L.Link.sent c.turns.link) (g.L.Link.faults c.turns.link))
          (wire (g.L.Link.received c.make_turn.new.link) (g.L.Link.sent c.make_turn.new.link) (g.L.Link.faults c.make_turn.new.link))
          (g.C.Clock.told c.args.clock.now) (g.C.Clock.told c.turns.clock) (g.C.Clock.told c.make_turn.new.clock)
          (g.S.Source.left c.args.source.now) (g.S.Source.left c.turns.source) (g.S.Source.left c.has_ended.new.source)
          c.turns.turns c.turns.frames c.with_turn-turns.result c.with_frame-frames.result c.turns.invariant.made c.next_kind-kind.result c.in-Ok.made
          c.turns.invariant.serves kind look c.in-Ok.ensures c.with_turn-turns.ensures c.with_frame-frames.ensures;
      pace = subst (λ (p : Pace). IsPace c.args.words.now.rate (record { kind = c.next_kind-kind.result; served = c.in-Ok.ensures.part.turn } ∷ c.turns.invariant.made) p) (sym c.pass.ensures)
          (pace_more c.args.words.now.rate c.turns.invariant.made c.turns.pace c.next_kind-kind.result c.in-Ok.made c.in-Ok.ensures.part.turn
          c.turns.invariant.pace c.in-Ok.ensures.moment c.in-Ok.ensures.is_quiet);
      few = turns_fit c.next_kind-kind.result c.turns.turns c.with_turn-turns.result c.args.words.now.turns (omega (arith, c.if-turns-words.false)) c.with_turn-turns.ensures;
      unread = λ no. c.has_ended.ensures.unread no ∙ c.turns.invariant.unread no;
      reads = c.has_ended.ensures.faults ∙ c.turns.invariant.reads;
    }

pub returns-in-Err-Fault-clause-ends : goal.returns-in-Err-Fault-clause-ends
returns-in-Err-Fault-clause-ends g c =
    let kind = c.next_kind-kind.ensures ∙ kind_is c.args.words.now.rate c.turns.invariant.made c.turns.pace c.turns.invariant.pace in
    let look = look_is c.args.words.now.rate c.turns.invariant.made c.turns.pace false c.args.words.now.with_input (g.S.Source.left c.turns.source) (g.S.Source.left c.has_ended.new.source) c.turns.invariant.pace c.if-has_ended.ensures.looks in
    fault_at c.args.words.now.rate c.args.words.now.turns c.args.words.now.with_input (g.S.Source.left c.args.source.now) (g.S.Source.left c.has_ended.new.source)
    c.args.camera.now c.turns.camera c.make_turn.new.camera
    (wire (g.L.Link.received c.args.link.now) (g.L.Link.sent c.args.link.now) (g.L.Link.faults c.args.link.now))
    (wire (g.L.Link.received c.turns.link) (g.L.Link.sent c.turns.link) (g.L.Link.faults c.turns.link))
    (wire (g.L.Link.received c.make_turn.new.link) (g.L.Link.sent c.make_turn.new.link) (g.L.Link.faults c.make_turn.new.link))
    (g.C.Clock.told c.args.clock.now) (g.C.Clock.told c.turns.clock) (g.C.Clock.told c.make_turn.new.clock) c.next_kind-kind.result c.in-Err-Fault.field-0
    (record {
      made = c.turns.invariant.made;
      turns = c.turns.turns;
      frames = c.turns.frames;
      middle = g.S.Source.left c.turns.source;
      serves = c.turns.invariant.serves;
      few = omega (arith, c.if-turns-words.false);
      look = look;
    })
    kind c.in-Err-Fault.field-0-is c.in-Err-Fault.ensures

pub returns-in-Err-NoMemory-clause-ends : goal.returns-in-Err-NoMemory-clause-ends
returns-in-Err-NoMemory-clause-ends g c =
    let kind = c.next_kind-kind.ensures ∙ kind_is c.args.words.now.rate c.turns.invariant.made c.turns.pace c.turns.invariant.pace in
    let look = look_is c.args.words.now.rate c.turns.invariant.made c.turns.pace false c.args.words.now.with_input (g.S.Source.left c.turns.source) (g.S.Source.left c.has_ended.new.source) c.turns.invariant.pace c.if-has_ended.ensures.looks in
    memory_at c.args.words.now.rate c.args.words.now.turns c.args.words.now.with_input (g.S.Source.left c.args.source.now) (g.S.Source.left c.has_ended.new.source)
    c.args.camera.now c.turns.camera c.make_turn.new.camera
    (wire (g.L.Link.received c.args.link.now) (g.L.Link.sent c.args.link.now) (g.L.Link.faults c.args.link.now))
    (wire (g.L.Link.received c.turns.link) (g.L.Link.sent c.turns.link) (g.L.Link.faults c.turns.link))
    (wire (g.L.Link.received c.make_turn.new.link) (g.L.Link.sent c.make_turn.new.link) (g.L.Link.faults c.make_turn.new.link))
    (g.C.Clock.told c.args.clock.now) (g.C.Clock.told c.turns.clock) (g.C.Clock.told c.make_turn.new.clock) c.next_kind-kind.result c.in-Err-NoMemory.field-0
    (record {
      made = c.turns.invariant.made;
      turns = c.turns.turns;
      frames = c.turns.frames;
      middle = g.S.Source.left c.turns.source;
      serves = c.turns.invariant.serves;
      few = omega (arith, c.if-turns-words.false);
      look = look;
    })
    kind c.in-Err-NoMemory.field-0-is c.in-Err-NoMemory.ensures
