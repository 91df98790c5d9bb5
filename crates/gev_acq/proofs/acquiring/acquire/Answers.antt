-- Turn by turn, and the end.
use Rattle.std.proofs.Common.{◌≡◌, ◌∙◌, ℕ, ◌+◌, ◌<◌, ◌≤◌, refl, arith, rules}
use Rattle.acq_core.specs.Receiver.{config_of, buffers, Stands}
use Rattle.gev_control.specs.declared.turn_end.TurnEnd.TheVariants as ends
use Rattle.gev_acq.proofs.Backing.{same_backs, same_alone}
use Rattle.gev_acq.proofs.AllTurns.{begins, goes_on, then_on, then_fault, ends_with, ends_stopped, ends_spent, faults_later, counts_stay}
use Rattle.gev_acq.proofs.acquiring.acquire.Goals as goal

room_left : (len capacity turn turns : ℕ) → len + turns ≤ capacity + turn → turn < turns → len < capacity
room_left len capacity turn turns room more = omega arith

all_made : (turn turns : ℕ) → turns ≤ turn → turn ≤ turns → turn ≡ turns
all_made turn turns most least = omega arith

pub loop-turn-init : goal.loop-turn-init
loop-turn-init g c = record {
  on = begins _ _ _ _ _ _ _;
  stream_count = refl;
  control_count = refl;
  table = refl;
  config = refl;
  fills = c.requires.fills;
  requests = c.requires.requests;
  backs = c.requires.backs;
  alone = λ alone. alone;
  room = omega (arith, c.requires.room);
}

pub returns-then-run-ne1 : goal.returns-then-run-ne1
returns-then-run-ne1 g c = record {
  acquires = ends_stopped _ _ _ _ _ _ _ _ _ c.loop-turn._turn c.args.turns c.look_run-run.result c.args.pass.now c.loop-turn.pass c.look_run-run.new.pass
      c.loop-turn.invariant.on c.look_run-run.ensures.entry c.if-run-ne1.true c.loop-turn-test.true;
  faults = (c.loop-turn.invariant.stream_count, c.loop-turn.invariant.control_count);
  table = c.look_run-run.ensures.entry.table ∙ c.loop-turn.invariant.table;
  config = c.loop-turn.invariant.config;
  fills = c.loop-turn.invariant.fills;
  requests = c.loop-turn.invariant.requests;
  backs = same_backs c.loop-turn.pass c.look_run-run.new.pass (buffers c.loop-turn.acq) c.look_run-run.ensures.hands c.loop-turn.invariant.backs;
  alone = λ alone. same_alone c.loop-turn.pass c.look_run-run.new.pass (buffers c.loop-turn.acq) c.look_run-run.ensures.hands (c.loop-turn.invariant.alone alone);
}

pub turn_once-end-requires-clause-backs : goal.turn_once-end-requires-clause-backs
turn_once-end-requires-clause-backs g c =
    same_backs c.loop-turn.pass c.look_run-run.new.pass (buffers c.loop-turn.acq) c.look_run-run.ensures.hands c.loop-turn.invariant.backs

pub returns-in-Some : goal.returns-in-Some
returns-in-Some g c = record {
  acquires = ends_with c.args.mode (config_of c.args.acq.now) (config_of c.loop-turn.acq) _ (Stands c.args.acq.now) (Stands c.loop-turn.acq) (Stands c.turn_once-end.new.acq) _ _ _ _ _ _
      c.loop-turn._turn c.args.turns c.look_run-run.result c.turn_once-end.result.0 c.turn_once-end.result.1 c.in-Some.last c.args.pass.now c.loop-turn.pass c.look_run-run.new.pass
      c.turn_once-end.new.pass c.loop-turn.invariant.on c.loop-turn.invariant.config c.look_run-run.ensures.entry c.if-run-ne1.false c.turn_once-end.ensures.takes
      c.push_reserved.ensures.items c.loop-turn-test.true c.in-Some.ensures;
  faults = faults_later _ _ _ _ _ _ _ _ (then_fault c.turn_once-end.result.1 c.in-Some.last c.in-Some.ensures) c.loop-turn.invariant.stream_count c.loop-turn.invariant.control_count c.turn_once-end.ensures.faults;
  table = c.turn_once-end.ensures.table ∙ c.look_run-run.ensures.entry.table ∙ c.loop-turn.invariant.table;
  config = c.turn_once-end.ensures.config ∙ c.loop-turn.invariant.config;
  fills = c.turn_once-end.ensures.fills;
  requests = c.turn_once-end.ensures.requests;
  backs = c.turn_once-end.ensures.backs;
  alone = λ alone. c.turn_once-end.ensures.alone
      (same_alone c.loop-turn.pass c.look_run-run.new.pass (buffers c.loop-turn.acq) c.look_run-run.ensures.hands (c.loop-turn.invariant.alone alone));
}

pub returns : goal.returns
returns g c = record {
  acquires = ends_spent _ _ _ _ _ _ _ _ _ c.loop-turn._turn c.args.turns c.args.pass.now c.loop-turn.pass c.loop-turn.invariant.on
      (all_made _ _ c.loop-turn-test.false c.loop-turn.auto._turn-end);
  faults = (c.loop-turn.invariant.stream_count, c.loop-turn.invariant.control_count);
  table = c.loop-turn.invariant.table;
  config = c.loop-turn.invariant.config;
  fills = c.loop-turn.invariant.fills;
  requests = c.loop-turn.invariant.requests;
  backs = c.loop-turn.invariant.backs;
  alone = c.loop-turn.invariant.alone;
}

pub loop-turn-preserved : goal.loop-turn-preserved
loop-turn-preserved g c =
    let goes : c.turn_once-end.result.1 ≡ ends.GoesOn = then_on c.turn_once-end.result.1 c.in-None.ensures in
    let stay = counts_stay _ _ _ _ _ c.turn_once-end.ensures.faults goes in
    record {
      on = goes_on c.args.mode (config_of c.args.acq.now) (config_of c.loop-turn.acq) _ (Stands c.args.acq.now) (Stands c.loop-turn.acq) (Stands c.turn_once-end.new.acq) _ _ _ _ _ _
          c.loop-turn._turn c.look_run-run.result c.turn_once-end.result.0 c.turn_once-end.result.1 c.args.pass.now c.loop-turn.pass c.look_run-run.new.pass
          c.turn_once-end.new.pass c.loop-turn.invariant.on c.loop-turn.invariant.config c.look_run-run.ensures.entry c.if-run-ne1.false c.turn_once-end.ensures.takes
          c.push_reserved.ensures.items goes;
      stream_count = stay.0 ∙ c.loop-turn.invariant.stream_count;
      control_count = stay.1 ∙ c.loop-turn.invariant.control_count;
      table = c.turn_once-end.ensures.table ∙ (c.look_run-run.ensures.entry.table ∙ c.loop-turn.invariant.table);
      config = c.turn_once-end.ensures.config ∙ c.loop-turn.invariant.config;
      fills = c.turn_once-end.ensures.fills;
      requests = c.turn_once-end.ensures.requests;
      backs = c.turn_once-end.ensures.backs;
      alone = λ alone. c.turn_once-end.ensures.alone
          (same_alone c.loop-turn.pass c.look_run-run.new.pass (buffers c.loop-turn.acq) c.look_run-run.ensures.hands (c.loop-turn.invariant.alone alone));
      room = omega (arith, c.loop-turn.invariant.room, c.push_reserved.ensures.len, c.push_reserved.ensures.capacity);
    }

pub look_run-run-requires : goal.look_run-run-requires
look_run-run-requires g c = record { table = c.loop-turn.invariant.table ∙ c.requires.table }

pub turn_once-end-requires-clause-table : goal.turn_once-end-requires-clause-table
turn_once-end-requires-clause-table g c = c.look_run-run.ensures.entry.table ∙ c.loop-turn.invariant.table ∙ c.requires.table

pub turn_once-end-requires-clause-fills : goal.turn_once-end-requires-clause-fills
turn_once-end-requires-clause-fills g c = c.loop-turn.invariant.fills

pub turn_once-end-requires-clause-requests : goal.turn_once-end-requires-clause-requests
turn_once-end-requires-clause-requests g c = c.loop-turn.invariant.requests

pub push_reserved-requires : goal.push_reserved-requires
push_reserved-requires g c = room_left _ _ _ _ c.loop-turn.invariant.room c.loop-turn-test.true

pub slice_bounds-lent-end : goal.slice_bounds-lent-end
slice_bounds-lent-end g c = search rules
