use Rattle.std.proofs.Common.{◌≡◌, refl, ◌∙◌, rules, arith}
use Rattle.gev_serve.specs.Wires.{wire}
use Rattle.gev_serve.proofs.Turning.{serves_first, goes_on}
use Rattle.gev_serve.proofs.serving.serve.Goals as goal

pub loop-turn-init : goal.loop-turn-init
loop-turn-init g c = record { serves = serves_first _ _ _ _; table = c.requires.table; hands = λ i. refl }

pub loop-turn-preserved : goal.loop-turn-preserved
loop-turn-preserved g c =
    let one : c.look_run-run.result ≡ 1 = first_of (search rules, grind arith) in
    record {
      serves = goes_on c.args.camera.now c.loop-turn.camera c.make_turn.new.camera
          (wire (g.L.Link.received c.args.link.now) (g.L.Link.sent c.args.link.now) (g.L.Link.faults c.args.link.now))
          (wire (g.L.Link.received c.loop-turn.link) (g.L.Link.sent c.loop-turn.link) (g.L.Link.faults c.loop-turn.link))
          (wire (g.L.Link.received c.make_turn.new.link) (g.L.Link.sent c.make_turn.new.link) (g.L.Link.faults c.make_turn.new.link))
          (g.C.Clock.told c.args.clock.now) (g.C.Clock.told c.loop-turn.clock) (g.C.Clock.told c.make_turn.new.clock)
          c.args.pass.now c.loop-turn.pass c.look_run-run.new.pass c.loop-turn._turn c.look_run-run.result
          c.loop-turn.invariant.serves c.look_run-run.ensures.entry one c.in-GoesOn.ensures.makes.whole;
      table = c.look_run-run.ensures.entry.table ∙ c.loop-turn.invariant.table;
      hands = λ i. (c.look_run-run.ensures.hands i).slot ∙ c.loop-turn.invariant.hands i;
    }
