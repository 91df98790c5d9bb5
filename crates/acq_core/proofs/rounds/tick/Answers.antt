use Rattle.std.proofs.Common.{◌+◌, ◌-◌, ◌^◌, List, sym, ap, subst, ◌∙◌}
use Rattle.std.specs.Prelude.{min, None}
use Rattle.acquisition_machine.specs.declared.config.AcqConfig.{AcqConfig}
use Rattle.acquisition_machine.specs.Blocks.{Open}
use Rattle.acquisition_machine.specs.Machine.{leaving, staying}
use Rattle.acq_core.specs.declared.window.Window.{Window}
use Rattle.acq_core.specs.Standing.{SlotsStand}
use Rattle.acq_core.specs.Retiring.{RetiresAll}
use Rattle.acq_core.proofs.Ticking.{tick_gives}
use Rattle.acq_core.proofs.rounds.tick.Goals as goal

pub settle-requires-clause-slots : goal.settle-requires-clause-slots
settle-requires-clause-slots c = (c.requires.acts.state.opens, c.requires.acts.acts.slots)

pub ask_all-requires-clause-slots : goal.ask_all-requires-clause-slots
ask_all-requires-clause-slots c =
    let left : List Open = staying c.args.window.now.config c.max-window.result c.requires.acts.state.opens in
    let stand = (c.settle.ensures.retires c.requires.acts.state.opens c.requires.acts.acts.slots).slots in
    (left, subst (λ (k : AcqConfig). SlotsStand k.p c.settle.new.window.slots.items left) (sym (ap (λ (m : Window). m.config) c.settle.ensures.changes)) stand)

pub returns-clause-gives : goal.returns-clause-gives
returns-clause-gives c s acts =
    tick_gives c.args.window.now c.settle.new.window c.ask_all.new.window s c.args.moment c.saturating_add-window.result acts c.requires.drained
    (λ os stands. subst (λ now. RetiresAll (record c.args.window.now { asked = None; moment = now }) c.settle.new.window (leaving c.args.window.now.config now os) (staying c.args.window.now.config now os)) c.max-window.ensures (c.settle.ensures.retires os stands))
    (c.settle.ensures.changes ∙ ap (λ now. record c.args.window.now { asked = None; moment = now; floor = c.settle.new.window.floor; slots = c.settle.new.window.slots; spare = c.settle.new.window.spare; fills = c.settle.new.window.fills; ends = c.settle.new.window.ends }) c.max-window.ensures)
    c.ask_all.ensures.asks c.ask_all.ensures.rest
    (c.saturating_add-window.ensures ∙ ap (λ made. min (c.ask_all.new.window.counts.requests + made) (2 ^ 64 - 1)) c.len-made.ensures)

pub returns-clause-room : goal.returns-clause-room
returns-clause-room c =
    let r = c.ask_all.ensures.room in
    record {
      config = r.config;
      slots = r.slots;
      spare = r.spare;
      fills = r.fills;
      fills_all = r.fills_all;
      ends = r.ends;
      ends_all = r.ends_all;
      pairs = r.pairs;
      wide = r.wide;
      requests = r.requests;
    }
