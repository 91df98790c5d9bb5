use Rattle.std.proofs.Common.{refl, sym, subst}
use Rattle.script_image.specs.Ends.{EndsBy}
use Rattle.script_image.specs.Showing.{IsShowing, IsShowingSome}
use Rattle.script_image.proofs.Coming.{lies_there, came_on, came_end, came_took, came_stop}
use Rattle.script_image.proofs.showing.show_line.Goals as goal

pub show_taken-requires : goal.show_taken-requires
show_taken-requires g c = record {
  lies =
      lies_there _ _ c.in-Ok-Took.place c.args.number c.args.line.now c.run_headed.new.script (subst IsShowingSome (sym c.showing.view_is) c.requires.stands)
      c.in-Ok-Took.field-0-is c.in-Ok-Took.ensures.ran;
}

pub returns-in-Ok-On-clause-comes : goal.returns-in-Ok-On-clause-comes
returns-in-Ok-On-clause-comes g c w shown s n begun at waits counted few appended =
    came_on w _ _ c.args.number c.args.line.now c.run_headed.new.script c.in-Ok-On.ensures.ran shown s n begun (g.K.Sink.written c.args.sink.now) (g.K.Sink.faults c.args.sink.now)
    (subst (λ i. IsShowing w shown i s) (sym c.showing.view_is) at) counted few appended c.in-Ok-On.field-0-is

pub returns-in-Ok-Took-clause-comes : goal.returns-in-Ok-Took-clause-comes
returns-in-Ok-Took-clause-comes g c w shown s n begun at waits counted few appended =
    came_took w _ _ c.args.number c.args.line.now c.run_headed.new.script c.in-Ok-Took.ensures.ran shown s n begun (g.K.Sink.written c.args.sink.now) (g.K.Sink.faults c.args.sink.now)
    (subst (λ i. IsShowing w shown i s) (sym c.showing.view_is) at) counted few appended c.in-Ok-Took.place c.show_taken.result _ c.show_taken.new.showing
    (g.K.Sink.written c.show_taken.new.sink) (g.K.Sink.faults c.show_taken.new.sink) c.in-Ok-Took.field-0-is waits refl c.show_taken.ensures

pub returns-in-Ok-End-clause-comes : goal.returns-in-Ok-End-clause-comes
returns-in-Ok-End-clause-comes g c w shown s n begun at waits counted few appended =
    λ rest held left reads reads_after is_line.
    subst (λ e. EndsBy w s n rest shown e left reads reads_after begun (g.K.Sink.written c.args.sink.now) (g.K.Sink.faults c.args.sink.now) (g.K.Sink.faults c.args.sink.now)) (sym c.last_end.ensures)
    (came_end w _ _ c.args.number c.args.line.now c.run_headed.new.script c.in-Ok-End.ensures.ran shown s n begun (g.K.Sink.written c.args.sink.now) (g.K.Sink.faults c.args.sink.now)
    (subst (λ i. IsShowing w shown i s) (sym c.showing.view_is) at) counted few appended c.in-Ok-End.field-0-is rest held left reads reads_after is_line)

pub returns-in-Err-clause-comes : goal.returns-in-Err-clause-comes
returns-in-Err-clause-comes g c w shown s n begun at waits counted few appended =
    λ rest held left reads reads_after is_line.
    subst (λ e. EndsBy w s n rest shown e left reads reads_after begun (g.K.Sink.written c.args.sink.now) (g.K.Sink.faults c.args.sink.now) (g.K.Sink.faults c.args.sink.now)) (sym c.stopped.ensures)
    (came_stop w (record { script = c.showing.inside.script; wanted = c.showing.inside.wanted; taken = c.showing.inside.taken; shown = c.showing.inside.shown }) c.args.number c.args.line.now c.in-Err.stop shown s n begun
    (g.K.Sink.written c.args.sink.now) (g.K.Sink.faults c.args.sink.now) c.in-Err.ensures.ran (subst (λ i. IsShowing w shown i s) (sym c.showing.view_is) at) counted few appended rest held left reads reads_after is_line)
