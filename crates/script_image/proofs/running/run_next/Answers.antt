use Rattle.std.proofs.Common.{Some, sym, subst}
use Rattle.script_image.specs.Showing.{ComesTo, Turn}
use Rattle.script_image.proofs.Looping.{unread_turn, line_turn}
use Rattle.script_image.proofs.running.run_next.Goals as goal

pub returns-in-Err-clause-turn : goal.returns-in-Err-clause-turn
returns-in-Err-clause-turn g c w shown s begun at waits appended =
    subst
    (λ e. Turn w (Some e) shown s c.args.showing.now c.args.lines.now c.next.new.self (g.S.Source.left c.args.source.now) (g.S.Source.left c.next.new.source)
    (g.S.Source.faults c.args.source.now) (g.S.Source.faults c.next.new.source) begun (g.K.Sink.written c.args.sink.now) (g.K.Sink.written c.args.sink.now) (g.K.Sink.faults c.args.sink.now)
    (g.K.Sink.faults c.args.sink.now))
    (sym c.unread_end.ensures)
    (unread_turn w shown s c.args.showing.now begun (g.K.Sink.written c.args.sink.now) (g.K.Sink.faults c.args.sink.now) at appended
    c.in-Err.end c.given.result c.args.showing.now c.args.lines.now c.next.new.self (g.S.Source.left c.args.source.now) (g.S.Source.left c.next.new.source)
    (g.S.Source.faults c.args.source.now) (g.S.Source.faults c.next.new.source) c.requires.refusal c.given.ensures (c.in-Err.ensures.next c.requires.refusal))

pub returns-clause-turn : goal.returns-clause-turn
returns-clause-turn g c w shown s begun at waits appended =
    let next = c.in-Ok.ensures.next c.requires.refusal in
    line_turn w c.show_line.result shown s c.show_line.new.showing c.in-Ok.number c.args.lines.now c.next.new.self (g.S.Source.left c.args.source.now) (g.S.Source.left c.next.new.source)
    (g.S.Source.faults c.args.source.now) (g.S.Source.faults c.next.new.source) begun (g.K.Sink.written c.args.sink.now) (g.K.Sink.written c.show_line.new.sink)
    (g.K.Sink.faults c.args.sink.now) (g.K.Sink.faults c.show_line.new.sink) next
    (subst
    (λ l. ComesTo w c.show_line.result shown s c.args.lines.now.given l c.show_line.new.showing begun (g.K.Sink.written c.args.sink.now) (g.K.Sink.written c.show_line.new.sink) (g.K.Sink.faults c.args.sink.now)
    (g.K.Sink.faults c.show_line.new.sink))
    c.line.ensures
    (c.show_line.ensures.comes w shown s c.args.lines.now.given begun at waits next.0 next.1 appended))
