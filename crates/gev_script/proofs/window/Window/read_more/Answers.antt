use Rattle.std.proofs.Common.{ap, ◌∙◌, ◌+◌, arith}
use Rattle.gev_script.specs.Window.{WindowState}
use Rattle.gev_script.proofs.Windows.{holds_more, on_err, held_still, few_held, moved_window, longer_window}
use Rattle.gev_script.proofs.window.Window.read_more.Goals as goal

pub returns-clause-more : goal.returns-clause-more
returns-clause-more g c =
    holds_more (g.S.Source.left c.args.source.now) (g.S.Source.left c.read_room.new.source) c.args.self.now.held
    c.make_room-start.new.room.items c.read_room.new.room.items c.make_room-start.result.0 c.make_room-start.result.1 c.in_ok-count.count
    (c.make_room-start.ensures.kept ∙ ap (λ (w : WindowState). w.held) c.self.view_is)
    (omega (arith, c.make_room-start.ensures.length))
    (omega (arith, c.in_ok-count.ensures.count, c.read_room.ensures.size))
    c.read_room.ensures.front
    c.in_ok-count.ensures.given
    c.in_ok-count.ensures.spent

pub returns-in_err-count-clause-kept : goal.returns-in_err-count-clause-kept
returns-in_err-count-clause-kept g c =
    on_err c.from_residual.result _
    (held_still c.make_room-start.new.room.items c.read_room.new.room.items c.make_room-start.result.0 c.make_room-start.result.1 c.read_room.ensures.front
    ∙ c.make_room-start.ensures.kept
    ∙ ap (λ (w : WindowState). w.held) c.self.view_is)

pub returns-in_err-count-clause-few : goal.returns-in_err-count-clause-few
returns-in_err-count-clause-few g c =
    few_held c.read_room.new.room.items c.make_room-start.result.0 c.make_room-start.result.1 (omega (arith, c.read_room.ensures.size)) (omega (arith, c.make_room-start.ensures.some))

pub returns-clause-few : goal.returns-clause-few
returns-clause-few g c =
    few_held c.read_room.new.room.items c.make_room-start.result.0 (c.make_room-start.result.1 + c.in_ok-count.count) (omega (arith, c.read_room.ensures.size)) c.in_ok-count.ensures.count

pub invariant_of-self : goal.invariant_of-self
invariant_of-self g c =
    moved_window c.self.inside.room.items c.read_room.new.room.items _ _ c.self.inside.start c.self.inside.end c.self.inside.searched
    c.make_room-start.result.0 c.make_room-start.result.1 c.self.invariant
    (held_still c.make_room-start.new.room.items c.read_room.new.room.items c.make_room-start.result.0 c.make_room-start.result.1 c.read_room.ensures.front
    ∙ c.make_room-start.ensures.kept)
    c.make_room-start.ensures.length
    (omega (arith, c.read_room.ensures.size))
    (omega (arith, c.make_room-start.ensures.some))

pub invariant_of-self-2 : goal.invariant_of-self-2
invariant_of-self-2 g c =
    longer_window c.read_room.new.room.items c.make_room-start.result.0 c.make_room-start.result.1 c.in_ok-count.count c.self.inside.searched
    (moved_window c.self.inside.room.items c.read_room.new.room.items _ _ c.self.inside.start c.self.inside.end c.self.inside.searched
    c.make_room-start.result.0 c.make_room-start.result.1 c.self.invariant
    (held_still c.make_room-start.new.room.items c.read_room.new.room.items c.make_room-start.result.0 c.make_room-start.result.1 c.read_room.ensures.front
    ∙ c.make_room-start.ensures.kept)
    c.make_room-start.ensures.length
    (omega (arith, c.read_room.ensures.size))
    (omega (arith, c.make_room-start.ensures.some)))
    c.in_ok-count.ensures.count
