use Rattle.std.proofs.Common.{ap, subst, arith, Some, ◌+◌}
use Rattle.std.specs.List.{between}
use Rattle.gev_script.specs.Streams.{IsLine}
use Rattle.gev_script.specs.Window.{WindowState, FindsFeed}
use Rattle.gev_script.proofs.Windows.{line_found}
use Rattle.gev_script.proofs.window.Window.find_line.Goals as goal

pub returns-clause-finds : goal.returns-clause-finds
returns-clause-finds c =
    let found = subst (λ r. FindsFeed (between c.self.inside.start c.self.inside.end r) c.self.inside.searched (Some c.in-Some.place)) c.as_slice.ensures.value c.in-Some.ensures in
    let line =
    line_found c.self.inside.room.items c.self.inside.start c.self.inside.end c.self.inside.searched c.in-Some.place
    c.self.invariant.no_feed found (omega arith) (omega arith) c.if-place-gt-LONGEST_LINE.false in
    subst (λ h. IsLine h (between c.self.inside.start (c.self.inside.start + c.in-Some.place) c.self.inside.room.items) (between (c.self.inside.start + c.in-Some.place + 1) c.self.inside.end c.self.inside.room.items))
    (ap (λ (w : WindowState). w.held) c.self.view_is) line
