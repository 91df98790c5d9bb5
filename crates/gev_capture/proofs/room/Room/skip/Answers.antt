use Rattle.std.proofs.Common.{ℕ, List, drop, ap, sym, ◌∙◌}
use Rattle.gev_capture.proofs.Coming.{drop-between}
use Rattle.gev_capture.proofs.room.Room.skip.Goals as goal

pub returns : goal.returns
returns c =
    sym (drop-between c.self.inside.room.items c.self.inside.start c.self.inside.end c.args.count)
    ∙ ap (λ (held : List ℕ). drop c.args.count held) c.self.view_is
