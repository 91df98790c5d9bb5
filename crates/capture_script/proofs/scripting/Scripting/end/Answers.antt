use Rattle.std.proofs.lemmas.Result.{on_ok_weaker}
use Rattle.capture_script.proofs.Adding.{close_adds}
use Rattle.capture_script.proofs.scripting.Scripting.end.Goals as goal

pub returns : goal.returns
returns c =
    on_ok_weaker c.add_line-2.result
    (λ text s stands. close_adds _ c.args.self.now _ c.stop.result s c.args.out.now.items c.add_line.new.out.items c.add_takes.new.out.items c.add_line-2.new.out.items c.self.view_is c.stop.ensures c.in_ok-add_line.ensures c.in_ok-add_takes.ensures text stands)
    c.add_line-2.ensures
