use Rattle.std.proofs.Common.{refl}
use Rattle.std.proofs.lemmas.Result.{on_ok_weaker}
use Rattle.capture_script.proofs.Adding.{tick_adds}
use Rattle.capture_script.proofs.scripting.Scripting.go_on.Goals as goal

pub returns : goal.returns
returns c =
    on_ok_weaker c.add_takes.result
    (λ text s. tick_adds _ c.args.self.now _ c.args.moment c.tick.result s c.args.out.now.items c.add_line.new.out.items c.add_takes.new.out.items c.self.view_is refl refl c.tick.ensures c.in_ok-add_line.ensures text)
    c.add_takes.ensures
