use Rattle.std.proofs.Common.{ap, sym, subst}
use Rattle.std.proofs.lemmas.Result.{on_ok_weaker}
use Rattle.gev_capture.specs.Contents.{Seen, seen_as}
use Rattle.capture_script.specs.Script.{seen}
use Rattle.capture_script.specs.Scripting.{AddsLines}
use Rattle.capture_script.proofs.scripting.Scripting.tell.Goals as goal

pub returns-in-Datagram : goal.returns-in-Datagram
returns-in-Datagram c =
    on_ok_weaker c.carry_for.result
    (λ adds s stands.
    subst (λ (w : Seen). AddsLines (seen c.args.moment w s) c.carry_for.new.self c.args.out.now.items c.carry_for.new.out.items)
    (sym (ap seen_as c.in-Datagram.is)) (adds s stands))
    c.carry_for.ensures
