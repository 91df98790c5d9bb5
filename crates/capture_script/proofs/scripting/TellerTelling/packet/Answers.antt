use Rattle.std.proofs.Common.{ℕ, Bool, ap, ◌∙◌}
use Rattle.std.specs.Prelude.{◌||◌}
use Rattle.std.proofs.lemmas.Result.{on_ok_weaker}
use Rattle.gev_capture.specs.Contents.{Seen, seen_as}
use Rattle.capture_script.specs.Script.{stands_in}
use Rattle.capture_script.proofs.Adding.{tells_packet}
use Rattle.capture_script.proofs.scripting.TellerTelling.packet.Goals as goal

pub returns : goal.returns
returns c =
    let what : Seen = seen_as c.args.what in
    on_ok_weaker c.tell.result
    (λ adds w is. tells_packet w (record { begin = c.args._begin; moment = c.args.moment; what = what }) c.tell.new.self c.is_told_by-self.result c.args.out.now.items c.tell.new.out.items (adds w.script is.stands)
    (c.is_told_by-self.ensures ∙ ap (λ (told : Bool). told || stands_in c.args.self.now.scripting.port what) is.told_is ∙ ap (λ (port : ℕ). w.told || stands_in port what) is.stands.port))
    c.tell.ensures
