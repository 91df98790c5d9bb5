use Rattle.std.proofs.Common.{refl, ◌∷◌, []}
use Rattle.acquisition_machine.specs.Machine.{stop}
use Rattle.capture_script.specs.Playing.{stopped}
use Rattle.capture_script.proofs.Heard.{plays_line, told_here}
use Rattle.capture_script.proofs.playing.Playing.stop.Goals as goal

pub returns : goal.returns
returns c s =
    plays_line _ _ c.args.self.now (λ o t. stopped o.p t) s c.tell_stop.result c.self.view_is refl c.tell_stop.ensures.size
    (λ at. told_here _ (stop ∷ []) s c.tell_stop.new.player _ c.tell_stop.result (c.tell_stop.ensures.plays s.inputs at.stands) at.top)
