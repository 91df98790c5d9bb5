use Rattle.std.proofs.Common.{refl, ◌∷◌, []}
use Rattle.acquisition_machine.specs.Machine.{tick}
use Rattle.capture_script.specs.Playing.{ticked}
use Rattle.capture_script.proofs.Heard.{plays_line, told_here}
use Rattle.capture_script.proofs.playing.Playing.tick.Goals as goal

pub returns : goal.returns
returns c s =
    plays_line _ _ c.args.self.now (λ o t. ticked o.p c.args.moment t) s c.tell_moment.result c.self.view_is refl c.tell_moment.ensures.size
    (λ at. told_here _ (tick c.args.moment ∷ []) s c.tell_moment.new.player _ c.tell_moment.result (c.tell_moment.ensures.plays s.inputs at.stands) at.top)
