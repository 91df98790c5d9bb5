use Rattle.std.proofs.Common.{refl}
use Rattle.capture_script.specs.Playing.{heard}
use Rattle.capture_script.proofs.Heard.{plays_line}
use Rattle.capture_script.proofs.playing.Playing.receive.Goals as goal

pub returns : goal.returns
returns c s =
    plays_line _ _ c.args.self.now (λ o t. heard o.p o.size c.args.bytes.now t) s c.receive_bytes.result c.self.view_is refl c.receive_bytes.ensures.size (λ at. c.receive_bytes.ensures.hears s at.stands at.top)
