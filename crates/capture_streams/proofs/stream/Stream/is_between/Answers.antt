-- Both who sends and who receives are looked at.
use Rattle.std.proofs.Common.{Bool, ap, ◌∙◌}
use Rattle.std.specs.Prelude.{◌&&◌}
use Rattle.capture_streams.specs.Streams.{same_peer}
use Rattle.capture_streams.proofs.stream.Stream.is_between.Goals as goal

pub returns-then-same_peer : goal.returns-then-same_peer
returns-then-same_peer c =
    c.same_peer-then-same_peer.ensures ∙ ap (λ (b : Bool). b && same_peer c.args.self.now.receiver c.args.receiver) c.if-same_peer.ensures
