use Rattle.std.proofs.Common.{◌≡◌, ℕ, ◌++◌, subst}
use Rattle.std.specs.Prelude.{OnOk}
use Rattle.capture_streams.specs.Texts.{stream_text}
use Rattle.capture_streams.proofs.stream_text.add_stream.Goals as goal

pub returns : goal.returns
returns c =
    subst (λ (ms : ℕ). OnOk c.add.result (c.add.new.out.items ≡ c.args.out.now.items ++ stream_text c.args.stream.now ms)) c.saturating_sub.ensures c.add.ensures
