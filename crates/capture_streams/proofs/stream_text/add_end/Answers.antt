use Rattle.std.proofs.Common.{◌≡◌, ℕ, ◌++◌, subst}
use Rattle.std.specs.Prelude.{OnOk}
use Rattle.capture_streams.specs.Texts.{last_text}
use Rattle.capture_streams.proofs.stream_text.add_end.Goals as goal

pub returns : goal.returns
returns c =
    subst (λ (n : ℕ). OnOk c.add.result (c.add.new.out.items ≡ c.args.out.now.items ++ last_text c.args.counts c.args.streams n)) c.told_dropped.ensures c.add.ensures
