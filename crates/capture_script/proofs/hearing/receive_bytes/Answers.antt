use Rattle.std.proofs.Common.{ℕ, ap, sym, ◌∙◌}
use Rattle.capture_script.specs.Playing.{is_standard}
use Rattle.capture_script.proofs.Heard.{hears_plain}
use Rattle.capture_script.proofs.hearing.receive_bytes.Goals as goal

pub returns-clause-hears : goal.returns-clause-hears
returns-clause-hears c s =
    hears_plain c.args.player.now c.tell.new.player c.args.p c.args.player.now.size c.args.widener.now c.tell.result c.args.bytes.now s
    (ap (λ (t : ℕ). is_standard t c.args.bytes.now) (sym c.top-top.ensures) ∙ sym c.if-is_standard.ensures) c.tell.ensures.plays
