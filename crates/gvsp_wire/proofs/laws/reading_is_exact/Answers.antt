use Rattle.std.proofs.Common.{subst}
use Rattle.gvsp_wire.proofs.Sound.{Sound, reading_sound}
use Rattle.gvsp_wire.proofs.Whole.{stream_read, refused_read}
use Rattle.gvsp_wire.proofs.laws.reading_is_exact.Goals as goal

pub returns : goal.returns
returns c bytes = record {
  packet = λ x. (λ e. subst (Sound bytes) e (reading_sound bytes), λ s. stream_read bytes x s);
  refusal = λ e. (λ is. subst (Sound bytes) is (reading_sound bytes), λ r. refused_read bytes e r);
}
