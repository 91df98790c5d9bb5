use Rattle.std.proofs.Common.{◌≡◌, ℕ, List, Result, Ok, Err, sym, ◌∙◌, inl, inr}
use Rattle.std.specs.Prelude.{◌⊎◌}
use Rattle.stream_packets.specs.Packets.{StreamPacket}
use Rattle.gvsp_wire.specs.declared.wire_error.WireError.{WireError}
use Rattle.gvsp_wire.specs.Wire.{Stream, Refused}
use Rattle.gvsp_wire.specs.Reading.{reading}
use Rattle.gvsp_wire.proofs.Sound.{Sound, reading_sound}
use Rattle.gvsp_wire.proofs.Whole.{stream_read, refused_read}
use Rattle.gvsp_wire.proofs.laws.one_answer.Goals as goal

answered : (bytes : List ℕ) (r : Result StreamPacket WireError) → Sound bytes r → ((x : StreamPacket) × Stream bytes x) ⊎ ((e : WireError) × Refused bytes e)
answered bytes (Ok x) s = inl (x, s)
answered bytes (Err e) s = inr (e, s)

abbrev packet : StreamPacket → Result StreamPacket WireError
packet x = Ok x

abbrev refusal : WireError → Result StreamPacket WireError
refusal e = Err e

ok_is : (x y : StreamPacket) → packet x ≡ packet y → x ≡ y
ok_is x y e = cc

err_is : (d e : WireError) → refusal d ≡ refusal e → d ≡ e
err_is d e is = cc

never : (x : StreamPacket) (e : WireError) → packet x ≡ refusal e → ⊥
never x e is = cc

pub returns : goal.returns
returns c bytes = record {
  some = answered bytes (reading bytes) (reading_sound bytes);
  one_packet = λ x y s t. ok_is x y (sym (stream_read bytes x s) ∙ stream_read bytes y t);
  one_refusal = λ d e s t. err_is d e (sym (refused_read bytes d s) ∙ refused_read bytes e t);
  never_both = λ x e s t. never x e (sym (stream_read bytes x s) ∙ refused_read bytes e t);
}
