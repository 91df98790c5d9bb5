use Rattle.std.proofs.Common.{◌≡◌, ℕ, List, Result, Ok, sym, subst, ◌∙◌}
use Rattle.stream_packets.specs.Packets.{StreamPacket}
use Rattle.gvsp_wire.specs.declared.wire_error.WireError.{WireError}
use Rattle.gvsp_wire.specs.Wire.{Stream}
use Rattle.gvsp_wire.specs.Plain.{plain}
use Rattle.gvsp_wire.proofs.Whole.{stream_read}
use Rattle.gvsp_wire.proofs.Spellings.{plain_read}
use Rattle.gvsp_wire.proofs.laws.plain_is_one.Goals as goal

abbrev packet : StreamPacket → Result StreamPacket WireError
packet x = Ok x

ok_is : (x y : StreamPacket) → packet x ≡ packet y → x ≡ y
ok_is x y e = cc

pub returns : goal.returns
returns c x y s t e =
    let of_x = plain_read x s in
    let of_y : Stream (plain x) y = subst (λ (l : List ℕ). Stream l y) (sym e) (plain_read y t) in
    ok_is x y (sym (stream_read (plain x) x of_x) ∙ stream_read (plain x) y of_y)
