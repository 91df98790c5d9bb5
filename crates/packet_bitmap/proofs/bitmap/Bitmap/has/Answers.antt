use Rattle.std.proofs.Common.{◌∙◌, ap, sym, arith}
use Rattle.packet_bitmap.proofs.BitLemmas.{has_is, length_is}
use Rattle.packet_bitmap.specs.Bits.{is_set}
use Rattle.packet_bitmap.proofs.bitmap.Bitmap.has.Goals as goal

pub is_set-requires : goal.is_set-requires
is_set-requires c =
    omega (arith, c.as_slice.ensures.len, c.self.invariant.count, length_is c.self.inside.words.items c.self.inside.ids c.args.self.now c.self.view_is)

pub returns : goal.returns
returns c =
    c.is_set.ensures ∙ ap (λ ws. is_set ws c.args.id) c.as_slice.ensures.value
    ∙ sym (has_is c.self.inside.words.items c.self.inside.ids c.args.self.now c.self.invariant c.self.view_is c.args.id)
