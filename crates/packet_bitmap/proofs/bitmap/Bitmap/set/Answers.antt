use Rattle.std.proofs.Common.{ℕ, ◌<◌, ◌/◌, ◌∙◌, List, ap, sym, subst, length, set, true, arith}
use Rattle.packet_bitmap.specs.Bits.{AreBits, bits_of}
use Rattle.packet_bitmap.proofs.BitLemmas.{length_is, length-bits_of, written, are_bits-with_bit, bits_of-with_bit}
use Rattle.packet_bitmap.proofs.bitmap.Bitmap.set.Goals as goal

in_words : (c : goal.After-self-1) → c.args.id / 64 < length c.self.inside.words.items
in_words c = omega (arith, c.self.invariant.count, length_is c.self.inside.words.items c.self.inside.ids c.args.self.now c.self.view_is)

pub index_mut-requires : goal.index_mut-requires
index_mut-requires c =
    omega (arith, c.self.invariant.count, length_is c.self.inside.words.items c.self.inside.ids c.args.self.now c.self.view_is)

pub invariant_of-self : goal.invariant_of-self
invariant_of-self c =
    let bits : AreBits _ c.self.inside.ids = are_bits-with_bit c.self.inside.words.items c.self.inside.ids c.args.id c.self.invariant
    (omega (arith, length_is c.self.inside.words.items c.self.inside.ids c.args.self.now c.self.view_is)) in
    subst (λ (ws : List ℕ). AreBits ws c.self.inside.ids) (sym (written c.self.inside.words.items c.args.id c.index_mut.result.now c.index_mut.ensures.value (in_words c))) bits

pub returns-clause-bits : goal.returns-clause-bits
returns-clause-bits c =
    ap (λ (ws : List ℕ). bits_of ws c.self.inside.ids) (written c.self.inside.words.items c.args.id c.index_mut.result.now c.index_mut.ensures.value (in_words c))
    ∙ bits_of-with_bit c.self.inside.words.items c.self.inside.ids c.args.id (in_words c) (omega (arith, length_is c.self.inside.words.items c.self.inside.ids c.args.self.now c.self.view_is))
    ∙ ap (λ bs. set bs c.args.id true) c.self.view_is

pub returns-clause-ids : goal.returns-clause-ids
returns-clause-ids c = length-bits_of _ c.self.inside.ids ∙ sym (length_is c.self.inside.words.items c.self.inside.ids c.args.self.now c.self.view_is)
