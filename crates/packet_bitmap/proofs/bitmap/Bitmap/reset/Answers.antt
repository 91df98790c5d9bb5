use Rattle.std.proofs.Common.{ℕ, ◌∙◌, ap, sym, replicate, false}
use Rattle.std.specs.Prelude.{vec_len}
use Rattle.packet_bitmap.proofs.BitLemmas.{shown-zeros, length_is, length-bits_of}
use Rattle.packet_bitmap.proofs.bitmap.Bitmap.reset.Goals as goal

pub returns-clause-bits : goal.returns-clause-bits
returns-clause-bits c =
    shown-zeros c.fill.new.self.items (vec_len c.self.inside.words) c.self.inside.ids (c.fill.ensures.items (λ y e. e))
    ∙ ap (λ (n : ℕ). replicate n false) (sym (length_is c.self.inside.words.items c.self.inside.ids c.args.self.now c.self.view_is))

pub returns-clause-ids : goal.returns-clause-ids
returns-clause-ids c =
    length-bits_of c.fill.new.self.items c.self.inside.ids ∙ sym (length_is c.self.inside.words.items c.self.inside.ids c.args.self.now c.self.view_is)
