use Rattle.std.proofs.Common.{◌≡◌, ℕ, ◌+◌, ◌/◌, ◌∙◌, ap, replicate}
use Rattle.packet_bitmap.proofs.BitLemmas.{nothing, shown-zeros, length-bits_of}
use Rattle.packet_bitmap.proofs.bitmap.Bitmap.new.Goals as goal

zeros : (c : goal.In_ok-words) → c.in_ok-words.words.items ≡ replicate ((c.args.ids + 63) / 64) nothing
zeros c = c.in_ok-words.ensures.items_if_clones_equal (λ y e. e) ∙ ap (λ (n : ℕ). replicate n nothing) c.words_for.ensures

pub returns-clause-bits : goal.returns-clause-bits
returns-clause-bits c = shown-zeros c.in_ok-words.words.items ((c.args.ids + 63) / 64) c.args.ids (zeros c)

pub returns-clause-ids : goal.returns-clause-ids
returns-clause-ids c = length-bits_of c.in_ok-words.words.items c.args.ids
