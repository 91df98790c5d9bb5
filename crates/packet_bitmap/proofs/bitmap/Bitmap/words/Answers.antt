use Rattle.std.proofs.Common.{ℕ, ◌∙◌, List, ap, length, get_or, arith}
use Rattle.std.specs.Prelude.{◌==◌}
use Rattle.std.specs.Int.{bit_at}
use Rattle.packet_bitmap.proofs.BitLemmas.{bit_is, length_is}
use Rattle.packet_bitmap.proofs.bitmap.Bitmap.words.Goals as goal

pub returns-clause-count : goal.returns-clause-count
returns-clause-count c =
    omega (arith, ap length c.as_slice.ensures.value, c.self.invariant.count, length_is c.self.inside.words.items c.self.inside.ids c.args.self.now c.self.view_is)

pub returns-clause-bits : goal.returns-clause-bits
returns-clause-bits c i j within bit =
    ap (λ (ws : List ℕ). bit_at (get_or ws i 0) j == 1) c.as_slice.ensures.value
    ∙ bit_is c.self.inside.words.items c.self.inside.ids c.args.self.now i j c.self.invariant c.self.view_is bit
