use Rattle.std.proofs.Common.{◌+◌, ap, length, arith}
use Rattle.packet_bitmap.proofs.BitLemmas.{has_lent, length_is}
use Rattle.packet_bitmap.proofs.SearchLemmas.{no_hole, a_hole}
use Rattle.packet_bitmap.proofs.bitmap.Bitmap.next_hole.Goals as goal

pub overflow_add-end : goal.overflow_add-end
overflow_add-end c = record { fits = omega (arith, c.requires.top, c.self.invariant.few, length_is c.self.inside.words.items c.self.inside.ids c.args.self.now c.self.view_is) }

pub first_with-first-requires : goal.first_with-first-requires
first_with-first-requires c = omega (arith, c.requires.top, ap length c.as_slice-words.ensures.value, c.self.invariant.count, length_is c.self.inside.words.items c.self.inside.ids c.args.self.now c.self.view_is)

pub returns-then-first-end : goal.returns-then-first-end
returns-then-first-end c =
    no_hole _ c.as_slice-words.result.now c.args.from (c.args.top + 1) c.first_with-first.result
    (has_lent c.as_slice-words.result.now c.self.inside.words.items c.self.inside.ids c.args.self.now c.as_slice-words.ensures.value c.self.invariant c.self.view_is)
    (omega arith) c.first_with-first.ensures

pub first_with-behind-requires : goal.first_with-behind-requires
first_with-behind-requires c = omega (arith, c.requires.top, ap length c.as_slice-words.ensures.value, c.self.invariant.count, length_is c.self.inside.words.items c.self.inside.ids c.args.self.now c.self.view_is)

pub returns : goal.returns
returns c =
    a_hole _ c.as_slice-words.result.now c.args.from (c.args.top + 1) c.first_with-first.result c.first_with-behind.result
    (has_lent c.as_slice-words.result.now c.self.inside.words.items c.self.inside.ids c.args.self.now c.as_slice-words.ensures.value c.self.invariant c.self.view_is)
    (omega arith) c.first_with-first.ensures c.first_with-behind.ensures
