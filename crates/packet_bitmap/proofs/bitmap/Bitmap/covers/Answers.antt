use Rattle.std.proofs.Common.{ap, length, arith}
use Rattle.std.proofs.lemmas.Bool.{ltb-true, ltb-false}
use Rattle.packet_bitmap.specs.Bits.{has}
use Rattle.packet_bitmap.proofs.BitLemmas.{has_lent, length_is}
use Rattle.packet_bitmap.proofs.SearchLemmas.{all_set, one_clear, AreSame}
use Rattle.packet_bitmap.proofs.bitmap.Bitmap.covers.Goals as goal

pub overflow_add-top : goal.overflow_add-top
overflow_add-top c = record { fits = omega (arith, c.self.invariant.few, length_is c.self.inside.words.items c.self.inside.ids c.args.self.now c.self.view_is) }

pub first_with-requires : goal.first_with-requires
first_with-requires c = omega (arith, ap length c.as_slice.ensures.value, c.self.invariant.count, length_is c.self.inside.words.items c.self.inside.ids c.args.self.now c.self.view_is)

same : (c : goal.After-first_with) → AreSame (has c.args.self.now) c.as_slice.result.now
same c = has_lent c.as_slice.result.now c.self.inside.words.items c.self.inside.ids c.args.self.now c.as_slice.ensures.value c.self.invariant c.self.view_is

pub returns-clause-covered : goal.returns-clause-covered
returns-clause-covered c above =
    all_set c.args.self.now c.as_slice.result.now c.args.top c.first_with.result (same c) (ltb-true c.args.top c.first_with.result above) c.first_with.ensures

pub returns-clause-not_covered : goal.returns-clause-not_covered
returns-clause-not_covered c below =
    one_clear c.args.self.now c.as_slice.result.now c.args.top c.first_with.result (same c) (ltb-false c.args.top c.first_with.result below) c.first_with.ensures
