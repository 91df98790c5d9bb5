use Rattle.std.proofs.Common.{ℕ, ◌+◌, ◌/◌, ◌^◌, ◌<◌, ap, sym, ◌∙◌, subst, arith}
use Rattle.std.proofs.Math.Nat.{div-le_self}
use Rattle.std.specs.Int.{trailing_zeros, w64}
use Rattle.packet_bitmap.specs.Bits.{IsNextBit}
use Rattle.packet_bitmap.proofs.WordLemmas.{none_in, first_in}
use Rattle.packet_bitmap.proofs.words.next_in.Goals as goal

smaller : (n d : ℕ) → n < 2 ^ 64 → n / d < 2 ^ 64
smaller n d fits = omega (arith, div-le_self n d)

pub returns-then-marked-eq0 : goal.returns-then-marked-eq0
returns-then-marked-eq0 c =
    none_in c.args.word c.args.from c.args.wanted c.ranges.word.fits
    (ap (λ (n : ℕ). n / 2 ^ c.args.from) (sym c.mark.ensures) ∙ c.if-marked-eq0.true)

pub returns-else-marked-eq0 : goal.returns-else-marked-eq0
returns-else-marked-eq0 c =
    let P : ℕ → Type 0 = λ n. n < 2 ^ 64 → 0 < n / 2 ^ c.args.from → n / 2 ^ c.args.from < 2 ^ 64 → IsNextBit c.args.word c.args.wanted c.args.from (c.args.from + trailing_zeros w64 (n / 2 ^ c.args.from)) in
    let next : P c.mark.result = subst P (sym c.mark.ensures) (first_in c.args.word c.args.from c.args.wanted c.ranges.word.fits) in
    next c.mark.type_inv (omega arith) (smaller c.mark.result (2 ^ c.args.from) c.mark.type_inv)
