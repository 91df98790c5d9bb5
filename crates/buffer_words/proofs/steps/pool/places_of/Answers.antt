use Rattle.std.proofs.Common.{rules, arith, subst, sym, ap, ◌∙◌, ◌+◌, ◌≡◌, List, ℕ}
use Rattle.arrayvec.specs.ArrayVec.{ArrayVec, array_vec_len}
use Rattle.buffer_words.proofs.Bits.{HasBits, bits_none, bits_set, bits_clear, bits_all}
use Rattle.buffer_words.proofs.steps.pool.places_of.Goals as goal
use Rattle.buffer_words.proofs.steps.pool.places_of.Goals.{then-number-place-eq1, else-number-place-eq1}

pub loop-place-init : goal.loop-place-init
loop-place-init c = (search rules, subst (λ (xs : List ℕ). HasBits c.args.number 0 xs) (sym c.new-places.ensures) (bits_none c.args.number))

pub loop-place-preserved : goal.loop-place-preserved
loop-place-preserved c = elim c.if-number-place-eq1.branch [
  | then-number-place-eq1 w ↦ (
    omega (arith, ap (λ (v : ArrayVec ℕ). array_vec_len v) w.places-is, w.push.ensures.len, c.loop-place.invariant.0),
    subst (λ (xs : List ℕ). HasBits c.args.number (c.loop-place.place + 1) xs) (sym (ap (λ (v : ArrayVec ℕ). v.items) w.places-is ∙ w.push.ensures.items))
        (bits_set _ _ _ w.if-number-place-eq1.true c.loop-place.invariant.1),
  )
  | else-number-place-eq1 w ↦ (
    omega (arith, ap (λ (v : ArrayVec ℕ). array_vec_len v) w.places-is, c.loop-place.invariant.0),
    subst (λ (v : ArrayVec ℕ). HasBits c.args.number (c.loop-place.place + 1) v.items) (sym w.places-is)
        (bits_clear _ _ _ w.if-number-place-eq1.false c.loop-place.invariant.1),
  )
]

pub returns : goal.returns
returns c =
    let all : c.loop-place.place ≡ 15 = omega arith in
    record { pool = bits_all _ _ _ c.requires all c.loop-place.invariant.1; rising = c.loop-place.invariant.1.rising }
