use Rattle.std.proofs.Common.{arith, ◌+◌, ◌*◌, ◌≤◌, ℕ, sym, subst}
use Rattle.std.proofs.lemmas.Nat.{mul-le}
use Rattle.buffer_words.specs.Output.{HasLast}
use Rattle.buffer_words.proofs.Fields.{unit_bound, has_last}
use Rattle.buffer_words.proofs.steps.output.with_last.Goals as goal

pub overflow_mul-result : goal.overflow_mul-result
overflow_mul-result c =
    let product : (c.from.result + 1) * c.unit_of.result ≤ 15 * 72057594037927936 =
    mul-le (c.from.result + 1) c.unit_of.result 15 72057594037927936 (omega (arith, c.from.ensures, c.requires.in_range)) (unit_bound _ _ c.requires.room c.unit_of.ensures.unit) in
    omega (arith, product)

pub overflow_add-result-2 : goal.overflow_add-result-2
overflow_add-result-2 c =
    let product : (c.from.result + 1) * c.unit_of.result ≤ 15 * 72057594037927936 =
    mul-le (c.from.result + 1) c.unit_of.result 15 72057594037927936 (omega (arith, c.from.ensures, c.requires.in_range)) (unit_bound _ _ c.requires.room c.unit_of.ensures.unit) in
    omega (arith, product, c.requires.room)

pub returns : goal.returns
returns c = record {
  last = subst (λ (i : ℕ). HasLast c.args.number c.args.place (c.args.number + (i + 1) * c.unit_of.result)) (sym c.from.ensures) (has_last _ c.args.place _ c.unit_of.ensures.unit);
}
