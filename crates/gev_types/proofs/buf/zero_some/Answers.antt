use Rattle.std.proofs.Common.{◌≡◌, ◌≤◌, length, replicate, ℕ, ◌+◌, ◌-◌, ◌<◌, List, ◌++◌, take, drop, inl, inr, ap, sym, ◌∙◌, arith}
use Rattle.std.specs.Prelude.{min}
use Rattle.std.proofs.lemmas.List.{take-replicate, take_min, length-take, length-drop, length-replicate}
use Rattle.std.proofs.lemmas.Bool.{cases_lt}
use Rattle.std.proofs.lemmas.List.{append_assoc}
use Rattle.std.proofs.Math.ListN.{drop_of_length-le}
use borrow.Rule.Slice.PartMut.{post_of, Post-is}
use Rattle.gev_types.proofs.buf.zero_some.Goals as goal

-- as many of a list behind a front as there are at least
count_of : (bytes : List ℕ) (at count : ℕ) → at + count ≤ length bytes → length (take (at + count - at) (drop at bytes)) ≡ count
count_of bytes at count within = simp (length-take, length-drop) (omega arith)

-- the first of so many zeros
first_zeros : (m n : ℕ) → replicate {A = ℕ} (min m n) 0 ≡ take m (replicate {A = ℕ} n 0)
first_zeros m n =
    sym (take-replicate (min m n) n 0 (omega arith))
    ∙ ap (λ k. take (min m k) (replicate {A = ℕ} n 0)) (sym (length-replicate n 0))
    ∙ take_min m (replicate {A = ℕ} n 0)

-- the zeros that go in are the first of those that are asked for
filled : (bytes new : List ℕ) (at m count : ℕ) → new ≡ replicate (length (take (at + m - at) (drop at bytes))) 0 → m ≡ min (length bytes - at) count → at < length bytes
    → new ≡ take (length bytes - at) (replicate count 0)
filled bytes new at m count is many within =
    is ∙ ap (λ n. replicate n 0) (count_of bytes at m (omega (arith, many, within)) ∙ many) ∙ first_zeros (length bytes - at) count

-- what lies behind the zeros stays, and where they reach the end there is nothing
behind : (bytes : List ℕ) (at m count : ℕ) → m ≡ min (length bytes - at) count → at < length bytes → drop (at + m) bytes ≡ drop (at + count) bytes
behind bytes at m count many within = elim (cases_lt count (length bytes - at)) [
  | inl less ↦ ap (λ k. drop (at + k) bytes) (many ∙ omega arith)
  | inr more ↦ drop_of_length-le bytes (omega (arith, many)) ∙ sym (drop_of_length-le bytes (omega arith))
]

pub returns : goal.returns
returns c =
    let m = c.min-count.result in
    let bytes = c.args.bytes.now in
    let at = c.args.at in
    let zeros = filled bytes c.zero_all.new.bytes at m c.args.count c.zero_all.ensures c.min-count.ensures c.if-at-bytes.false in
    let rest = Post-is at (at + m) bytes (omega arith) ∙ behind bytes at m c.args.count c.min-count.ensures c.if-at-bytes.false in
    ap (λ z. take at bytes ++ (z ++ post_of at (at + m - at) bytes)) zeros
    ∙ ap (λ r. take at bytes ++ (take (length bytes - at) (replicate c.args.count 0) ++ r)) rest
    ∙ sym (append_assoc (take at bytes) (take (length bytes - at) (replicate c.args.count 0)) (drop (at + c.args.count) bytes))
    ∙ ap (λ k. take at bytes ++ take (length bytes - at) (replicate c.args.count 0) ++ drop (at + k) bytes) (sym (length-replicate c.args.count 0))
