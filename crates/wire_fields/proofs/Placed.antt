-- What is written into a slice behind what stands at its front.
use Rattle.std.proofs.Common.{◌≡◌, ℕ, ◌+◌, ◌-◌, ◌<◌, ◌≤◌, suc, List, ◌∷◌, ◌++◌, length, get_or, set, take, drop, ap, sym, ◌∙◌, append_assoc, arith, drop-cons}
use Rattle.std.proofs.lemmas.List.{set_at, take_at, drop_at, take-append-drop, drop-append-le, drop-drop, length-append, length-take, length-drop}

-- What a part of the slice, lent behind the front, holds now stands behind the front.
placed : (old front bytes out part : List ℕ) (k width end : ℕ) → length front ≡ k → out ≡ front ++ drop k old
    → part ++ drop width (drop k old) ≡ bytes ++ drop end old → take k out ++ (part ++ drop width (drop k out)) ≡ (front ++ bytes) ++ drop end old
placed old front bytes out part k width end is_k is_out is_part =
    ap (λ (l : List ℕ). l ++ (part ++ drop width (drop k out))) (ap (take k) is_out ∙ take_at front (drop k old) k is_k)
    ∙ ap (λ (l : List ℕ). front ++ (part ++ drop width l)) (ap (drop k) is_out ∙ drop_at front (drop k old) k is_k)
    ∙ ap (λ (l : List ℕ). front ++ l) is_part
    ∙ sym (append_assoc front bytes (drop end old))

-- all behind the front was lent, and these bytes were written first
pub put_after : (old front bytes out part : List ℕ) (k n : ℕ) → length front ≡ k → k + n ≤ length old → out ≡ front ++ drop k old
    → part ≡ bytes ++ drop n (take (length out - k) (drop k out))
    → take k out ++ (part ++ drop (length out - k) (drop k out)) ≡ (front ++ bytes) ++ drop (k + n) old
put_after old front bytes out part k n is_k room is_out is_part =
    let rest : List ℕ = drop k old in
    let width : ℕ = length out - k in
    let same : length out ≡ length old = omega (arith, ap length is_out, length-append front (drop k old), length-drop k old, is_k, room) in
    let fits : n ≤ length (take width rest) = omega (arith, length-take width rest, length-drop k old, same, room) in
    let right : drop k out ≡ rest = ap (drop k) is_out ∙ drop_at front (drop k old) k is_k in
    let kept : drop n (take width rest) ++ drop width rest ≡ drop (k + n) old =
    sym (drop-append-le n (take width rest) (drop width rest) fits) ∙ ap (drop n) (take-append-drop width rest) ∙ drop-drop n k old in
    placed old front bytes out part k width (k + n) is_k is_out
    (ap (λ (l : List ℕ). l ++ drop width rest) (is_part ∙ ap (λ (l : List ℕ). bytes ++ drop n (take width l)) right)
    ∙ append_assoc bytes (drop n (take width rest)) (drop width rest)
    ∙ ap (λ (l : List ℕ). bytes ++ l) kept)

-- as much as these bytes was lent, and they were written
pub whole_after : (old front bytes out part : List ℕ) (k width end : ℕ) → length front ≡ k → k + width ≡ end → out ≡ front ++ drop k old → part ≡ bytes
    → take k out ++ (part ++ drop width (drop k out)) ≡ (front ++ bytes) ++ drop end old
whole_after old front bytes out part k width end is_k is_end is_out is_part =
    placed old front bytes out part k width end is_k is_out
    (ap (λ (l : List ℕ). l ++ drop width (drop k old)) is_part
    ∙ ap (λ (l : List ℕ). bytes ++ l) (drop-drop width k old ∙ ap (λ (m : ℕ). drop m old) is_end))

-- a byte was stored behind the front
pub byte_after : (old front out : List ℕ) (k value byte : ℕ) → length front ≡ k → k < length old → out ≡ front ++ drop k old → value ≡ byte
    → set out k value ≡ front ++ byte ∷ drop (suc k) old
byte_after old front out k value byte is_k room is_out is =
    ap (λ (l : List ℕ). set l k value) (is_out ∙ ap (λ (l : List ℕ). front ++ l) (drop-cons old k 0 room))
    ∙ set_at front (get_or old k 0) (drop (suc k) old) value k is_k
    ∙ ap (λ (b : ℕ). front ++ b ∷ drop (suc k) old) is
