-- Bits, counts and highest ids, with one more packet.
use Rattle.std.proofs.Common.{◌≡◌, ◌⊎◌, inl, inr, ℕ, ◌+◌, ◌-◌, ◌<◌, ◌≤◌, ◌^◌, min, max, List, [], ◌∷◌, ◌++◌, length, set, replicate, Bool, true, false, Option, Some, None, refl, sym, ◌∙◌, ap, arith}
use Rattle.std.specs.Prelude.{◌==◌, ◌||◌}
use Rattle.std.proofs.lemmas.Bool.{cases_eq, cases_lt, eq-eqb, ne_eqb, or_right}
use Rattle.std.proofs.lemmas.List.{length-append, length-replicate, get_or-set_same, get_or-set_other, get_or-replicate}
use Rattle.std.proofs.Math.ListN.{get_or-eq_default}
use Rattle.stream_packets.specs.Packets.{StreamPacket, head_of}
use Rattle.missing_ranges.specs.Missing.{is_gone, has_gone, higher, highest}
use Rattle.packet_bitmap.specs.Bits.{has}
use Rattle.block_image.proofs.Bools.{or_assoc, or_false}

-- a bit more
pub has-set : (bits : List Bool) (id k : ℕ) → id < length bits → has (set bits id true) k ≡ (has bits k || (id == k))
has-set bits id k inside = go (cases_eq k id) where
  go : (k ≡ id) ⊎ (k ≡ id → ⊥) → has (set bits id true) k ≡ (has bits k || (id == k))
  go (inl same) =
      ap (has (set bits id true)) same ∙ get_or-set_same bits id true false inside
      ∙ sym (or_right (has bits k) (id == k) (eq-eqb id k (sym same)))
  go (inr other) =
      get_or-set_other bits id k true false other
      ∙ sym (ap (λ b. has bits k || b) (ne_eqb id k (λ e. other (sym e))) ∙ or_false (has bits k))

pub has-clear : (n k : ℕ) → has (replicate n false) k ≡ false
has-clear n k = go (cases_lt k n) where
  go : (k < n) ⊎ (n ≤ k) → has (replicate n false) k ≡ false
  go (inl inside) = get_or-replicate n k false false inside
  go (inr past) =
      let beyond : length (replicate n false) ≤ k = omega (arith, length-replicate n false) in
      get_or-eq_default (replicate n false) false beyond

-- a packet more, counted up to the type's end
pub count-push : (ks : List StreamPacket) (x : StreamPacket) (n : ℕ) → n ≡ min (length ks) (2 ^ 32 - 1) → min (n + 1) (2 ^ 32 - 1) ≡ min (length (ks ++ x ∷ [])) (2 ^ 32 - 1)
count-push ks x n e = omega (arith, length-append ks (x ∷ []))

higher_swap : (a b : ℕ) (o : Option ℕ) → max a (higher b o) ≡ max b (higher a o)
higher_swap a b None = omega arith
higher_swap a b (Some m) = omega arith

pub highest-push : (ks : List StreamPacket) (x : StreamPacket) → highest (ks ++ x ∷ []) ≡ Some (higher (head_of x).id (highest ks))
highest-push [] x = refl
highest-push (y ∷ ys) x =
    ap (λ o. Some (higher (head_of y).id o)) (highest-push ys x)
    ∙ ap (λ n. Some n) (higher_swap (head_of y).id (head_of x).id (highest ys))

pub has_gone-push : (k : ℕ) (xs : List StreamPacket) (x : StreamPacket) → has_gone k (xs ++ x ∷ []) ≡ (has_gone k xs || is_gone k x)
has_gone-push k [] x = or_false (is_gone k x)
has_gone-push k (y ∷ ys) x =
    ap (λ b. is_gone k y || b) (has_gone-push k ys x) ∙ sym (or_assoc (is_gone k y) (has_gone k ys) (is_gone k x))
