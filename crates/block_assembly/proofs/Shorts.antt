-- The lowest short payload, with one more packet, and what it tells.
use Rattle.std.proofs.Common.{◌≡◌, ℕ, ◌<◌, ◌≤◌, List, [], ◌∷◌, ◌++◌, length, Bool, true, false, Option, Some, None, refl, sym, ◌∙◌, ap, arith}
use Rattle.std.specs.Prelude.{◌==◌, ◌&&◌, ◌||◌, nat_lt, if◌then◌else◌}
use Rattle.std.specs.List.{AllByRecursion}
use Rattle.std.proofs.lemmas.Bool.{eq-eqb, lt-ltb, ltb-true, ltb-false, or_left, or_right, and_from}
use Rattle.stream_packets.specs.declared.fields.Head.{Head}
use Rattle.stream_packets.specs.Packets.{StreamPacket, leader, payload, trailer, notice}
use Rattle.block_image.proofs.Bools.{or_assoc}
use Rattle.block_image.proofs.IsKept.{AllByRecursion-push}
use Rattle.block_assembly.specs.declared.progress.Short.{Short}
use Rattle.block_assembly.specs.Shortest.{IsFull, IsShortFrom, has_short, IsLowestShort, IsShortest, lower_short, shortest_with}

has_short-append : (p : ℕ) (s : Short) (xs ys : List StreamPacket) → has_short p s (xs ++ ys) ≡ (has_short p s xs || has_short p s ys)
has_short-append p s [] ys = refl
has_short-append p s (leader h i ∷ xs) ys = has_short-append p s xs ys
has_short-append p s (payload h d ∷ xs) ys =
    ap (λ b. (h.id == s.id && length d == s.len && nat_lt (length d) p) || b) (has_short-append p s xs ys)
    ∙ sym (or_assoc (h.id == s.id && length d == s.len && nat_lt (length d) p) (has_short p s xs) (has_short p s ys))
has_short-append p s (trailer h y ∷ xs) ys = has_short-append p s xs ys
has_short-append p s (notice h ∷ xs) ys = has_short-append p s xs ys

-- a packet that is no short payload changes nothing
pub shortest-push_full : (p : ℕ) (ks : List StreamPacket) (x : StreamPacket) (o : Option Short) → IsFull p x → ((low : ℕ) → IsShortFrom p low x) → IsShortest p ks o → IsShortest p (ks ++ x ∷ []) o
shortest-push_full p ks x None full from h = AllByRecursion-push (IsFull p) ks x h full
shortest-push_full p ks x (Some s) full from h = record {
  there = has_short-append p s ks (x ∷ []) ∙ or_left (has_short p s ks) (has_short p s (x ∷ [])) h.there;
  lowest = AllByRecursion-push (IsShortFrom p s.id) ks x h.lowest (from s.id);
}

short_from_full : (p low : ℕ) (ks : List StreamPacket) → AllByRecursion (IsFull p) ks → AllByRecursion (IsShortFrom p low) ks
short_from_full p low [] full = tt
short_from_full p low (leader h i ∷ xs) full = (tt, short_from_full p low xs full.1)
short_from_full p low (payload h d ∷ xs) full = ((λ less. absurd (omega (arith, full.0))), short_from_full p low xs full.1)
short_from_full p low (trailer h y ∷ xs) full = (tt, short_from_full p low xs full.1)
short_from_full p low (notice h ∷ xs) full = (tt, short_from_full p low xs full.1)

short_from_lower : (p low lower : ℕ) (ks : List StreamPacket) → lower ≤ low → AllByRecursion (IsShortFrom p low) ks → AllByRecursion (IsShortFrom p lower) ks
short_from_lower p low lower [] less from = tt
short_from_lower p low lower (leader h i ∷ xs) less from = (tt, short_from_lower p low lower xs less from.1)
short_from_lower p low lower (payload h d ∷ xs) less from =
    ((λ short. let above : low ≤ h.id = from.0 short in omega arith), short_from_lower p low lower xs less from.1)
short_from_lower p low lower (trailer h y ∷ xs) less from = (tt, short_from_lower p low lower xs less from.1)
short_from_lower p low lower (notice h ∷ xs) less from = (tt, short_from_lower p low lower xs less from.1)

-- the new payload, as it is told
abbrev pub short_payload : Head → List ℕ → Short
short_payload h d = record { id = h.id; len = length d }

itself : (p : ℕ) (h : Head) (d : List ℕ) → length d < p → has_short p (short_payload h d) (payload h d ∷ []) ≡ true
itself p h d less =
    or_left (h.id == h.id && length d == length d && nat_lt (length d) p) false
    (and_from (h.id == h.id && length d == length d) (nat_lt (length d) p)
    (and_from (h.id == h.id) (length d == length d) (eq-eqb h.id h.id refl) (eq-eqb (length d) (length d) refl))
    (lt-ltb (length d) p less))

new_lowest : (p : ℕ) (ks : List StreamPacket) (h : Head) (d : List ℕ) → length d < p → AllByRecursion (IsShortFrom p h.id) ks → IsLowestShort p (ks ++ payload h d ∷ []) (short_payload h d)
new_lowest p ks h d less from = record {
  there = has_short-append p (short_payload h d) ks (payload h d ∷ []) ∙ or_right (has_short p (short_payload h d) ks) (has_short p (short_payload h d) (payload h d ∷ [])) (itself p h d less);
  lowest = AllByRecursion-push (IsShortFrom p h.id) ks (payload h d) from (λ _. omega arith);
}

old_lowest : (p : ℕ) (ks : List StreamPacket) (h : Head) (d : List ℕ) (s : Short) → s.id ≤ h.id → IsLowestShort p ks s → IsLowestShort p (ks ++ payload h d ∷ []) s
old_lowest p ks h d s above l = record {
  there = has_short-append p s ks (payload h d ∷ []) ∙ or_left (has_short p s ks) (has_short p s (payload h d ∷ [])) l.there;
  lowest = AllByRecursion-push (IsShortFrom p s.id) ks (payload h d) l.lowest (λ _. above);
}

shortest-push_short : (p : ℕ) (ks : List StreamPacket) (h : Head) (d : List ℕ) (o : Option Short) → length d < p → IsShortest p ks o → IsShortest p (ks ++ payload h d ∷ []) (lower_short (short_payload h d) o)
shortest-push_short p ks h d None less l = new_lowest p ks h d less (short_from_full p h.id ks l)
shortest-push_short p ks h d (Some s) less l = go (nat_lt h.id s.id) refl where
  go : (v : Bool) → nat_lt h.id s.id ≡ v → IsShortest p (ks ++ payload h d ∷ []) (if v then Some (short_payload h d) else Some s)
  go true e = new_lowest p ks h d less (short_from_lower p s.id h.id ks (omega (arith, ltb-true h.id s.id e)) l.lowest)
  go false e = old_lowest p ks h d s (ltb-false h.id s.id e) l

pub shortest-push : (p : ℕ) (ks : List StreamPacket) (h : Head) (d : List ℕ) (o : Option Short) → IsShortest p ks o → IsShortest p (ks ++ payload h d ∷ []) (shortest_with p (short_payload h d) o)
shortest-push p ks h d o l = go (nat_lt (length d) p) refl where
  go : (v : Bool) → nat_lt (length d) p ≡ v → IsShortest p (ks ++ payload h d ∷ []) (if v then lower_short (short_payload h d) o else o)
  go true e = shortest-push_short p ks h d o (ltb-true (length d) p e) l
  go false e =
      let full : p ≤ length d = ltb-false (length d) p e in
      shortest-push_full p ks (payload h d) o full (λ low less. absurd (omega arith)) l
