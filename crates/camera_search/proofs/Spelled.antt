-- Words of 4 bytes that are spelled one after the other: the bytes of some of them, and the number of one.
use Rattle.std.proofs.Common.{◌≡◌, ℕ, ◌+◌, ◌-◌, ◌*◌, ◌^◌, ◌<◌, ◌≤◌, suc, List, [], ◌∷◌, ◌++◌, length, take, drop, refl, sym, ap, ◌∙◌, arith, length-drop, drop-cons}
use Rattle.std.specs.Prelude.{slice_index}
use Rattle.std.specs.List.{flat_map, All}
use Rattle.std.proofs.lemmas.List.{take-append-drop, take_at, drop_at, drop-drop, drop-take, take-take, get_or-take, length-append, length-take-le}
use Rattle.std.proofs.lemmas.List.Concat.{flat_map-append}
use Rattle.byteorder.specs.Endian.{big_number, big_bytes}
use Rattle.byteorder.specs.Numbers.{length-bytes_high_first, big_number-reads_back}
use Rattle.wire_fields.specs.Fields.{number_at}

length_spelled : (words : List ℕ) → length (flat_map (big_bytes 4) words) ≡ 4 * length words
length_spelled [] = refl
length_spelled (w ∷ words) =
    omega (arith, length-append (big_bytes 4 w) (flat_map (big_bytes 4) words), length-bytes_high_first 4 w, length_spelled words)

parted : (i : ℕ) (words : List ℕ)
    → flat_map (big_bytes 4) words ≡ flat_map (big_bytes 4) (take i words) ++ flat_map (big_bytes 4) (drop i words)
parted i words = ap (flat_map (big_bytes 4)) (sym (take-append-drop i words)) ∙ flat_map-append (big_bytes 4) (take i words) (drop i words)

length_front : (i : ℕ) (words : List ℕ) → i ≤ length words → length (flat_map (big_bytes 4) (take i words)) ≡ 4 * i
length_front i words fits = omega (arith, length_spelled (take i words), length-take-le i words fits)

spelled_from : (i : ℕ) (words : List ℕ) → i ≤ length words → drop (4 * i) (flat_map (big_bytes 4) words) ≡ flat_map (big_bytes 4) (drop i words)
spelled_from i words fits =
    ap (drop (4 * i)) (parted i words)
    ∙ drop_at (flat_map (big_bytes 4) (take i words)) (flat_map (big_bytes 4) (drop i words)) (4 * i) (length_front i words fits)

spelled_to : (i : ℕ) (words : List ℕ) → i ≤ length words → take (4 * i) (flat_map (big_bytes 4) words) ≡ flat_map (big_bytes 4) (take i words)
spelled_to i words fits =
    ap (take (4 * i)) (parted i words)
    ∙ take_at (flat_map (big_bytes 4) (take i words)) (flat_map (big_bytes 4) (drop i words)) (4 * i) (length_front i words fits)

-- the bytes of the first words
pub length_told : (count : ℕ) (words : List ℕ) → count ≤ length words → length (flat_map (big_bytes 4) (take count words)) ≡ 4 * count
length_told count words fits = length_front count words fits

-- what some members among the first are
part_of : (first count most : ℕ) (words : List ℕ) → first + count ≤ most → take count (drop first (take most words)) ≡ take count (drop first words)
part_of first count most words few =
    let much : first + (most - first) ≡ most = omega (arith, few) in
    ap (λ (n : ℕ). take count (drop first (take n words))) (sym much)
    ∙ (ap (take count) (drop-take first (most - first) words)
    ∙ take-take count (most - first) (drop first words) (omega (arith, few)))

-- the bytes of some words among the first
pub spelled_part : (first count most : ℕ) (words : List ℕ) → first + count ≤ most → most ≤ length words
    → take (4 * count) (drop (4 * first) (flat_map (big_bytes 4) (take most words))) ≡ flat_map (big_bytes 4) (take count (drop first words))
spelled_part first count most words few fits =
    let size : length (take most words) ≡ most = length-take-le most words fits in
    let rest : length (drop first (take most words)) ≡ most - first = omega (arith, size, length-drop first (take most words)) in
    ap (take (4 * count)) (spelled_from first (take most words) (omega (arith, size, few)))
    ∙ (spelled_to count (drop first (take most words)) (omega (arith, rest, few))
    ∙ ap (flat_map (big_bytes 4)) (part_of first count most words few))

-- the number of one of the first words
pub spelled_number : (place most : ℕ) (words : List ℕ) → place < most → most ≤ length words → All (λ word. word < 2 ^ 32) words
    → number_at (4 * place) 4 (flat_map (big_bytes 4) (take most words)) ≡ slice_index words place
unfolding number_at
spelled_number place most words inside fits small =
    let size : length (take most words) ≡ most = length-take-le most words fits in
    let here : place < length (take most words) = omega (arith, size, inside) in
    let word : slice_index (take most words) place ≡ slice_index words place = get_or-take most words place 0 inside in
    let low : slice_index (take most words) place < 256 ^ 4 = omega (arith, word, small place 0 (omega (arith, inside, fits))) in
    ap (big_number 4) (spelled_from place (take most words) (omega (arith, here))
    ∙ ap (flat_map (big_bytes 4)) (drop-cons (take most words) place 0 here))
    ∙ (big_number-reads_back 4 (slice_index (take most words) place) (flat_map (big_bytes 4) (drop (suc place) (take most words))) low ∙ word)

-- the bytes of a MAC address, which begin in the middle of a word
pub mac_part : (most : ℕ) (words : List ℕ) → 4 ≤ most → most ≤ length words
    → take 6 (drop 10 (flat_map (big_bytes 4) (take most words))) ≡ drop 2 (flat_map (big_bytes 4) (take 2 (drop 2 words)))
mac_part most words few fits =
    ap (take 6) (sym (drop-drop 2 8 (flat_map (big_bytes 4) (take most words))))
    ∙ (sym (drop-take 2 6 (drop 8 (flat_map (big_bytes 4) (take most words))))
    ∙ ap (drop 2) (spelled_part 2 2 most words few fits))
