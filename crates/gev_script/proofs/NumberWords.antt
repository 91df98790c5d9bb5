-- Numbers, ids and hex digits as words, both ways.
use Rattle.std.proofs.Common.{◌≡◌, ℕ, ◌-◌, ◌<◌, ◌≤◌, ◌^◌, List, [], ◌∷◌, ◌++◌, true, not, nat_eq, nat_lt, nat_le, length, get_or, ap, sym, ◌∙◌, arith, Option, Some, None, Ok, Err, subst, inl, inr}
use Rattle.std.specs.Prelude.{decimal, ◌&&◌, ◌||◌}
use Rattle.std.specs.List.{join_with_byte}
use Rattle.std.proofs.lemmas.List.Splits.{join_with_byte-slice_split}
use Rattle.std.specs.Str.Parse.{digits_value}
use Rattle.std.proofs.lemmas.Bool.{and_from, and_parts, or_left, or_right, or_cases, not_from_false, not-true, le-leb, leb-true, lt-ltb, ltb-true, eq-eqb, eqb-true, eqb-false, ne_eqb, cond-true, cond-false, cases_Bool, cases_eq}
use Rattle.std.proofs.lemmas.Fmt.{digits_decimal, digits_value-decimal, decimal_nonempty, first_decimal, decimal_digit, decimal-digits_value}
use Rattle.gev_script.specs.declared.kind.ScriptKind.TheVariants.{Number}
use Rattle.gev_script.specs.Words.{parts_of, refused_as, two_of, one_of}
use Rattle.gev_script.specs.Numbers.{is_number, value_of, bounded, number_in, is_hex, hex_of}
use Rattle.gev_script.specs.Fields.{most_u8, most_u32, id_parts, id_of}
use Rattle.gev_script.specs.Spelling.{id_word, IsId}
use Rattle.gev_script.proofs.Numerals.{own, number_is}
use Rattle.gev_script.proofs.Bindings.{bound, bind_ok, refused_ok}
use Rattle.gev_script.proofs.Joined.{split_joined, number_lacks_dot}

-- a number's digits have no leading zero
no_leading_zero : (n : ℕ) → n < 2 ^ 64 → (nat_eq (length (decimal n)) 1 || not (nat_eq (get_or (decimal n) 0 0) 48)) ≡ true
no_leading_zero n small =
    elim (cases_eq n 0) [
      | inl zero ↦ or_left _ _ (eq-eqb _ _ (ap length (decimal_digit n (omega arith))))
      | inr more ↦
          let positive : 0 < n = omega arith in
          let first : 48 < get_or (decimal n) 0 0 = first_decimal n positive small in
          or_right _ _ (not_from_false _ (ne_eqb _ _ (λ (e : get_or (decimal n) 0 0 ≡ 48). absurd (omega arith))))
    ]

is_number-decimal : (n : ℕ) → n < 2 ^ 64 → is_number (decimal n) ≡ true
is_number-decimal n small =
    and_from _ _
    (and_from _ _ (le-leb 1 (length (decimal n)) (omega (arith, decimal_nonempty n small))) (no_leading_zero n small))
    (digits_decimal own n small)

value_of-decimal : (n : ℕ) → n < 2 ^ 64 → value_of (decimal n) ≡ Some n
value_of-decimal n small =
    let same : digits_value 10 (decimal n) ≡ n = digits_value-decimal own n small in
    cond-true _ (Some (digits_value 10 (decimal n))) None
    (and_from _ _ (is_number-decimal n small) (lt-ltb _ _ (omega arith)))
    ∙ ap (λ m. Some m) same

pub number_in-decimal : (low high n : ℕ) → low ≤ n → n ≤ high → n < 2 ^ 64 → number_in low high (decimal n) ≡ Ok n
number_in-decimal low high n a b small =
    ap (bounded low high) (value_of-decimal n small)
    ∙ cond-true _ (Ok n) (Err Number) (and_from _ _ (le-leb _ _ a) (le-leb _ _ b))

-- The word is this number within these bounds.
pub record IsNumberWord (low high : ℕ) (word : List ℕ) (n : ℕ) : Type 0 where
  pub spelled : word ≡ decimal n
  pub from : low ≤ n
  pub to : n ≤ high
  pub small : n < 2 ^ 64

bounded_ok : (low high : ℕ) (found : Option ℕ) (n : ℕ) → bounded low high found ≡ Ok n → (found ≡ Some n) × (low ≤ n) × (n ≤ high)
bounded_ok low high None n h = absurd (cc)
bounded_ok low high (Some m) n h =
    elim (cases_Bool (nat_le low m && nat_le m high)) [
      | inl within ↦
          let same : m ≡ n = (let o : Ok m ≡ Ok n = sym (cond-true _ (Ok m) (Err Number) within) ∙ h in cc) in
          let both = and_parts _ _ within in
          let a : low ≤ m = leb-true _ _ both.0 in
          let b : m ≤ high = leb-true _ _ both.1 in
          (ap (λ k. Some k) same, omega arith, omega arith)
      | inr outside ↦
          absurd (let o : Err Number ≡ Ok n = sym (cond-false _ (Ok m) (Err Number) outside) ∙ h in cc)
    ]

-- The word is a number of 64 bits.
record IsValue (word : List ℕ) (n : ℕ) : Type 0 where
  is : is_number word ≡ true
  small : digits_value 10 word < 2 ^ 64
  same : digits_value 10 word ≡ n

value_ok : (word : List ℕ) (n : ℕ) → value_of word ≡ Some n → IsValue word n
value_ok word n h =
    elim (cases_Bool (is_number word && nat_lt (digits_value 10 word) (2 ^ 64))) [
      | inl yes_is ↦
          let both = and_parts _ _ yes_is in
          let o : Some (digits_value 10 word) ≡ Some n = sym (cond-true _ (Some (digits_value 10 word)) None yes_is) ∙ h in
          record { is = both.0; small = ltb-true _ _ both.1; same = cc }
      | inr not_is ↦ absurd (let o : None ≡ Some n = sym (cond-false _ (Some (digits_value 10 word)) None not_is) ∙ h in cc)
    ]

leads : (word : List ℕ) → is_number word ≡ true → get_or word 0 0 ≡ 48 → length word ≡ 1
leads word h zero =
    elim (or_cases _ _ (and_parts _ _ (and_parts _ _ h).0).1) [
      | inl one ↦ eqb-true _ _ one
      | inr other ↦ absurd (eqb-false _ _ (not-true _ other) zero)
    ]

pub number_ok : (low high : ℕ) (word : List ℕ) (n : ℕ) → number_in low high word ≡ Ok n → IsNumberWord low high word n
number_ok low high word n h =
    let b = bounded_ok low high (value_of word) n h in
    let v = value_ok word n b.0 in
    let spelled : decimal (digits_value 10 word) ≡ word = decimal-digits_value own word (number_is word v.is).digits (number_is word v.is).some (leads word v.is) v.small in
    let bound : digits_value 10 word < 2 ^ 64 = v.small in
    let same : digits_value 10 word ≡ n = v.same in
    record { spelled = sym spelled ∙ ap decimal same; from = b.1; to = b.2; small = omega arith }

-- words by their number
pub one_ok : (words : List (List ℕ)) (word : List ℕ) → one_of words ≡ Ok word → words ≡ word ∷ []
one_ok [] word h = absurd (cc)
one_ok (first ∷ []) word h = (let e : first ≡ word = cc in ap (λ w. w ∷ []) e)
one_ok (first ∷ second ∷ words) word h = absurd (cc)

pub two_ok : (words : List (List ℕ)) (both : List ℕ × List ℕ) → two_of words ≡ Ok both → words ≡ both.0 ∷ both.1 ∷ []
two_ok [] both h = absurd (cc)
two_ok (first ∷ []) both h = absurd (cc)
two_ok (first ∷ second ∷ []) both h =
    let e : ◌≡◌ {A = List ℕ × List ℕ} (first, second) both = cc in
    ap (λ (p : List ℕ × List ℕ). p.0 ∷ p.1 ∷ []) e
two_ok (first ∷ second ∷ third ∷ words) both h = absurd (cc)

pub hex_ok : (word digits : List ℕ) → hex_of word ≡ Ok digits → (word ≡ digits) × (is_hex digits ≡ true)
hex_ok word digits h =
    elim (cases_Bool (is_hex word)) [
      | inl good ↦
          let o : Ok word ≡ hex_of word = sym (cond-true _ (Ok word) _ good) in
          let same : word ≡ digits = (let p : Ok word ≡ Ok digits = o ∙ h in cc) in
          (same, sym (ap is_hex same) ∙ good)
      | inr wrong ↦ absurd (let o = sym (cond-false (is_hex word) (Ok word) _ wrong) ∙ h in cc)
    ]

-- ids
pub id_of-word : (place generation : ℕ) → IsId place generation → id_of (id_word place generation) ≡ Ok (place, generation)
id_of-word place generation is =
    let a : place < 2 ^ 8 = is.small_place in
    let b : generation < 2 ^ 32 = is.small_generation in
    let split = split_joined 46 (decimal place) (decimal generation ∷ []) (number_lacks_dot place (omega arith), (number_lacks_dot generation (omega arith), tt)) in
    ap (refused_as Number)
    (ap id_parts split
    ∙ bound (number_in 0 most_u8 (decimal place)) place _ (number_in-decimal 0 most_u8 place (omega arith) (omega arith) (omega arith))
    ∙ bound (number_in 0 most_u32 (decimal generation)) generation _ (number_in-decimal 0 most_u32 generation (omega arith) (omega arith) (omega arith)))

-- The word is this id.
pub record IsIdWord (word : List ℕ) (place generation : ℕ) : Type 0 where
  pub spelled : word ≡ id_word place generation
  pub is : IsId place generation

pub id_ok : (word : List ℕ) (id : ℕ × ℕ) → id_of word ≡ Ok id → IsIdWord word id.0 id.1
id_ok word id h =
    let two = bind_ok (two_of (parts_of 46 word)) _ id (refused_ok Number (id_parts (parts_of 46 word)) id h) in
    let place = bind_ok (number_in 0 most_u8 two.value.0) _ id two.gives in
    let generation = bind_ok (number_in 0 most_u32 two.value.1) _ id place.gives in
    let same : ◌≡◌ {A = ℕ × ℕ} (place.value, generation.value) id = cc in
    let first = number_ok 0 most_u8 two.value.0 place.value place.was in
    let second = number_ok 0 most_u32 two.value.1 generation.value generation.was in
    let joined : word ≡ two.value.0 ++ 46 ∷ two.value.1 =
    sym (join_with_byte-slice_split 46 word) ∙ ap (join_with_byte 46) (two_ok (parts_of 46 word) two.value two.was) in
    let to_place : place.value ≤ 2 ^ 8 - 1 = first.to in
    let to_generation : generation.value ≤ 2 ^ 32 - 1 = second.to in
    subst (λ (p : ℕ × ℕ). IsIdWord word p.0 p.1) same
    (record {
      spelled = joined ∙ ap (λ w. w ++ 46 ∷ two.value.1) first.spelled ∙ ap (λ w. decimal place.value ++ 46 ∷ w) second.spelled;
      is = record { small_place = omega arith; small_generation = omega arith };
    })
