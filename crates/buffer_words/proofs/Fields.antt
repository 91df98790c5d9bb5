-- The output's number and the list of its places.
use Rattle.std.proofs.Common.{◌≡◌, ◌≢◌, ◌⊎◌, ℕ, zero, suc, ◌+◌, ◌-◌, ◌*◌, ◌/◌, ◌%◌, ◌^◌, ◌<◌, ◌≤◌, Bool, true, false, List, [], ◌∷◌, ◌++◌, length, refl, sym, ap, subst, ◌∙◌, inl, inr, arith, append_assoc, append-nil}
use Rattle.std.proofs.lemmas.Bool.{cases_eq}
use Rattle.std.proofs.lemmas.List.{length-append}
use Rattle.std.proofs.Math.Nat.{pow-suc, pow-le-pow_right, mul_assoc}
use Rattle.board_machine.specs.Places.{times}
use Rattle.board_machine.proofs.Places.{same_self, times-append}
use Rattle.board_machine.proofs.Room.{few_length}
use Rattle.buffer_words.specs.Codes.{out_code, mark_code}
use Rattle.buffer_words.specs.Output.{AreFields, HasFields, IsMarked, IsOut, IsUnit, HasLast}

-- a number of k fields is below 16 ^ k
code_bound : (is : List ℕ) → ((i : ℕ) → 1 ≤ times i is → i < 15) → out_code is < 16 ^ length is
code_bound [] below = omega arith
code_bound (i ∷ is) below =
    let first : i < 15 = below i (omega (arith, same_self i)) in
    let later : out_code is < 16 ^ length is = code_bound is (λ j more. below j (omega (arith, more))) in
    omega (arith, pow-suc 16 (length is))

pub fields_short : (n : ℕ) (is : List ℕ) → AreFields n is → length is ≤ 15
fields_short n is are = few_length 15 is (record { once = are.single; below = are.below })

-- a number of at most k fields is below 16 ^ k
pub fields_bound : (n k : ℕ) (is : List ℕ) → AreFields n is → length is ≤ k → n < 16 ^ k
fields_bound n k is are few =
    let larger : 16 ^ length is ≤ 16 ^ k = pow-le-pow_right (omega arith) few in
    omega (arith, are.number, code_bound is are.below, larger)

one_code : (xs ys : List ℕ) → ((i : ℕ) → 1 ≤ times i xs → i < 15) → ((i : ℕ) → 1 ≤ times i ys → i < 15) → out_code xs ≡ out_code ys → xs ≡ ys
one_code [] [] bx by e = refl
one_code [] (y ∷ ys) bx by e = absurd (omega arith)
one_code (x ∷ xs) [] bx by e = absurd (omega arith)
one_code (x ∷ xs) (y ∷ ys) bx by e =
    let small : x < 15 = bx x (omega (arith, same_self x)) in
    let small_too : y < 15 = by y (omega (arith, same_self y)) in
    let first : x ≡ y = omega arith in
    let later : xs ≡ ys = one_code xs ys (λ i more. bx i (omega (arith, more))) (λ i more. by i (omega (arith, more))) (omega arith) in
    ap (λ i. i ∷ xs) first ∙ ap (λ l. y ∷ l) later

-- a number has the fields of one list
pub one_fields : (n : ℕ) (xs ys : List ℕ) → AreFields n xs → AreFields n ys → xs ≡ ys
one_fields n xs ys x y = one_code xs ys x.below y.below (sym x.number ∙ y.number)

-- the fields that were read, and those that are left
pub record Reading (number rest : ℕ) (read : List ℕ) : Type 0 where
  pub left : List ℕ
  pub are : AreFields number (read ++ left)
  pub rest_is : rest ≡ out_code left

pub reading_first : (number : ℕ) → HasFields number → Reading number number []
reading_first number has = record { left = has.places; are = has.are; rest_is = has.are.number }

-- the next field
pub record Digit (number rest : ℕ) (read : List ℕ) : Type 0 where
  pub some : 1 ≤ rest % 16
  pub room : length read < 15
  pub after : Reading number (rest / 16) (read ++ (rest % 16 - 1) ∷ [])

digit_of : (number rest : ℕ) (read left : List ℕ) → AreFields number (read ++ left) → rest ≡ out_code left → 0 < rest → Digit number rest read
digit_of number rest read [] are is more = absurd (omega arith)
digit_of number rest read (i ∷ left) are is more =
    let small : i < 15 = are.below i (omega (arith, times-append i read (i ∷ left), same_self i)) in
    let place : rest % 16 - 1 ≡ i = omega arith in
    record {
      some = omega arith;
      room = omega (arith, fields_short number (read ++ i ∷ left) are, length-append read (i ∷ left));
      after = record {
        left = left;
        are = subst (λ l. AreFields number l) (sym (append_assoc read ((rest % 16 - 1) ∷ []) left ∙ ap (λ j. read ++ j ∷ left) place)) are;
        rest_is = omega arith;
      };
    }

pub reading_next : (number rest : ℕ) (read : List ℕ) → Reading number rest read → 0 < rest → Digit number rest read
reading_next number rest read reading more = digit_of number rest read reading.left reading.are reading.rest_is more

read_all : (number rest : ℕ) (read left : List ℕ) → AreFields number (read ++ left) → rest ≡ out_code left → rest ≡ 0 → AreFields number read
read_all number rest read [] are is none = subst (λ l. AreFields number l) (append-nil read) are
read_all number rest read (i ∷ left) are is none = absurd (omega arith)

pub reading_done : (number rest : ℕ) (read : List ℕ) → Reading number rest read → rest ≡ 0 → AreFields number read
reading_done number rest read reading none = read_all number rest read reading.left reading.are reading.rest_is none

-- the number with the mark, and without it
pub out_small : (is : List ℕ) → AreFields (out_code is) is → out_code is < 1152921504606846976
out_small is are = fields_bound (out_code is) 15 is are (fields_short (out_code is) is are)

without_mark : (n c : ℕ) → n ≡ c + 0 → c < 1152921504606846976 → (n % 1152921504606846976 ≡ c) × (n < 1152921504606846976)
without_mark n c e small = (omega arith, omega arith)

with_mark : (n c : ℕ) → n ≡ c + 1152921504606846976 → c < 1152921504606846976 → (n % 1152921504606846976 ≡ c) × (1152921504606846976 ≤ n)
with_mark n c e small = (omega arith, omega arith)

pub renamed : (n m : ℕ) (is : List ℕ) → n ≡ m → AreFields m is → AreFields n is
renamed n m is e are = record { number = e ∙ are.number; single = are.single; below = are.below }

pub out_is : (n : ℕ) (is : List ℕ) (closed : Bool) → n ≡ out_code is + mark_code closed → AreFields (out_code is) is → IsOut n is closed
out_is n is true e are = let both = with_mark n (out_code is) e (out_small is are) in record { fields = renamed _ _ is both.0 are; mark = both.1 }
out_is n is false e are = let both = without_mark n (out_code is) e (out_small is are) in record { fields = renamed _ _ is both.0 are; mark = both.1 }

-- whether the mark stands, by the number
pub open_of : (n c : ℕ) (closed : Bool) → n ≡ c + mark_code closed → n < 1152921504606846976 → closed ≡ false
open_of n c true e small = absurd (omega (arith, e, small))
open_of n c false e small = refl

pub closed_of : (n c : ℕ) (closed : Bool) → n ≡ c + mark_code closed → c < 1152921504606846976 → 1152921504606846976 ≤ n → closed ≡ true
closed_of n c true e small large = refl
closed_of n c false e small large = absurd (omega (arith, e, small, large))

pub one_mark : (n : ℕ) (x y : Bool) → IsMarked n x → IsMarked n y → x ≡ y
one_mark n true true x y = refl
one_mark n true false x y = absurd (omega (arith, x, y))
one_mark n false true x y = absurd (omega (arith, x, y))
one_mark n false false x y = refl

-- a number of k fields isn't below a lower power of 16
code_least : (is : List ℕ) (k : ℕ) → out_code is < 16 ^ k → length is ≤ k
code_least [] k less = omega arith
code_least (i ∷ is) zero less = absurd (omega (arith, less))
code_least (i ∷ is) (suc k) less =
    let later : out_code is < 16 ^ k = omega (arith, less, pow-suc 16 k) in
    omega (arith, code_least is k later)

-- so its unit is the power of its fields
unit_is : (n unit : ℕ) (is : List ℕ) → AreFields n is → IsUnit n unit → unit ≡ 16 ^ length is
unit_is n unit is are u =
    let most : u.fields ≤ length is = u.lowest (length is) (fields_bound n (length is) is are (omega arith)) in
    let least : length is ≤ u.fields = code_least is u.fields (omega (arith, are.number, u.above, u.power)) in
    let same_fields : u.fields ≡ length is = omega (arith, most, least) in
    u.power ∙ ap (λ k. 16 ^ k) same_fields

-- one more field at the end
code_push : (is : List ℕ) (i : ℕ) → out_code (is ++ i ∷ []) ≡ out_code is + (i + 1) * 16 ^ length is
code_push [] i = omega arith
code_push (x ∷ is) i =
    let p : ℕ = 16 ^ length is in
    let later : out_code (is ++ i ∷ []) ≡ out_code is + (i + 1) * p = code_push is i in
    let power : 16 ^ suc (length is) ≡ p * 16 = pow-suc 16 (length is) in
    let product : (i + 1) * 16 ^ suc (length is) ≡ (i + 1) * p * 16 = ap (λ m. (i + 1) * m) power ∙ sym (mul_assoc (i + 1) p 16) in
    let q : ℕ = (i + 1) * p in
    omega (arith, later, product)

pub has_last : (n i unit : ℕ) → IsUnit n unit → HasLast n i (n + (i + 1) * unit)
has_last n i unit u is are =
    ap (λ m. n + (i + 1) * m) (unit_is n unit is are u) ∙ (ap (λ m. m + (i + 1) * 16 ^ length is) are.number ∙ sym (code_push is i))

-- below 14 fields the unit and the new field fit
pub unit_bound : (n unit : ℕ) → n < 72057594037927936 → IsUnit n unit → unit ≤ 72057594037927936
unit_bound n unit small u =
    let few : u.fields ≤ 14 = u.lowest 14 small in
    let larger : 16 ^ u.fields ≤ 16 ^ 14 = pow-le-pow_right (omega arith) few in
    omega (arith, u.power, larger)

-- powers of 16 on the way to the lowest one above the number
pub record Units (n unit : ℕ) : Type 0 where
  pub fields : ℕ
  pub power : unit ≡ 16 ^ fields
  pub some : 1 ≤ unit
  pub lowest : (k : ℕ) → n < 16 ^ k → fields ≤ k

pub units_first : (n : ℕ) → Units n 1
units_first n = record { fields = 0; power = refl; some = omega arith; lowest = λ k less. omega arith }

pub units_next : (n unit : ℕ) → Units n unit → unit ≤ n → Units n (unit * 16)
units_next n unit u more = record {
  fields = suc u.fields;
  power = ap (λ m. m * 16) u.power ∙ sym (pow-suc 16 u.fields);
  some = omega (arith, u.some);
  lowest = λ k less. higher k less (cases_eq u.fields k);
}
  where
    higher : (k : ℕ) → n < 16 ^ k → (u.fields ≡ k) ⊎ (u.fields ≢ k) → suc u.fields ≤ k
    higher k less (inl e) = absurd (omega (arith, less, more, u.power, ap (λ j. 16 ^ j) e))
    higher k less (inr ne) = omega (arith, ne, u.lowest k less)

pub units_done : (n unit : ℕ) → Units n unit → n < unit → IsUnit n unit
units_done n unit u above = record { fields = u.fields; power = u.power; above = above; lowest = u.lowest }
