-- The words that are numbers, and what `parse` makes of them.
use Rattle.std.proofs.Common.{◌≡◌, ℕ, ◌<◌, ◌^◌, List, length, true, rules, arith, sym, ◌∙◌, ap, Some, None, Result, Ok, Err}
use Rattle.std.proofs.lemmas.Bool.{and_parts, leb-true, cond-true, cond-false, lt-ltb, false_from_ne_true, ltb-true, and_from, and_right}
use Rattle.std.proofs.lemmas.Str.{IsUtf8-from_ascii}
use Rattle.std.proofs.lemmas.Fmt.{IsAscii-from_digits}
use Rattle.std.proofs.lemmas.Str.Parse.{IsNumeralModel, numerals_by_value, parse_digits}
use Rattle.std.specs.Char.{is_ascii_digit}
use Rattle.std.specs.List.{list_all}
use Rattle.std.specs.Result.{result_ok, OkIff}
use Rattle.std.specs.Str.{IsUtf8}
use Rattle.std.specs.Str.Parse.{digits_value, ParsesUnsigned}
use Rattle.gev_script.specs.Numbers.{is_number, value_of}

pub own : IsNumeralModel (λ ds. list_all is_ascii_digit ds ≡ true) (digits_value 10)
own = numerals_by_value _ (search rules)

-- what a number is
pub record IsNumber (word : List ℕ) : Type 0 where
  pub some : 0 < length word
  pub digits : list_all is_ascii_digit word ≡ true

pub number_is : (word : List ℕ) → is_number word ≡ true → IsNumber word
number_is word h =
    let both = and_parts _ _ h in
    let front = and_parts _ _ both.0 in
    record { some = omega (arith, leb-true 1 (length word) front.0); digits = both.1 }

pub number_is_text : (word : List ℕ) → is_number word ≡ true → IsUtf8 word
number_is_text word h = IsUtf8-from_ascii word (IsAscii-from_digits word (own.to word (number_is word h).digits))

value_case : {E : Type 0} (word : List ℕ) (r : Result ℕ E) → is_number word ≡ true
    → OkIff r ((0 < length word) × (digits_value 10 word < 2 ^ 64)) (digits_value 10 word) → result_ok r ≡ value_of word
value_case word (Ok x) h p =
    ap (λ n. Some n) p.1 ∙ sym (cond-true _ (Some (digits_value 10 word)) None (and_from _ _ h (lt-ltb _ _ p.0.1)))
value_case word (Err e) h p =
    sym (cond-false _ (Some (digits_value 10 word)) None (and_right _ _ (false_from_ne_true _ (λ t. p ((number_is word h).some, ltb-true _ _ t)))))

pub parsed_value : {E : Type 0} (word : List ℕ) (r : Result ℕ E) → is_number word ≡ true → ParsesUnsigned 64 10 word r → result_ok r ≡ value_of word
parsed_value word r h p = value_case word r h (parse_digits own 64 word r p (number_is word h).digits)
