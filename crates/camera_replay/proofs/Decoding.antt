-- Hex digits of a command's line spell bytes.
use Rattle.std.proofs.Common.{◌≡◌, ℕ, ◌*◌, Bool, true, false, List, [], ◌∷◌, length, Result, Ok, Err, refl, sym, ap, subst, ◌∙◌}
use Rattle.std.specs.Prelude.{◌%◌, ◌==◌, ◌&&◌, ◌||◌, nat_le, if◌then◌else◌, Some, None, is_some, IsOk, MatchResult}
use Rattle.std.specs.List.{list_all, AllPass}
use Rattle.std.proofs.lemmas.Bool.{and_parts, eqb-true}
use Rattle.std.proofs.lemmas.List.Elements.{All-nil, All-cons}
use Rattle.gev_script.specs.Numbers.{is_hex, is_hex_digit as is_script_digit}
use Rattle.hex.specs.declared.error.FromHexError.{FromHexError}
use Rattle.hex.specs.Hex.{decode_of, decode_sized, is_hex_digit}
use Rattle.hex.proofs.HexLemmas.{decode_sized-twice, decode_of-digits}

ok_value : (r : Result (List ℕ) FromHexError) → IsOk r → (bytes : List ℕ) × (r ≡ Ok bytes)
ok_value (Ok bytes) h = (bytes, refl)
ok_value (Err e) h = cc

pub decoded : (digits old new : List ℕ) (result : Result (Unit {0}) FromHexError) → IsOk (decode_of digits) → length digits ≡ 2 * length old
    → MatchResult (decode_sized digits (length old)) (λ bytes. (result ≡ Ok tt) × (new ≡ bytes)) (λ e. result ≡ Err e) → decode_of digits ≡ Ok new
decoded digits old new result spelled room value = is.1 ∙ ap (λ (bytes : List ℕ). Ok bytes) (sym written.1)
  where
    is : (bytes : List ℕ) × (decode_of digits ≡ Ok bytes)
    is = ok_value (decode_of digits) spelled

    sized : decode_sized digits (length old) ≡ Ok is.0
    sized = decode_sized-twice digits (length old) room ∙ is.1

    written : (result ≡ Ok tt) × (new ≡ is.0)
    written = subst (λ (r : Result (List ℕ) FromHexError). MatchResult r (λ bytes. (result ≡ Ok tt) × (new ≡ bytes)) (λ e. result ≡ Err e)) sized value

-- ---- the digits of a script are hex digits

some_if : (x y z : ℕ) (upper lower number : Bool) → (number || lower) ≡ true
    → is_some (if upper then Some x else if lower then Some y else if number then Some z else None) ≡ true
some_if x y z true lower number e = refl
some_if x y z false true number e = refl
some_if x y z false false true e = refl
some_if x y z false false false e = absurd (cc)

digit_is : (c : ℕ) → is_script_digit c ≡ true → is_hex_digit c ≡ true
digit_is c e = some_if _ _ _ (nat_le 65 c && nat_le c 70) (nat_le 97 c && nat_le c 102) (nat_le 48 c && nat_le c 57) e

digits_are : (digits : List ℕ) → list_all is_script_digit digits ≡ true → AllPass is_hex_digit digits
digits_are [] e = All-nil (λ (c : ℕ). is_hex_digit c ≡ true)
digits_are (c ∷ cs) e =
    let parts : (is_script_digit c ≡ true) × (list_all is_script_digit cs ≡ true) = and_parts (is_script_digit c) (list_all is_script_digit cs) e in
    All-cons (λ (c : ℕ). is_hex_digit c ≡ true) c cs (digit_is c parts.0) (digits_are cs parts.1)

pub spells : (digits : List ℕ) → is_hex digits ≡ true → IsOk (decode_of digits)
spells digits h =
    let parts : ((nat_le 1 (length digits) && (length digits % 2 == 0)) ≡ true) × (list_all is_script_digit digits ≡ true) =
    and_parts (nat_le 1 (length digits) && (length digits % 2 == 0)) (list_all is_script_digit digits) h in
    let even : length digits % 2 ≡ 0 = eqb-true (length digits % 2) 0 (and_parts (nat_le 1 (length digits)) (length digits % 2 == 0) parts.0).1 in
    let found : (bytes : List ℕ) × (decode_of digits ≡ Ok bytes) = decode_of-digits digits even (digits_are digits parts.1) in
    subst (λ (r : Result (List ℕ) FromHexError). IsOk r) (sym found.1) refl
