-- Words that were joined are split again, where none has the separator.
use Rattle.std.proofs.Common.{◌≡◌, ℕ, ◌<◌, ◌^◌, List, [], ◌∷◌, Bool, true, false, not, nat_eq, length, get_or, refl, ap, ◌∙◌, rules, arith, Option, Some, None}
use Rattle.std.specs.Prelude.{⊤, decimal}
use Rattle.std.specs.Int.{IsInRange}
use Rattle.std.specs.List.{All, list_all, join_with_byte}
use Rattle.std.proofs.lemmas.Bool.{not-true, not_from_false, ne_eqb, and_from, and_parts}
use Rattle.std.proofs.lemmas.Bool.Decides.{nat_tests}
use Rattle.std.proofs.lemmas.List.Sums.{AllPass-from_list_all, list_all-from_AllPass}
use Rattle.std.proofs.lemmas.List.Folds.{list_all-append}
use Rattle.std.proofs.lemmas.List.Elements.{All-from_get_or}
use Rattle.std.proofs.lemmas.List.Splits.{slice_split_at, slice_split_none}
use Rattle.std.proofs.lemmas.Str.Parse.{not_in_digits}
use Rattle.std.proofs.lemmas.Fmt.{digits_decimal}
use Rattle.gev_script.specs.declared.act.Act.{Act}
use Rattle.gev_script.specs.declared.act.Act.TheVariants.{Grab, Lay, Pool, Fill, Claim, Take, SweepPool, SweepOut, Close}
use Rattle.gev_script.specs.Words.{parts_of}
use Rattle.gev_script.specs.Numbers.{is_hex, is_hex_digit}
use Rattle.gev_script.specs.Spelling.{id_word, parent_word, act_word, IsParent}
use Rattle.gev_script.proofs.Numerals.{own}

-- the byte isn't in the word
abbrev pub lacks : ℕ → List ℕ → Bool
lacks c word = list_all (λ b. not (nat_eq b c)) word

abbrev pub AllLack : ℕ → List (List ℕ) → Type 0
AllLack c [] = ⊤
AllLack c (word ∷ words) = (lacks c word ≡ true) × AllLack c words

lacks_at : (c : ℕ) (word : List ℕ) → lacks c word ≡ true → All (λ b. nat_eq b c ≡ false) word
lacks_at c word h k d lt = not-true _ (AllPass-from_list_all (λ b. not (nat_eq b c)) word h k d lt)

pub split_joined : (c : ℕ) (word : List ℕ) (words : List (List ℕ)) → AllLack c (word ∷ words)
    → parts_of c (join_with_byte c (word ∷ words)) ≡ word ∷ words
split_joined c word [] h = slice_split_none (λ b. nat_eq b c) word (lacks_at c word h.0)
split_joined c word (next ∷ words) h =
    slice_split_at (λ b. nat_eq b c) word c (join_with_byte c (next ∷ words)) (lacks_at c word h.0) (search rules)
    ∙ ap (λ t. word ∷ t) (split_joined c next words h.1)

lacks_by : (c : ℕ) (word : List ℕ) → ((i : ℕ) → i < length word → get_or word i 0 ≡ c → ⊥) → lacks c word ≡ true
lacks_by c word h =
    list_all-from_AllPass (λ b. not (nat_eq b c)) word
    (All-from_get_or (λ b. not (nat_eq b c) ≡ true) word 0 (λ i lt. not_from_false _ (ne_eqb _ _ (h i lt))))

pub number_lacks : (c n : ℕ) → (IsInRange 48 57 c → ⊥) → n < 2 ^ 64 → lacks c (decimal n) ≡ true
number_lacks c n outside small = lacks_by c (decimal n) (not_in_digits own (decimal n) c (digits_decimal own n small) outside)

pub number_lacks_space : (n : ℕ) → n < 2 ^ 64 → lacks 32 (decimal n) ≡ true
number_lacks_space n small = number_lacks 32 n (λ r. absurd (omega arith)) small

pub number_lacks_dot : (n : ℕ) → n < 2 ^ 64 → lacks 46 (decimal n) ≡ true
number_lacks_dot n small = number_lacks 46 n (λ r. absurd (omega arith)) small

pub id_lacks_space : (i g : ℕ) → i < 2 ^ 64 → g < 2 ^ 64 → lacks 32 (id_word i g) ≡ true
id_lacks_space i g a b =
    list_all-append (λ b. not (nat_eq b 32)) (decimal i) (46 ∷ decimal g)
    ∙ and_from _ _ (number_lacks_space i a) (number_lacks_space g b)

hex_is_no_space : (b : ℕ) → is_hex_digit b ≡ true → b ≡ 32 → ⊥
hex_is_no_space b h e = grind (arith, nat_tests)

pub hex_lacks_space : (digits : List ℕ) → is_hex digits ≡ true → lacks 32 digits ≡ true
hex_lacks_space digits h =
    lacks_by 32 digits (λ i lt e. hex_is_no_space (get_or digits i 0) (AllPass-from_list_all is_hex_digit digits (and_parts _ _ h).1 i 0 lt) e)

pub act_lacks_space : (a : Act) → lacks 32 (act_word a) ≡ true
act_lacks_space Grab = refl
act_lacks_space Lay = refl
act_lacks_space Pool = refl
act_lacks_space Fill = refl
act_lacks_space Claim = refl
act_lacks_space Take = refl
act_lacks_space SweepPool = refl
act_lacks_space SweepOut = refl
act_lacks_space Close = refl

pub parent_lacks_space : (p : Option ℕ) → IsParent p → lacks 32 (parent_word p) ≡ true
parent_lacks_space None h = refl
parent_lacks_space (Some serial) h = number_lacks_space serial h
