-- Lines that may stand behind a script's header: each is one of the grammar, in place, and its spelling is one line.
use Rattle.std.proofs.Common.{◌≡◌, ℕ, suc, ◌+◌, ◌*◌, ◌<◌, ◌≤◌, ◌^◌, List, [], ◌∷◌, length, get_or, true, false, not, nat_eq, refl, ap, sym, subst, ◌∙◌, arith, lit<, length-append}
use Rattle.std.specs.Prelude.{decimal, codes, Ok}
use Rattle.std.specs.List.{AllByRecursion, join_with_byte}
use Rattle.std.proofs.lemmas.Bool.{not_from_false, ne_eqb, and_from, and_parts}
use Rattle.std.proofs.lemmas.Bool.Decides.{nat_tests}
use Rattle.std.proofs.lemmas.List.Sums.{AllPass-from_list_all, list_all-from_AllPass}
use Rattle.std.proofs.lemmas.List.Folds.{list_all-append}
use Rattle.std.proofs.lemmas.List.Elements.{All-from_get_or}
use Rattle.std.proofs.lemmas.Fmt.{length-decimal-le}
use Rattle.gev_script.specs.Lines as line
use Rattle.gev_script.specs.Lines.{ScriptLine}
use Rattle.gev_script.specs.Numbers.{is_hex, is_hex_digit}
use Rattle.gev_script.specs.Grammar.{name_of_words}
use Rattle.gev_script.specs.Spelling.{IsScriptLine, IsDatagram, words_in, spelling}
use Rattle.gev_script.proofs.Joined.{lacks, AllLack, number_lacks}
use Rattle.script_trace.specs.Standing.{is_out_of_place, last_or_not}
use Rattle.script_runs.specs.Verdicts.{goes_on}

-- ---- words

lacks_by : (c : ℕ) (word : List ℕ) → ((i : ℕ) → i < length word → get_or word i 0 ≡ c → ⊥) → lacks c word ≡ true
lacks_by c word h =
    list_all-from_AllPass (λ b. not (nat_eq b c)) word
    (All-from_get_or (λ b. not (nat_eq b c) ≡ true) word 0 (λ i lt. not_from_false _ (ne_eqb _ _ (h i lt))))

hex_is_no_feed : (b : ℕ) → is_hex_digit b ≡ true → b ≡ 10 → ⊥
hex_is_no_feed b h e = grind (arith, nat_tests)

hex_lacks_feed : (digits : List ℕ) → is_hex digits ≡ true → lacks 10 digits ≡ true
hex_lacks_feed digits h =
    lacks_by 10 digits (λ i lt e. hex_is_no_feed (get_or digits i 0) (AllPass-from_list_all is_hex_digit digits (and_parts _ _ h).1 i 0 lt) e)

number_lacks_feed : (n : ℕ) → n < 2 ^ 64 → lacks 10 (decimal n) ≡ true
number_lacks_feed n small = number_lacks 10 n (λ r. absurd (omega arith)) small

number_is_short : (n : ℕ) → n < 2 ^ 64 → length (decimal n) ≤ 20
number_is_short n small = length-decimal-le 20 n (lit< tt) (omega (arith, small)) small

abbrev AllShort : List (List ℕ) → Type 0
AllShort words = AllByRecursion (λ word. length word ≤ 20) words

lacks_joined : (word : List ℕ) (words : List (List ℕ)) → AllLack 10 (word ∷ words) → lacks 10 (join_with_byte 32 (word ∷ words)) ≡ true
lacks_joined word [] h = h.0
lacks_joined word (next ∷ words) h =
    list_all-append (λ b. not (nat_eq b 10)) word (32 ∷ join_with_byte 32 (next ∷ words))
    ∙ and_from _ _ h.0 (lacks_joined next words h.1)

short_joined : (word : List ℕ) (words : List (List ℕ)) → AllShort (word ∷ words) → length (join_with_byte 32 (word ∷ words)) ≤ 21 * length (word ∷ words)
short_joined word [] h = let a : length word ≤ 20 = h.0 in omega (arith, a)
short_joined word (next ∷ words) h =
    let a : length word ≤ 20 = h.0 in
    let b = short_joined next words h.1 in
    omega (arith, a, b, length-append word (32 ∷ join_with_byte 32 (next ∷ words)))

-- ---- lines

-- The line is one of the grammar, and its spelling is one line.
pub record Sits (l : ScriptLine) : Type 0 where
  pub is_line : IsScriptLine l
  pub no_feed : lacks 10 (spelling l) ≡ true
  pub short : length (spelling l) ≤ 20000

-- It may stand behind the header, and isn't the last.
pub record Goes (l : ScriptLine) : Type 0 where
  pub sits : Sits l
  pub in_place : is_out_of_place (name_of_words (words_in l)) ≡ false
  pub on : last_or_not (Ok l) ≡ goes_on

few : (n k : ℕ) → n ≤ 21 * k → k ≤ 7 → n ≤ 20000
few n k a b = omega (arith, a, b)

pub header_sits : (p : ℕ) → 528 ≤ p → p ≤ 8964 → Sits (line.header (record { version = 2; p = p; window = 4; timeout = 200; age = 20; rounds = 0 }))
header_sits p a b =
    let small : p < 2 ^ 64 = omega (arith, b) in
    record {
      is_line = record {
        version_from = omega arith;
        version_to = omega arith;
        p_from = a;
        p_to = b;
        window_from = omega arith;
        window_to = omega arith;
        timeout_from = omega arith;
        timeout_to = omega arith;
        age_from = omega arith;
        age_to = omega arith;
        rounds = omega arith;
      };
      no_feed = lacks_joined (codes "gevacq") (decimal 2 ∷ decimal p ∷ decimal 4 ∷ decimal 200 ∷ decimal 20 ∷ decimal 0 ∷ [])
          (refl, (number_lacks_feed 2 (lit< tt), (number_lacks_feed p small, (number_lacks_feed 4 (lit< tt), (number_lacks_feed 200 (lit< tt), (number_lacks_feed 20 (lit< tt), (number_lacks_feed 0 (lit< tt), tt)))))));
      short = few _ 7
          (short_joined (codes "gevacq") (decimal 2 ∷ decimal p ∷ decimal 4 ∷ decimal 200 ∷ decimal 20 ∷ decimal 0 ∷ [])
          (omega arith, (number_is_short 2 (lit< tt), (number_is_short p small, (number_is_short 4 (lit< tt), (number_is_short 200 (lit< tt), (number_is_short 20 (lit< tt), (number_is_short 0 (lit< tt), tt))))))))
          (omega arith);
    }

-- a line of a word and a number
one_number : (l : ScriptLine) (word : List ℕ) (n : ℕ) → words_in l ≡ word ∷ decimal n ∷ [] → IsScriptLine l → n < 2 ^ 64 → lacks 10 word ≡ true → length word ≤ 20 → Sits l
one_number l word n words is small lacking short =
    let spelled : spelling l ≡ join_with_byte 32 (word ∷ decimal n ∷ []) = ap (join_with_byte 32) words in
    record {
      is_line = is;
      no_feed = ap (lacks 10) spelled ∙ lacks_joined word (decimal n ∷ []) (lacking, (number_lacks_feed n small, tt));
      short = subst (λ (t : List ℕ). length t ≤ 20000) (sym spelled) (few _ 2 (short_joined word (decimal n ∷ []) (short, (number_is_short n small, tt))) (omega arith));
    }

pub announce_goes : (size : ℕ) → size ≤ 67108864 → Goes (line.announce size)
announce_goes size h =
    let small : size < 2 ^ 64 = omega (arith, h) in
    record { sits = one_number (line.announce size) (codes "announce") size refl small small refl (omega arith); in_place = refl; on = refl }

pub flush_goes : Goes (line.flush 3)
flush_goes = record { sits = one_number (line.flush 3) (codes "flush") 3 refl (lit< tt) (lit< tt) refl (omega arith); in_place = refl; on = refl }

pub stop_goes : Goes (line.stop 0)
stop_goes = record { sits = one_number (line.stop 0) (codes "stop") 0 refl (lit< tt) (lit< tt) refl (omega arith); in_place = refl; on = refl }

pub tick_goes : (moment : ℕ) → moment < 2 ^ 64 → Goes (line.tick moment)
tick_goes moment small = record { sits = one_number (line.tick moment) (codes "t") moment refl small small refl (omega arith); in_place = refl; on = refl }

two_more : (n : ℕ) → 2 + n ≤ 20000 → suc (suc n) ≤ 20000
two_more n h = omega (arith, h)

pub datagram_goes : (digits : List ℕ) → IsDatagram digits → Goes (line.datagram digits)
datagram_goes digits is = record {
  sits = record { is_line = is; no_feed = hex_lacks_feed digits is.hex; short = two_more (length digits) is.short };
  in_place = refl;
  on = refl;
}

pub start_goes : Goes line.start
start_goes = record { sits = record { is_line = tt; no_feed = refl; short = omega arith }; in_place = refl; on = refl }

pub take_goes : Goes line.take
take_goes = record { sits = record { is_line = tt; no_feed = refl; short = omega arith }; in_place = refl; on = refl }

pub end_sits : Sits line.end_of_script
end_sits = record { is_line = tt; no_feed = refl; short = omega arith }
