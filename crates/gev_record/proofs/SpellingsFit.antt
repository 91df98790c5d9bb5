-- The spelling of a line has no line feed, and at most 20,000 bytes.
use Rattle.std.proofs.Common.{◌≡◌, ℕ, zero, suc, ◌+◌, ◌/◌, ◌%◌, ◌≤◌, ◌==◌, nat_eq, not, Bool, true, false, List, [], ◌∷◌, length, get_or, if◌then◌else◌, refl, arith, length-append}
use Rattle.std.specs.Prelude.{Option, Some, None}
use Rattle.std.specs.List.{AllByRecursion, list_all, join_with_byte}
use Rattle.std.specs.Fmt.{decimal, digits, digits_onto, digit_glyph}
use Rattle.std.proofs.lemmas.Bool.{ne_eqb, and_from, and_parts, not_from_false, not-true, eqb-false}
use Rattle.std.proofs.lemmas.Bool.Decides.{nat_tests}
use Rattle.std.proofs.lemmas.List.Sums.{AllPass-from_list_all}
use Rattle.gev_script.specs.declared.act.Act.{Act}
use Rattle.gev_script.specs.declared.act.Act.TheVariants.{Grab, Lay, Pool, Fill, Claim, Take, SweepPool, SweepOut, Close}
use Rattle.gev_script.specs.Lines as line
use Rattle.gev_script.specs.Lines.{ScriptLine}
use Rattle.gev_script.specs.Numbers.{is_hex, is_hex_digit}
use Rattle.gev_script.specs.Spelling.{IsScriptLine, words_in, spelling, id_word, parent_word, act_word, place_words}
use Rattle.gev_script.specs.Streams.{HasNoFeed}
use Rattle.gev_record.proofs.Saying.{IsClean, clean_both, clean_number}

-- ---- no line feed

pub no_feed : (bytes : List ℕ) → IsClean bytes → HasNoFeed bytes
no_feed bytes clean i low e =
    let pass : not (nat_eq (get_or bytes i 0) 10) ≡ true = AllPass-from_list_all (λ b. not (nat_eq b 10)) bytes clean i 0 low in
    eqb-false (get_or bytes i 0) 10 (not-true _ pass) e

clean_join : (ws : List (List ℕ)) → AllByRecursion IsClean ws → IsClean (join_with_byte 32 ws)
clean_join [] all = refl
clean_join (w ∷ []) all = all.0
clean_join (w ∷ v ∷ ws) all = clean_both w (32 ∷ join_with_byte 32 (v ∷ ws)) all.0 (clean_join (v ∷ ws) all.1)

hex_is_no_feed : (b : ℕ) → is_hex_digit b ≡ true → b ≡ 10 → ⊥
hex_is_no_feed b h e = grind (arith, nat_tests)

clean_digits : (ds : List ℕ) → list_all is_hex_digit ds ≡ true → IsClean ds
clean_digits [] all = refl
clean_digits (d ∷ ds) all =
    let both = and_parts _ _ all in
    and_from _ _ (not_from_false _ (ne_eqb d 10 (λ (e : d ≡ 10). hex_is_no_feed d both.0 e))) (clean_digits ds both.1)

clean_hex_word : (ds : List ℕ) → is_hex ds ≡ true → IsClean ds
clean_hex_word ds h = clean_digits ds (and_parts _ _ h).1

clean_id : (place generation : ℕ) → IsClean (id_word place generation)
clean_id place generation = clean_both (decimal place) (46 ∷ decimal generation) (clean_number place) (clean_number generation)

clean_parent : (p : Option ℕ) → IsClean (parent_word p)
clean_parent None = refl
clean_parent (Some serial) = clean_number serial

clean_act : (a : Act) → IsClean (act_word a)
clean_act Grab = refl
clean_act Lay = refl
clean_act Pool = refl
clean_act Fill = refl
clean_act Claim = refl
clean_act Take = refl
clean_act SweepPool = refl
clean_act SweepOut = refl
clean_act Close = refl

clean_place : (p : Option ℕ) → AllByRecursion IsClean (place_words p)
clean_place None = tt
clean_place (Some place) = (clean_number place, tt)

clean_words : (l : ScriptLine) → IsScriptLine l → AllByRecursion IsClean (words_in l)
clean_words (line.header c) is =
    (refl, (clean_number c.version, (clean_number c.p, (clean_number c.window, (clean_number c.timeout, (clean_number c.age, (clean_number c.rounds, tt)))))))
clean_words (line.announce size) is = (refl, (clean_number size, tt))
clean_words (line.queue place generation) is = (refl, (clean_id place generation, tt))
clean_words (line.revoke place generation) is = (refl, (clean_id place generation, tt))
clean_words (line.flush operation) is = (refl, (clean_number operation, tt))
clean_words line.start is = (refl, tt)
clean_words (line.stop flags) is = (refl, (clean_number flags, tt))
clean_words (line.tick moment) is = (refl, (clean_number moment, tt))
clean_words (line.datagram word) is = (refl, (clean_hex_word word is.hex, tt))
clean_words line.take is = (refl, tt)
clean_words line.kill is = (refl, tt)
clean_words line.event_flush is = (refl, tt)
clean_words (line.info which) is = (refl, (clean_number which, tt))
clean_words (line.buffer_info place generation which) is = (refl, (clean_id place generation, (clean_number which, tt)))
clean_words (line.open_child parent index) is = (refl, (clean_parent parent, (clean_number index, tt)))
clean_words (line.close_all serial) is = (refl, (clean_number serial, tt))
clean_words (line.step actor act place) is = (refl, (clean_number actor, (clean_act act, clean_place place)))
clean_words (line.mode mode) is = (refl, (clean_number mode, tt))
clean_words line.end_of_script is = (refl, tt)
clean_words line.camera_header is = (refl, (refl, tt))
clean_words (line.command peer word) is = (refl, (clean_number peer, (clean_hex_word word is.hex, tt)))
clean_words line.frame is = (refl, tt)

pub line_no_feed : (l : ScriptLine) → IsScriptLine l → HasNoFeed (spelling l)
line_no_feed l is = no_feed (spelling l) (clean_join (words_in l) (clean_words l is))

-- ---- lengths

onto_few : (k n : ℕ) (acc : List ℕ) → length (digits_onto k 10 false n acc) ≤ k + length acc
onto_few zero n acc = omega arith
onto_few (suc k) n acc = go (n / 10 == 0) (onto_few k (n / 10) (digit_glyph false (n % 10) ∷ acc)) where
  go : (v : Bool) → length (digits_onto k 10 false (n / 10) (digit_glyph false (n % 10) ∷ acc)) ≤ k + length (digit_glyph false (n % 10) ∷ acc)
      → length (if v then digit_glyph false (n % 10) ∷ acc else digits_onto k 10 false (n / 10) (digit_glyph false (n % 10) ∷ acc)) ≤ suc k + length acc
  go true further = omega arith
  go false further = omega (arith, further)

number_few : (n : ℕ) → length (decimal n) ≤ 64
unfolding digits
number_few n = (let few = onto_few 64 n [] in omega (arith, few))

-- the length of words with a space between each two
abbrev room : List (List ℕ) → ℕ
room [] = 0
room (w ∷ []) = length w
room (w ∷ v ∷ ws) = length w + (1 + room (v ∷ ws))

join_room : (ws : List (List ℕ)) → length (join_with_byte 32 ws) ≡ room ws
join_room [] = refl
join_room (w ∷ []) = refl
join_room (w ∷ v ∷ ws) =
    let rest = join_room (v ∷ ws) in
    let sum : length (join_with_byte 32 (w ∷ v ∷ ws)) ≡ length w + length (32 ∷ join_with_byte 32 (v ∷ ws)) = length-append w (32 ∷ join_with_byte 32 (v ∷ ws)) in
    omega (arith, rest, sum)

id_few : (place generation : ℕ) → length (id_word place generation) ≤ 129
id_few place generation =
    let a = number_few place in let b = number_few generation in
    let sum : length (id_word place generation) ≡ length (decimal place) + length (46 ∷ decimal generation) = length-append (decimal place) (46 ∷ decimal generation) in
    omega (arith, a, b, sum)

parent_few : (p : Option ℕ) → length (parent_word p) ≤ 64
parent_few None = omega arith
parent_few (Some serial) = number_few serial

act_few : (a : Act) → length (act_word a) ≤ 10
act_few Grab = omega arith
act_few Lay = omega arith
act_few Pool = omega arith
act_few Fill = omega arith
act_few Claim = omega arith
act_few Take = omega arith
act_few SweepPool = omega arith
act_few SweepOut = omega arith
act_few Close = omega arith

room_few : (l : ScriptLine) → IsScriptLine l → room (words_in l) ≤ 20000
room_few (line.header c) is =
    let a = number_few c.version in let b = number_few c.p in let w = number_few c.window in
    let t = number_few c.timeout in let e = number_few c.age in let r = number_few c.rounds in
    omega (arith, a, b, w, t, e, r)
room_few (line.announce size) is = (let a = number_few size in omega (arith, a))
room_few (line.queue place generation) is = (let a = id_few place generation in omega (arith, a))
room_few (line.revoke place generation) is = (let a = id_few place generation in omega (arith, a))
room_few (line.flush operation) is = (let a = number_few operation in omega (arith, a))
room_few line.start is = omega arith
room_few (line.stop flags) is = (let a = number_few flags in omega (arith, a))
room_few (line.tick moment) is = (let a = number_few moment in omega (arith, a))
room_few (line.datagram word) is = (let a = is.short in omega (arith, a))
room_few line.take is = omega arith
room_few line.kill is = omega arith
room_few line.event_flush is = omega arith
room_few (line.info which) is = (let a = number_few which in omega (arith, a))
room_few (line.buffer_info place generation which) is = (let a = id_few place generation in let b = number_few which in omega (arith, a, b))
room_few (line.open_child parent index) is = (let a = parent_few parent in let b = number_few index in omega (arith, a, b))
room_few (line.close_all serial) is = (let a = number_few serial in omega (arith, a))
room_few (line.step actor act None) is = (let a = number_few actor in let b = act_few act in omega (arith, a, b))
room_few (line.step actor act (Some place)) is = (let a = number_few actor in let b = act_few act in let p = number_few place in omega (arith, a, b, p))
room_few (line.mode mode) is = (let a = number_few mode in omega (arith, a))
room_few line.end_of_script is = omega arith
room_few line.camera_header is = omega arith
room_few (line.command peer word) is = (let a = is.short in omega (arith, a))
room_few line.frame is = omega arith

pub line_short : (l : ScriptLine) → IsScriptLine l → length (spelling l) ≤ 20000
line_short l is = (let a = room_few l is in let b = join_room (words_in l) in omega (arith, a, b))
