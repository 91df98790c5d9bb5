-- The spelling of each line is read as that line.
use Rattle.std.proofs.Common.{◌≡◌, ℕ, ◌<◌, ◌≤◌, ◌^◌, List, [], ◌∷◌, refl, ap, sym, ◌∙◌, arith, false, Option, Some, None, Ok, true, nat_eq, inl, inr}
use Rattle.std.specs.Prelude.{decimal, codes}
use Rattle.std.specs.Str.{bytes_eq}
use Rattle.std.proofs.lemmas.Bool.{cond-true, cond-false, cases_Bool, false_from_ne_true, true≢false}
use Rattle.std.proofs.lemmas.Slice.Eq.{bytes_eq-Decides}
use Rattle.gev_script.specs.declared.act.Act.{Act}
use Rattle.gev_script.specs.declared.act.Act.TheVariants.{Grab, Lay, Pool, Fill, Claim, Take, SweepPool, SweepOut, Close}
use Rattle.gev_script.specs.declared.kind.ScriptKind.TheVariants.{Header}
use Rattle.gev_script.specs.Lines as line
use Rattle.gev_script.specs.Lines.{ScriptLine, Config}
use Rattle.gev_script.specs.Words.{refused_as, parts_of}
use Rattle.gev_script.specs.Tables.{row_of, acts_alone, acts_at_place}
use Rattle.gev_script.specs.Numbers.{number_in, is_hex, hex_of}
use Rattle.gev_script.specs.Fields.{most_u32, most_u64, parent_of, id_of, next_number, most_p}
use Rattle.gev_script.specs.Grammar.{line_of, line_of_words, header_fields, times_of, step_of, step_alone, step_at_place}
use Rattle.gev_script.specs.Spelling.{IsScriptLine, IsConfig, IsId, IsParent, TakesPlace, words_in, spelling, id_word, parent_word, act_word, place_words}
use Rattle.gev_script.proofs.Bindings.{bound}
use Rattle.gev_script.proofs.Joined.{AllLack, split_joined, number_lacks_space, id_lacks_space, hex_lacks_space, act_lacks_space, parent_lacks_space, number_lacks, lacks}
use Rattle.gev_script.proofs.NumberWords.{number_in-decimal, id_of-word}

-- a number of 64 bits, and one of 32
long : (n : ℕ) → n < 2 ^ 64 → number_in 0 most_u64 (decimal n) ≡ Ok n
long n h = number_in-decimal 0 most_u64 n (omega arith) (omega arith) h

short : (n : ℕ) → n < 2 ^ 32 → number_in 0 most_u32 (decimal n) ≡ Ok n
short n h = number_in-decimal 0 most_u32 n (omega arith) (omega arith) (omega arith)

within : (low high n : ℕ) → high < 2 ^ 64 → low ≤ n → n ≤ high → number_in low high (decimal n) ≡ Ok n
within low high n h a b = number_in-decimal low high n a b (omega arith)

next_is : (low high n : ℕ) (words : List (List ℕ)) → high < 2 ^ 64 → low ≤ n → n ≤ high → next_number low high (decimal n ∷ words) ≡ Ok (n, words)
next_is low high n words h a b = bound (number_in low high (decimal n)) n (λ number. Ok (number, words)) (within low high n h a b)

hex_is : (digits : List ℕ) → is_hex digits ≡ true → hex_of digits ≡ Ok digits
hex_is digits h = cond-true _ (Ok digits) _ h

is_no_dash : (n : ℕ) → n < 2 ^ 64 → bytes_eq (decimal n) (codes "-") ≡ false
is_no_dash n h =
    false_from_ne_true _
    (λ e.
    let same : decimal n ≡ codes "-" = (bytes_eq-Decides (decimal n) (codes "-")).0 e in
    true≢false (sym (number_lacks 45 n (λ r. absurd (omega arith)) h) ∙ ap (lacks 45) same))

parent_is : (p : Option ℕ) → IsParent p → parent_of (parent_word p) ≡ Ok p
parent_is None h = refl
parent_is (Some serial) h =
    cond-false (bytes_eq (decimal serial) (codes "-")) _ _ (is_no_dash serial h)
    ∙ bound (number_in 0 most_u64 (decimal serial)) serial (λ n. Ok (Some n)) (long serial h)

times_are : (timeout age rounds : ℕ) → 1 ≤ timeout → timeout ≤ 60000 → 1 ≤ age → age ≤ 60000 → rounds ≤ 8
    → times_of (decimal timeout ∷ decimal age ∷ decimal rounds ∷ []) ≡ Ok (timeout, age, rounds)
times_are timeout age rounds a b c d e =
    bound (next_number 1 60000 (decimal timeout ∷ decimal age ∷ decimal rounds ∷ [])) (timeout, decimal age ∷ decimal rounds ∷ []) _ (next_is 1 60000 timeout _ (omega arith) a b)
    ∙ bound (next_number 1 60000 (decimal age ∷ decimal rounds ∷ [])) (age, decimal rounds ∷ []) _ (next_is 1 60000 age _ (omega arith) c d)
    ∙ bound (next_number 0 8 (decimal rounds ∷ [])) (rounds, []) _ (next_is 0 8 rounds _ (omega arith) (omega arith) e)

-- p has few bytes in each version
pub most_p_few : (version : ℕ) → most_p version ≤ 8964
most_p_few version = elim (cases_Bool (nat_eq version 2)) [
  | inl two ↦ let is : most_p version ≡ 8964 = cond-true (nat_eq version 2) 8964 8952 two in omega arith
  | inr one ↦ let is : most_p version ≡ 8952 = cond-false (nat_eq version 2) 8964 8952 one in omega arith
]

header_is : (c : Config) → IsConfig c → header_fields (decimal c.version ∷ decimal c.p ∷ decimal c.window ∷ decimal c.timeout ∷ decimal c.age ∷ decimal c.rounds ∷ []) ≡ Ok (line.header c)
header_is c is =
    bound (next_number 1 2 (decimal c.version ∷ decimal c.p ∷ decimal c.window ∷ decimal c.timeout ∷ decimal c.age ∷ decimal c.rounds ∷ [])) (c.version, decimal c.p ∷ decimal c.window ∷ decimal c.timeout ∷ decimal c.age ∷ decimal c.rounds ∷ []) _
    (next_is 1 2 c.version _ (omega arith) is.version_from is.version_to)
    ∙ bound (next_number 528 (most_p c.version) (decimal c.p ∷ decimal c.window ∷ decimal c.timeout ∷ decimal c.age ∷ decimal c.rounds ∷ [])) (c.p, decimal c.window ∷ decimal c.timeout ∷ decimal c.age ∷ decimal c.rounds ∷ []) _
    (next_is 528 (most_p c.version) c.p _ (omega (arith, most_p_few c.version)) is.p_from is.p_to)
    ∙ bound (next_number 1 4 (decimal c.window ∷ decimal c.timeout ∷ decimal c.age ∷ decimal c.rounds ∷ [])) (c.window, decimal c.timeout ∷ decimal c.age ∷ decimal c.rounds ∷ []) _
    (next_is 1 4 c.window _ (omega arith) is.window_from is.window_to)
    ∙ bound (times_of (decimal c.timeout ∷ decimal c.age ∷ decimal c.rounds ∷ [])) (c.timeout, c.age, c.rounds) _
    (times_are c.timeout c.age c.rounds is.timeout_from is.timeout_to is.age_from is.age_to is.rounds)

-- a step of each act
step_alone_is : (actor : ℕ) (act : Act) → 1 ≤ actor → actor ≤ 4 → row_of acts_alone (act_word act) ≡ Ok act
    → step_alone (decimal actor) (act_word act) ≡ Ok (line.step actor act None)
step_alone_is actor act a b e =
    bound (row_of acts_alone (act_word act)) act _ e
    ∙ bound (number_in 1 4 (decimal actor)) actor _ (within 1 4 actor (omega arith) a b)

step_at_place_is : (actor : ℕ) (act : Act) (place : ℕ) → 1 ≤ actor → actor ≤ 4 → place ≤ 14 → row_of acts_at_place (act_word act) ≡ Ok act
    → step_at_place (decimal actor) (act_word act) (decimal place) ≡ Ok (line.step actor act (Some place))
step_at_place_is actor act place a b c e =
    bound (row_of acts_at_place (act_word act)) act _ e
    ∙ bound (number_in 1 4 (decimal actor)) actor _ (within 1 4 actor (omega arith) a b)
    ∙ bound (number_in 0 14 (decimal place)) place _ (within 0 14 place (omega arith) (omega arith) c)

step_is : (actor : ℕ) (act : Act) (place : Option ℕ) → 1 ≤ actor → actor ≤ 4 → TakesPlace act place
    → step_of (decimal actor) (act_word act) (place_words place) ≡ Ok (line.step actor act place)
step_is actor Grab None a b h = absurd h
step_is actor Lay None a b h = absurd h
step_is actor Pool None a b h = absurd h
step_is actor Fill None a b h = absurd h
step_is actor Claim None a b h = step_alone_is actor Claim a b refl
step_is actor Take None a b h = step_alone_is actor Take a b refl
step_is actor SweepPool None a b h = step_alone_is actor SweepPool a b refl
step_is actor SweepOut None a b h = step_alone_is actor SweepOut a b refl
step_is actor Close None a b h = step_alone_is actor Close a b refl
step_is actor Grab (Some place) a b h = step_at_place_is actor Grab place a b h refl
step_is actor Lay (Some place) a b h = step_at_place_is actor Lay place a b h refl
step_is actor Pool (Some place) a b h = step_at_place_is actor Pool place a b h refl
step_is actor Fill (Some place) a b h = step_at_place_is actor Fill place a b h refl
step_is actor Claim (Some place) a b h = absurd h
step_is actor Take (Some place) a b h = absurd h
step_is actor SweepPool (Some place) a b h = absurd h
step_is actor SweepOut (Some place) a b h = absurd h
step_is actor Close (Some place) a b h = absurd h

-- the words of a line are read as that line
pub words_are : (l : ScriptLine) → IsScriptLine l → line_of_words (words_in l) ≡ Ok l
words_are (line.header c) h = ap (refused_as Header) (header_is c h)
words_are (line.announce size) h = bound (number_in 0 most_u64 (decimal size)) size _ (long size h)
words_are (line.queue place generation) h = bound (id_of (id_word place generation)) (place, generation) _ (id_of-word place generation h)
words_are (line.revoke place generation) h = bound (id_of (id_word place generation)) (place, generation) _ (id_of-word place generation h)
words_are (line.flush operation) h = bound (number_in 0 most_u32 (decimal operation)) operation _ (short operation h)
words_are line.start h = refl
words_are (line.stop flags) h = bound (number_in 0 most_u32 (decimal flags)) flags _ (short flags h)
words_are (line.tick moment) h = bound (number_in 0 most_u64 (decimal moment)) moment _ (long moment h)
words_are (line.datagram digits) h = bound (hex_of digits) digits _ (hex_is digits h.hex)
words_are line.take h = refl
words_are line.kill h = refl
words_are line.event_flush h = refl
words_are (line.info which) h = bound (number_in 0 most_u32 (decimal which)) which _ (short which h)
words_are (line.buffer_info place generation which) h =
    bound (id_of (id_word place generation)) (place, generation) _ (id_of-word place generation h.0)
    ∙ bound (number_in 0 most_u32 (decimal which)) which _ (short which h.1)
words_are (line.open_child parent index) h =
    bound (parent_of (parent_word parent)) parent _ (parent_is parent h.0)
    ∙ bound (number_in 0 most_u32 (decimal index)) index _ (short index h.1)
words_are (line.close_all serial) h = bound (number_in 0 most_u64 (decimal serial)) serial _ (long serial h)
words_are (line.step actor act place) h = step_is actor act place h.actor_from h.actor_to h.takes
words_are (line.mode mode) h = bound (number_in 0 2 (decimal mode)) mode _ (within 0 2 mode (omega arith) (omega arith) h)
words_are line.end_of_script h = refl
words_are line.camera_header h = refl
words_are (line.command peer digits) h =
    bound (number_in 1 65535 (decimal peer)) peer _ (within 1 65535 peer (omega arith) h.peer_from h.peer_to)
    ∙ bound (hex_of digits) digits _ (hex_is digits h.hex)
words_are line.frame h = refl

id_lacks : (place generation : ℕ) → IsId place generation → AllLack 32 (id_word place generation ∷ [])
id_lacks place generation is =
    let a : place < 2 ^ 8 = is.small_place in
    let b : generation < 2 ^ 32 = is.small_generation in
    (id_lacks_space place generation (omega arith) (omega arith), tt)

short_lacks : (n : ℕ) → n < 2 ^ 32 → AllLack 32 (decimal n ∷ [])
short_lacks n h = (number_lacks_space n (omega arith), tt)

place_lacks : (act : Act) (place : Option ℕ) → TakesPlace act place → AllLack 32 (place_words place)
place_lacks act None h = tt
place_lacks Grab (Some place) h = short_lacks place (omega arith)
place_lacks Lay (Some place) h = short_lacks place (omega arith)
place_lacks Pool (Some place) h = short_lacks place (omega arith)
place_lacks Fill (Some place) h = short_lacks place (omega arith)
place_lacks Claim (Some place) h = absurd h
place_lacks Take (Some place) h = absurd h
place_lacks SweepPool (Some place) h = absurd h
place_lacks SweepOut (Some place) h = absurd h
place_lacks Close (Some place) h = absurd h

-- the spelling's words are the words that it was joined of
pub words_split : (l : ScriptLine) → IsScriptLine l → parts_of 32 (spelling l) ≡ words_in l
words_split (line.header c) h =
    let version : c.version ≤ 2 = h.version_to in
    let p : c.p ≤ most_p c.version = h.p_to in
    let few : most_p c.version ≤ 8964 = most_p_few c.version in
    let window : c.window ≤ 4 = h.window_to in
    let timeout : c.timeout ≤ 60000 = h.timeout_to in
    let age : c.age ≤ 60000 = h.age_to in
    let rounds : c.rounds ≤ 8 = h.rounds in
    split_joined 32 (codes "gevacq") (decimal c.version ∷ decimal c.p ∷ decimal c.window ∷ decimal c.timeout ∷ decimal c.age ∷ decimal c.rounds ∷ [])
    (refl, (number_lacks_space c.version (omega arith), (number_lacks_space c.p (omega arith), (number_lacks_space c.window (omega arith), (number_lacks_space c.timeout (omega arith), (number_lacks_space c.age (omega arith), (number_lacks_space c.rounds (omega arith), tt)))))))
words_split (line.announce size) h = split_joined 32 (codes "announce") (decimal size ∷ []) (refl, (number_lacks_space size h, tt))
words_split (line.queue place generation) h = split_joined 32 (codes "queue") (id_word place generation ∷ []) (refl, id_lacks place generation h)
words_split (line.revoke place generation) h = split_joined 32 (codes "revoke") (id_word place generation ∷ []) (refl, id_lacks place generation h)
words_split (line.flush operation) h = split_joined 32 (codes "flush") (decimal operation ∷ []) (refl, short_lacks operation h)
words_split line.start h = split_joined 32 (codes "start") [] (refl, tt)
words_split (line.stop flags) h = split_joined 32 (codes "stop") (decimal flags ∷ []) (refl, short_lacks flags h)
words_split (line.tick moment) h = split_joined 32 (codes "t") (decimal moment ∷ []) (refl, (number_lacks_space moment h, tt))
words_split (line.datagram digits) h = split_joined 32 (codes "d") (digits ∷ []) (refl, (hex_lacks_space digits h.hex, tt))
words_split line.take h = split_joined 32 (codes "take") [] (refl, tt)
words_split line.kill h = split_joined 32 (codes "kill") [] (refl, tt)
words_split line.event_flush h = split_joined 32 (codes "event-flush") [] (refl, tt)
words_split (line.info which) h = split_joined 32 (codes "info") (decimal which ∷ []) (refl, short_lacks which h)
words_split (line.buffer_info place generation which) h =
    split_joined 32 (codes "binfo") (id_word place generation ∷ decimal which ∷ []) (refl, ((id_lacks place generation h.0).0, short_lacks which h.1))
words_split (line.open_child parent index) h =
    split_joined 32 (codes "open") (parent_word parent ∷ decimal index ∷ []) (refl, (parent_lacks_space parent h.0, short_lacks index h.1))
words_split (line.close_all serial) h = split_joined 32 (codes "close") (decimal serial ∷ []) (refl, (number_lacks_space serial h, tt))
words_split (line.step actor act place) h =
    let small : actor ≤ 4 = h.actor_to in
    split_joined 32 (codes "step") (decimal actor ∷ act_word act ∷ place_words place)
    (refl, (number_lacks_space actor (omega arith), (act_lacks_space act, place_lacks act place h.takes)))
words_split (line.mode mode) h = split_joined 32 (codes "mode") (decimal mode ∷ []) (refl, (number_lacks_space mode (omega (arith, h)), tt))
words_split line.end_of_script h = split_joined 32 (codes "end") [] (refl, tt)
words_split line.camera_header h = split_joined 32 (codes "gevacq-camera") (codes "1" ∷ []) (refl, (refl, tt))
words_split (line.command peer digits) h =
    let small : peer ≤ 65535 = h.peer_to in
    split_joined 32 (codes "c") (decimal peer ∷ digits ∷ []) (refl, (number_lacks_space peer (omega arith), (hex_lacks_space digits h.hex, tt)))
words_split line.frame h = split_joined 32 (codes "frame") [] (refl, tt)

pub spelled : (l : ScriptLine) → IsScriptLine l → line_of (spelling l) ≡ Ok l
spelled l h = ap line_of_words (words_split l h) ∙ words_are l h
