-- Words that are read as a line are the words of that line.
use Rattle.std.proofs.Common.{◌≡◌, ℕ, ◌+◌, ◌<◌, ◌≤◌, ◌^◌, List, [], ◌∷◌, refl, ap, sym, ◌∙◌, arith, Option, Some, None, Ok, Err, length, subst, inl, inr, length-append}
use Rattle.std.specs.Prelude.{⊤, decimal, codes}
use Rattle.std.specs.Str.{bytes_eq}
use Rattle.std.specs.List.{join_with_byte}
use Rattle.std.proofs.lemmas.Bool.{cond-true, cond-false, cases_Bool}
use Rattle.std.proofs.lemmas.List.Splits.{join_with_byte-slice_split}
use Rattle.std.proofs.lemmas.Slice.Eq.{bytes_eq-Decides}
use Rattle.gev_script.specs.declared.act.Act.{Act}
use Rattle.gev_script.specs.declared.name.Name.{Name}
use Rattle.gev_script.specs.declared.name.Name.TheVariants as name
use Rattle.gev_script.specs.declared.kind.ScriptKind.TheVariants.{Header, Word}
use Rattle.gev_script.specs.Lines as line
use Rattle.gev_script.specs.Lines.{ScriptLine, Config}
use Rattle.gev_script.specs.Words.{Read, ◌>>=◌, parts_of, next_of, one_of, two_of, none_left}
use Rattle.gev_script.specs.Tables.{row_of, names, acts_alone, acts_at_place}
use Rattle.gev_script.specs.Numbers.{number_in, hex_of}
use Rattle.gev_script.specs.Fields.{most_u32, most_u64, number_after, next_number, id_of, id_after, parent_of, after_word, most_p}
use Rattle.gev_script.specs.Grammar.{alone, times_of, header_fields, header_line, datagram_line, buffer_info_line, open_child_line, step_alone, step_at_place, step_of, step_line, camera_header_fields, camera_header_line, command_line, line_named, line_of_words, line_of}
use Rattle.gev_script.specs.Spelling.{IsScriptLine, IsId, IsParent, TakesPlace, words_in, spelling, id_word, parent_word, act_word}
use Rattle.gev_script.specs.Laws.{Spells}
use Rattle.gev_script.proofs.Bindings.{bind_ok, refused_ok}
use Rattle.gev_script.proofs.NumberWords.{number_ok, one_ok, two_ok, hex_ok, id_ok}

-- These words are those of this line, whose numbers are in range where the whole is short.
pub record Says (words : List (List ℕ)) (l : ScriptLine) : Type 0 where
  pub same : words ≡ words_in l
  pub is_line : length (join_with_byte 32 (words_in l)) ≤ 20000 → IsScriptLine l

says : (words : List (List ℕ)) (l m : ScriptLine) → ◌≡◌ {A = Read ScriptLine} (Ok l) (Ok m) → Says words l → Says words m
says words l m e s = (let same : l ≡ m = cc in subst (Says words) same s)

-- a table whose every word is that of its row
abbrev pub AllRows : {Row : Type 0} → (List ℕ → Row → Type 0) → List (List ℕ × Row) → Type 0
AllRows P [] = ⊤
AllRows P (row ∷ rows) = P row.0 row.1 × AllRows P rows

row_ok : {Row : Type 0} (P : List ℕ → Row → Type 0) (rows : List (List ℕ × Row)) (word : List ℕ) (found : Row)
    → AllRows P rows → row_of rows word ≡ Ok found → P word found
row_ok P [] word found all h = absurd (cc)
row_ok {Row} P (row ∷ rows) word found all h =
    elim (cases_Bool (bytes_eq word row.0)) [
      | inl hit ↦
          let word_is : word ≡ row.0 = (bytes_eq-Decides word row.0).0 hit in
          let o : ◌≡◌ {A = Read Row} (Ok row.1) (Ok found) = sym (cond-true _ (Ok row.1) _ hit) ∙ h in
          let found_is : row.1 ≡ found = cc in
          subst (λ w. P w found) (sym word_is) (subst (P row.0) found_is all.0)
      | inr miss ↦ row_ok P rows word found all.1 (sym (cond-false _ (Ok row.1) _ miss) ∙ h)
    ]

number_after_ok : (most : ℕ) (words : List (List ℕ)) (n : ℕ) → number_after most words ≡ Ok n → (words ≡ decimal n ∷ []) × (n ≤ most)
number_after_ok most words n h =
    let one = bind_ok (one_of words) _ n h in
    let number = number_ok 0 most one.value n one.gives in
    (one_ok words one.value one.was ∙ ap (λ w. w ∷ []) number.spelled, number.to)

id_after_ok : (words : List (List ℕ)) (id : ℕ × ℕ) → id_after words ≡ Ok id → (words ≡ id_word id.0 id.1 ∷ []) × IsId id.0 id.1
id_after_ok words id h =
    let one = bind_ok (one_of words) _ id h in
    let found = id_ok one.value id one.gives in
    (one_ok words one.value one.was ∙ ap (λ w. w ∷ []) found.spelled, found.is)

none_ok : (words : List (List ℕ)) (done : Unit {0}) → none_left words ≡ Ok done → words ≡ []
none_ok [] done h = refl
none_ok (word ∷ words) done h = absurd (cc)

next_ok : (words : List (List ℕ)) (found : List ℕ × List (List ℕ)) → next_of words ≡ Ok found → words ≡ found.0 ∷ found.1
next_ok [] found h = absurd (cc)
next_ok (word ∷ words) found h =
    let e : ◌≡◌ {A = List ℕ × List (List ℕ)} (word, words) found = cc in
    ap (λ (p : List ℕ × List (List ℕ)). p.0 ∷ p.1) e

-- a number that stood next, and the words after it
record NextIs (low high : ℕ) (words : List (List ℕ)) (found : ℕ × List (List ℕ)) : Type 0 where
  is : words ≡ decimal found.0 ∷ found.1
  from : low ≤ found.0
  to : found.0 ≤ high

next_number_ok : (low high : ℕ) (words : List (List ℕ)) (found : ℕ × List (List ℕ)) → next_number low high words ≡ Ok found → NextIs low high words found
next_number_ok low high words found h =
    let word = bind_ok (next_of words) _ found h in
    let number = bind_ok (number_in low high word.value.0) _ found word.gives in
    let e : ◌≡◌ {A = ℕ × List (List ℕ)} (number.value, word.value.1) found = cc in
    let is = number_ok low high word.value.0 number.value number.was in
    subst (NextIs low high words) e
    (record {
      is = next_ok words word.value word.was ∙ ap (λ w. w ∷ word.value.1) is.spelled;
      from = is.from;
      to = is.to;
    })

after_word_ok : (wanted : List ℕ) (words rest : List (List ℕ)) → after_word wanted words ≡ Ok rest → words ≡ wanted ∷ rest
after_word_ok wanted words rest h =
    let word = bind_ok (next_of words) _ rest h in
    elim (cases_Bool (bytes_eq word.value.0 wanted)) [
      | inl hit ↦
          let word_is : word.value.0 ≡ wanted = (bytes_eq-Decides word.value.0 wanted).0 hit in
          let o : ◌≡◌ {A = Read (List (List ℕ))} (Ok word.value.1) (Ok rest) = sym (cond-true _ (Ok word.value.1) _ hit) ∙ word.gives in
          let rest_is : word.value.1 ≡ rest = cc in
          next_ok words word.value word.was ∙ ap (λ w. w ∷ word.value.1) word_is ∙ ap (λ r. wanted ∷ r) rest_is
      | inr miss ↦
          absurd (let o : ◌≡◌ {A = Read (List (List ℕ))} (Err Word) (Ok rest) = sym (cond-false _ (Ok word.value.1) (Err Word) miss) ∙ word.gives in cc)
    ]

parent_ok : (word : List ℕ) (parent : Option ℕ) → parent_of word ≡ Ok parent → (word ≡ parent_word parent) × IsParent parent
parent_ok word parent h =
    elim (cases_Bool (bytes_eq word (codes "-"))) [
      | inl hit ↦
          let word_is : word ≡ codes "-" = (bytes_eq-Decides word (codes "-")).0 hit in
          let o : ◌≡◌ {A = Read (Option ℕ)} (Ok None) (Ok parent) = sym (cond-true _ (Ok None) _ hit) ∙ h in
          let parent_is : None ≡ parent = cc in
          subst (λ p. (word ≡ parent_word p) × IsParent p) parent_is (word_is, tt)
      | inr miss ↦
          let serial = bind_ok (number_in 0 most_u64 word) (λ n. Ok (Some n)) parent (sym (cond-false _ (Ok None) _ miss) ∙ h) in
          let number = number_ok 0 most_u64 word serial.value serial.was in
          let parent_is : Some serial.value ≡ parent = (let o : ◌≡◌ {A = Read (Option ℕ)} (Ok (Some serial.value)) (Ok parent) = serial.gives in cc) in
          subst (λ p. (word ≡ parent_word p) × IsParent p) parent_is (number.spelled, number.small)
    ]

times_ok : (words : List (List ℕ)) (times : ℕ × ℕ × ℕ) → times_of words ≡ Ok times
    → (words ≡ decimal times.0 ∷ decimal times.1 ∷ decimal times.2 ∷ []) × (1 ≤ times.0) × (times.0 ≤ 60000) × (1 ≤ times.1) × (times.1 ≤ 60000) × (times.2 ≤ 8)
times_ok words times h =
    let timeout = bind_ok (next_number 1 60000 words) _ times h in
    let age = bind_ok (next_number 1 60000 timeout.value.1) _ times timeout.gives in
    let rounds = bind_ok (next_number 0 8 age.value.1) _ times age.gives in
    let done = bind_ok (none_left rounds.value.1) _ times rounds.gives in
    let e : ◌≡◌ {A = ℕ × ℕ × ℕ} (timeout.value.0, age.value.0, rounds.value.0) times = cc in
    let a = next_number_ok 1 60000 words timeout.value timeout.was in
    let b = next_number_ok 1 60000 timeout.value.1 age.value age.was in
    let c = next_number_ok 0 8 age.value.1 rounds.value rounds.was in
    subst (λ (t : ℕ × ℕ × ℕ). (words ≡ decimal t.0 ∷ decimal t.1 ∷ decimal t.2 ∷ []) × (1 ≤ t.0) × (t.0 ≤ 60000) × (1 ≤ t.1) × (t.1 ≤ 60000) × (t.2 ≤ 8)) e (
      a.is ∙ ap (λ r. decimal timeout.value.0 ∷ r) (b.is ∙ ap (λ r. decimal age.value.0 ∷ r) (c.is ∙ ap (λ r. decimal rounds.value.0 ∷ r) (none_ok _ _ done.was))),
      a.from,
      a.to,
      b.from,
      b.to,
      c.to,
    )

header_ok : (words : List (List ℕ)) (l : ScriptLine) → header_line words ≡ Ok l → Says (codes "gevacq" ∷ words) l
header_ok words l h =
    let version = bind_ok (next_number 1 2 words) _ l (refused_ok Header (header_fields words) l h) in
    let p = bind_ok (next_number 528 (most_p version.value.0) version.value.1) _ l version.gives in
    let window = bind_ok (next_number 1 4 p.value.1) _ l p.gives in
    let times = bind_ok (times_of window.value.1) _ l window.gives in
    let v = next_number_ok 1 2 words version.value version.was in
    let a = next_number_ok 528 (most_p version.value.0) version.value.1 p.value p.was in
    let b = next_number_ok 1 4 p.value.1 window.value window.was in
    let c = times_ok window.value.1 times.value times.was in
    says _ _ l times.gives
    (record {
      same =
          ap (λ r. codes "gevacq" ∷ r)
          (v.is ∙ ap (λ r. decimal version.value.0 ∷ r) (a.is ∙ ap (λ r. decimal p.value.0 ∷ r) (b.is ∙ ap (λ r. decimal window.value.0 ∷ r) c.0)));
      is_line = λ _. record {
        version_from = v.from;
        version_to = v.to;
        p_from = a.from;
        p_to = a.to;
        window_from = b.from;
        window_to = b.to;
        timeout_from = c.1;
        timeout_to = c.2;
        age_from = c.3;
        age_to = c.4;
        rounds = c.5;
      };
    })

long : (n : ℕ) → n ≤ most_u64 → n < 2 ^ 64
long n h = omega arith

short : (n : ℕ) → n ≤ most_u32 → n < 2 ^ 32
short n h = omega arith

-- a line whose one further word is a number
one_number : (word : List ℕ) (make : ℕ → ScriptLine) (most : ℕ) (words : List (List ℕ)) (l : ScriptLine)
    → ((n : ℕ) → words_in (make n) ≡ word ∷ decimal n ∷ []) → ((n : ℕ) → n ≤ most → IsScriptLine (make n))
    → (number_after most words >>= (λ n. Ok (make n))) ≡ Ok l → Says (word ∷ words) l
one_number word make most words l same is h =
    let number = bind_ok (number_after most words) (λ n. Ok (make n)) l h in
    let found = number_after_ok most words number.value number.was in
    says _ _ l number.gives
    (record { same = ap (λ r. word ∷ r) found.0 ∙ sym (same number.value); is_line = λ _. is number.value found.1 })

-- a line whose one further word is a buffer id
one_id : (word : List ℕ) (make : ℕ → ℕ → ScriptLine) (words : List (List ℕ)) (l : ScriptLine)
    → ((i g : ℕ) → words_in (make i g) ≡ word ∷ id_word i g ∷ []) → ((i g : ℕ) → IsId i g → IsScriptLine (make i g))
    → (id_after words >>= (λ id. Ok (make id.0 id.1))) ≡ Ok l → Says (word ∷ words) l
one_id word make words l same is h =
    let id = bind_ok (id_after words) (λ id. Ok (make id.0 id.1)) l h in
    let found = id_after_ok words id.value id.was in
    says _ _ l id.gives
    (record { same = ap (λ r. word ∷ r) found.0 ∙ sym (same id.value.0 id.value.1); is_line = λ _. is id.value.0 id.value.1 found.1 })

-- a line of its first word alone
alone_ok : (word : List ℕ) (l m : ScriptLine) (words : List (List ℕ)) → words_in l ≡ word ∷ [] → IsScriptLine l → alone l words ≡ Ok m → Says (word ∷ words) m
alone_ok word l m words same is h =
    let done = bind_ok (none_left words) (λ _. Ok l) m h in
    says _ l m done.gives (record { same = ap (λ r. word ∷ r) (none_ok words done.value done.was) ∙ sym same; is_line = λ _. is })

-- the length of a datagram's spelling
datagram_short : (digits : List ℕ) → length (spelling (line.datagram digits)) ≤ 20000 → 2 + length digits ≤ 20000
datagram_short digits h = omega (arith, h)

datagram_ok : (words : List (List ℕ)) (l : ScriptLine) → datagram_line words ≡ Ok l → Says (codes "d" ∷ words) l
datagram_ok words l h =
    let word = bind_ok (one_of words) _ l h in
    let digits = bind_ok (hex_of word.value) _ l word.gives in
    let found = hex_ok word.value digits.value digits.was in
    says _ _ l digits.gives
    (record {
      same = ap (λ r. codes "d" ∷ r) (one_ok words word.value word.was ∙ ap (λ w. w ∷ []) found.0);
      is_line = λ small. record { hex = found.1; short = datagram_short digits.value small };
    })

buffer_info_ok : (words : List (List ℕ)) (l : ScriptLine) → buffer_info_line words ≡ Ok l → Says (codes "binfo" ∷ words) l
buffer_info_ok words l h =
    let both = bind_ok (two_of words) _ l h in
    let id = bind_ok (id_of both.value.0) _ l both.gives in
    let which = bind_ok (number_in 0 most_u32 both.value.1) _ l id.gives in
    let a = id_ok both.value.0 id.value id.was in
    let b = number_ok 0 most_u32 both.value.1 which.value which.was in
    says _ _ l which.gives
    (record {
      same =
          ap (λ r. codes "binfo" ∷ r)
          (two_ok words both.value both.was ∙ ap (λ w. w ∷ both.value.1 ∷ []) a.spelled ∙ ap (λ w. id_word id.value.0 id.value.1 ∷ w ∷ []) b.spelled);
      is_line = λ _. (a.is, short which.value b.to);
    })

open_child_ok : (words : List (List ℕ)) (l : ScriptLine) → open_child_line words ≡ Ok l → Says (codes "open" ∷ words) l
open_child_ok words l h =
    let both = bind_ok (two_of words) _ l h in
    let parent = bind_ok (parent_of both.value.0) _ l both.gives in
    let index = bind_ok (number_in 0 most_u32 both.value.1) _ l parent.gives in
    let a = parent_ok both.value.0 parent.value parent.was in
    let b = number_ok 0 most_u32 both.value.1 index.value index.was in
    says _ _ l index.gives
    (record {
      same =
          ap (λ r. codes "open" ∷ r)
          (two_ok words both.value both.was ∙ ap (λ w. w ∷ both.value.1 ∷ []) a.0 ∙ ap (λ w. parent_word parent.value ∷ w ∷ []) b.spelled);
      is_line = λ _. (a.1, short index.value b.to);
    })

-- the length of a command's spelling
command_short : (peer : ℕ) (digits : List ℕ) → length (spelling (line.command peer digits)) ≤ 20000 → 3 + length (decimal peer) + length digits ≤ 20000
command_short peer digits h = omega (arith, length-append (decimal peer) (32 ∷ digits), h)

command_ok : (words : List (List ℕ)) (l : ScriptLine) → command_line words ≡ Ok l → Says (codes "c" ∷ words) l
command_ok words l h =
    let both = bind_ok (two_of words) _ l h in
    let peer = bind_ok (number_in 1 65535 both.value.0) _ l both.gives in
    let digits = bind_ok (hex_of both.value.1) _ l peer.gives in
    let a = number_ok 1 65535 both.value.0 peer.value peer.was in
    let b = hex_ok both.value.1 digits.value digits.was in
    says _ _ l digits.gives
    (record {
      same =
          ap (λ r. codes "c" ∷ r)
          (two_ok words both.value both.was ∙ ap (λ w. w ∷ both.value.1 ∷ []) a.spelled ∙ ap (λ w. decimal peer.value ∷ w ∷ []) b.0);
      is_line = λ small. record {
        peer_from = a.from;
        peer_to = a.to;
        hex = b.1;
        short = command_short peer.value digits.value small;
      };
    })

camera_header_ok : (words : List (List ℕ)) (l : ScriptLine) → camera_header_line words ≡ Ok l → Says (codes "gevacq-camera" ∷ words) l
camera_header_ok words l h =
    let one = bind_ok (after_word (codes "1") words) _ l (refused_ok Header (camera_header_fields words) l h) in
    let done = bind_ok (none_left one.value) (λ _. Ok line.camera_header) l one.gives in
    says _ line.camera_header l done.gives
    (record {
      same =
          ap (λ r. codes "gevacq-camera" ∷ r)
          (after_word_ok (codes "1") words one.value one.was ∙ ap (λ r. codes "1" ∷ r) (none_ok one.value done.value done.was));
      is_line = λ _. tt;
    })

-- the word of an act that names no place
abbrev IsAlone : List ℕ → Act → Type 0
IsAlone word found = (word ≡ act_word found) × TakesPlace found None

-- the word of an act on a place
abbrev IsAtPlace : List ℕ → Act → Type 0
IsAtPlace word found = (word ≡ act_word found) × ((place : ℕ) → place ≤ 14 → TakesPlace found (Some place))

are_alone : AllRows IsAlone acts_alone
are_alone = ((refl, tt), ((refl, tt), ((refl, tt), ((refl, tt), ((refl, tt), tt)))))

are_at_place : AllRows IsAtPlace acts_at_place
are_at_place = ((refl, λ place h. h), ((refl, λ place h. h), ((refl, λ place h. h), ((refl, λ place h. h), tt))))

step_alone_ok : (actor act : List ℕ) (l : ScriptLine) → step_alone actor act ≡ Ok l → Says (codes "step" ∷ actor ∷ act ∷ []) l
step_alone_ok actor act l h =
    let found = bind_ok (row_of acts_alone act) _ l h in
    let number = bind_ok (number_in 1 4 actor) _ l found.gives in
    let a = row_ok IsAlone acts_alone act found.value are_alone found.was in
    let b = number_ok 1 4 actor number.value number.was in
    says _ _ l number.gives
    (record {
      same = ap (λ w. codes "step" ∷ w ∷ act ∷ []) b.spelled ∙ ap (λ w. codes "step" ∷ decimal number.value ∷ w ∷ []) a.0;
      is_line = λ _. record { actor_from = b.from; actor_to = b.to; takes = a.1 };
    })

step_at_place_ok : (actor act place : List ℕ) (l : ScriptLine) → step_at_place actor act place ≡ Ok l → Says (codes "step" ∷ actor ∷ act ∷ place ∷ []) l
step_at_place_ok actor act place l h =
    let found = bind_ok (row_of acts_at_place act) _ l h in
    let number = bind_ok (number_in 1 4 actor) _ l found.gives in
    let at = bind_ok (number_in 0 14 place) _ l number.gives in
    let a = row_ok IsAtPlace acts_at_place act found.value are_at_place found.was in
    let b = number_ok 1 4 actor number.value number.was in
    let c = number_ok 0 14 place at.value at.was in
    says _ _ l at.gives
    (record {
      same =
          ap (λ w. codes "step" ∷ w ∷ act ∷ place ∷ []) b.spelled
          ∙ ap (λ w. codes "step" ∷ decimal number.value ∷ w ∷ place ∷ []) a.0
          ∙ ap (λ w. codes "step" ∷ decimal number.value ∷ act_word found.value ∷ w ∷ []) c.spelled;
      is_line = λ _. record { actor_from = b.from; actor_to = b.to; takes = a.1 at.value c.to };
    })

step_of_ok : (actor act : List ℕ) (words : List (List ℕ)) (l : ScriptLine) → step_of actor act words ≡ Ok l → Says (codes "step" ∷ actor ∷ act ∷ words) l
step_of_ok actor act [] l h = step_alone_ok actor act l h
step_of_ok actor act (place ∷ words) l h =
    let done = bind_ok (none_left words) _ l h in
    subst (λ r. Says (codes "step" ∷ actor ∷ act ∷ place ∷ r) l) (sym (none_ok words done.value done.was)) (step_at_place_ok actor act place l done.gives)

step_ok : (words : List (List ℕ)) (l : ScriptLine) → step_line words ≡ Ok l → Says (codes "step" ∷ words) l
step_ok words l h =
    let actor = bind_ok (next_of words) _ l h in
    let act = bind_ok (next_of actor.value.1) _ l actor.gives in
    let same : words ≡ actor.value.0 ∷ act.value.0 ∷ act.value.1 =
    next_ok words actor.value actor.was ∙ ap (λ r. actor.value.0 ∷ r) (next_ok actor.value.1 act.value act.was) in
    subst (λ r. Says (codes "step" ∷ r) l) (sym same) (step_of_ok actor.value.0 act.value.0 act.value.1 l act.gives)

-- the word of a name
abbrev name_word : Name → List ℕ
name_word name.Header = codes "gevacq"
name_word name.Announce = codes "announce"
name_word name.Queue = codes "queue"
name_word name.Revoke = codes "revoke"
name_word name.Flush = codes "flush"
name_word name.Start = codes "start"
name_word name.Stop = codes "stop"
name_word name.Tick = codes "t"
name_word name.Datagram = codes "d"
name_word name.Take = codes "take"
name_word name.Kill = codes "kill"
name_word name.EventFlush = codes "event-flush"
name_word name.Info = codes "info"
name_word name.BufferInfo = codes "binfo"
name_word name.OpenChild = codes "open"
name_word name.CloseAll = codes "close"
name_word name.Step = codes "step"
name_word name.Mode = codes "mode"
name_word name.End = codes "end"
name_word name.CameraHeader = codes "gevacq-camera"
name_word name.Command = codes "c"
name_word name.Frame = codes "frame"

are_names : AllRows (λ word found. word ≡ name_word found) names
are_names =
    (refl, (refl, (refl, (refl, (refl, (refl, (refl, (refl, (refl, (refl, (refl, (refl, (refl, (refl, (refl, (refl, (refl, (refl, (refl, (refl, (refl, (refl, tt))))))))))))))))))))))

named_ok : (found : Name) (words : List (List ℕ)) (l : ScriptLine) → line_named found words ≡ Ok l → Says (name_word found ∷ words) l
named_ok name.Header words l h = header_ok words l h
named_ok name.Announce words l h = one_number (codes "announce") (λ n. line.announce n) most_u64 words l (λ n. refl) long h
named_ok name.Queue words l h = one_id (codes "queue") (λ i g. line.queue i g) words l (λ i g. refl) (λ i g is. is) h
named_ok name.Revoke words l h = one_id (codes "revoke") (λ i g. line.revoke i g) words l (λ i g. refl) (λ i g is. is) h
named_ok name.Flush words l h = one_number (codes "flush") (λ n. line.flush n) most_u32 words l (λ n. refl) short h
named_ok name.Start words l h = alone_ok (codes "start") line.start l words refl tt h
named_ok name.Stop words l h = one_number (codes "stop") (λ n. line.stop n) most_u32 words l (λ n. refl) short h
named_ok name.Tick words l h = one_number (codes "t") (λ n. line.tick n) most_u64 words l (λ n. refl) long h
named_ok name.Datagram words l h = datagram_ok words l h
named_ok name.Take words l h = alone_ok (codes "take") line.take l words refl tt h
named_ok name.Kill words l h = alone_ok (codes "kill") line.kill l words refl tt h
named_ok name.EventFlush words l h = alone_ok (codes "event-flush") line.event_flush l words refl tt h
named_ok name.Info words l h = one_number (codes "info") (λ n. line.info n) most_u32 words l (λ n. refl) short h
named_ok name.BufferInfo words l h = buffer_info_ok words l h
named_ok name.OpenChild words l h = open_child_ok words l h
named_ok name.CloseAll words l h = one_number (codes "close") (λ n. line.close_all n) most_u64 words l (λ n. refl) long h
named_ok name.Step words l h = step_ok words l h
named_ok name.Mode words l h = one_number (codes "mode") (λ n. line.mode n) 2 words l (λ n. refl) (λ n few. few) h
named_ok name.End words l h = alone_ok (codes "end") line.end_of_script l words refl tt h
named_ok name.CameraHeader words l h = camera_header_ok words l h
named_ok name.Command words l h = command_ok words l h
named_ok name.Frame words l h = alone_ok (codes "frame") line.frame l words refl tt h

words_ok : (words : List (List ℕ)) (l : ScriptLine) → line_of_words words ≡ Ok l → Says words l
words_ok words l h =
    let word = bind_ok (next_of words) _ l h in
    let found = bind_ok (row_of names word.value.0) _ l word.gives in
    let same : words ≡ name_word found.value ∷ word.value.1 =
    next_ok words word.value word.was
    ∙ ap (λ w. w ∷ word.value.1) (row_ok (λ w n. w ≡ name_word n) names word.value.0 found.value are_names found.was) in
    subst (λ r. Says r l) (sym same) (named_ok found.value word.value.1 l found.gives)

pub unspelled : (bytes : List ℕ) (l : ScriptLine) → length bytes ≤ 20000 → line_of bytes ≡ Ok l → Spells bytes l
unspelled bytes l small h =
    let found = words_ok (parts_of 32 bytes) l h in
    let same : bytes ≡ spelling l = sym (join_with_byte-slice_split 32 bytes) ∙ ap (join_with_byte 32) found.same in
    record { is_line = found.is_line (subst (λ b. length b ≤ 20000) same small); spelled = same }
