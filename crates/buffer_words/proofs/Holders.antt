-- The holder of a place reads its word, and then gives it back.
use Rattle.std.proofs.Common.{◌≡◌, ◌≢◌, inl, inr, Ok, Err, ℕ, ◌+◌, ◌-◌, ◌<◌, ◌≤◌, sym, ap, subst, ◌∙◌, arith}
use mathlib.Core.Option as opt
use Rattle.atomic_table.specs.Table.{step, Allows, rest}
use Rattle.gentl_types.specs.declared.word.Word.{Word}
use Rattle.gentl_types.specs.declared.word.State.TheVariants.{Vacant, Held, Away}
use Rattle.board_machine.specs.Machine.{word_at, InHand, with_state, IsHeldAs, CanEnrol}
use Rattle.board_machine.specs.Histories.{Run, After}
use Rattle.board_machine.specs.Laws.{Renews}
use Rattle.board_machine.specs.declared.events.Event.TheVariants.{Grab, Enrol}
use Rattle.board_machine.proofs.Generations.{run_renews}
use Rattle.board_machine.proofs.Counts.{stands_away, hand_tally}
use Rattle.board_machine.proofs.Runs.{run_owned}
use Rattle.buffer_words.specs.Codes.{state_code, code, decode}
use Rattle.buffer_words.specs.Rule.{nothing, Kept}
use Rattle.buffer_words.specs.Plays.{Seated, HasGrown, Reads, LooksAt, TakesUp, TakesBuffer, Loses, HoldsBuffer, HoldsNothing, laid, vacated}
use Rattle.buffer_words.proofs.Decoding.{decoded, laid_code, vacated_code}
use Rattle.buffer_words.proofs.Grown.{still_in_hand, still_word, grows_grows, reads_buffer, reads_looks, reads_takes}
use Rattle.buffer_words.proofs.Later.{StaysOrRises, vacant_run}
use Rattle.buffer_words.proofs.Own.{lays, vacates}

-- the word of a place in hand, as its holder reads it
pub away_read : (u v : Seated) (i found : ℕ) → Reads u i found v → InHand (After u.0.seen) u.0.number i → (word_at (After v.0.seen) i).state ≡ Away
away_read u v i found told mine =
    stands_away (After v.0.seen) i (run_owned v.0.seen told.waited.run) (hand_tally (After v.0.seen) v.0.number i (still_in_hand u v i found told mine))

pub number_read : (u v : Seated) (i found : ℕ) → Reads u i found v → InHand (After u.0.seen) u.0.number i → 2 ≤ found
number_read u v i found told mine =
    let away : state_code (word_at (After v.0.seen) i).state ≡ 2 = ap state_code (away_read u v i found told mine) in
    omega (arith, told.word)

pub lays_read : (slots id i found : ℕ) (u v : Seated) → HoldsBuffer u i → Reads u i found v
    → Allows Kept slots id v i (λ _. found - 1) (laid (step slots i (found - 1) 0 opt.none) v)
lays_read slots id i found u v holds told =
    let word : word_at (After v.0.seen) i ≡ word_at (After u.0.seen) i = still_word u v i found told holds.in_hand in
    let next : code (with_state (word_at (After v.0.seen) i) Held) + 1 ≡ code (word_at (After v.0.seen) i) = laid_code (word_at (After v.0.seen) i) (away_read u v i found told holds.in_hand) in
    let number : found - 1 ≡ code (with_state (word_at (After v.0.seen) i) Held) = omega (arith, next, told.word) in
    lays slots id i (found - 1) v holds.filling (rest u.1) told.waited.stage (told.slots ∙ holds.front) (still_in_hand u v i found told holds.in_hand)
    number (holds.size ∙ ap (λ w. w.size) (sym word))

pub vacates_read : (slots id i found : ℕ) (u v : Seated) → HoldsNothing u i → Reads u i found v
    → Allows Kept slots id v i (λ _. found - 2) (vacated (step slots i (found - 2) 0 opt.none) v)
vacates_read slots id i found u v holds told =
    let next : code (with_state (word_at (After v.0.seen) i) Vacant) + 2 ≡ code (word_at (After v.0.seen) i) = vacated_code (word_at (After v.0.seen) i) (away_read u v i found told holds.in_hand) in
    let number : found - 2 ≡ code (with_state (word_at (After v.0.seen) i) Vacant) = omega (arith, next, told.word) in
    vacates slots id i (found - 2) v (rest u.1) told.waited.stage (told.slots ∙ holds.front) (still_in_hand u v i found told holds.in_hand) number

-- a grab whose exchange found what its load found
pub grab_done : (u v w : Seated) (place g found number : ℕ) (word : Word) → word ≡ decode number → IsHeldAs word g → (IsHeldAs (decode number) g → Reads u place number v)
    → (found ≡ number → TakesBuffer v (Grab place (decode number).generation (Ok tt)) place w) → found ≡ number → TakesBuffer u (Grab place g (Ok tt)) place w
grab_done u v w place g found number word is is_held told takes same =
    let again : IsHeldAs (decode number) g = subst (λ x. IsHeldAs x g) is is_held in
    reads_buffer u v w place number (Grab place g (Ok tt)) (told again) (subst (λ n. TakesBuffer v (Grab place n (Ok tt)) place w) again.1 (takes same))

pub grab_refused : (u v w : Seated) (place g found number : ℕ) (word other : Word) → word ≡ decode number → other ≡ decode found → IsHeldAs word g → (IsHeldAs (decode number) g → Reads u place number v)
    → (found ≢ number → LooksAt v (Grab place (decode number).generation (Err (decode found))) w) → found ≢ number → LooksAt u (Grab place g (Err other)) w
grab_refused u v w place g found number word other is is_other is_held told looks apart =
    let again : IsHeldAs (decode number) g = subst (λ x. IsHeldAs x g) is is_held in
    reads_looks u v w place number (Grab place g (Err other)) (told again)
    (subst (λ x. LooksAt v (Grab place g (Err x)) w) (sym is_other) (subst (λ n. LooksAt v (Grab place n (Err (decode found))) w) again.1 (looks apart)))

-- an enrol whose exchange found another word than its load
pub enrol_lost : (u v w : Seated) (place found number : ℕ) (word : Word) → word ≡ decode number → CanEnrol word → Reads u place number v → Reads v place found w → found ≢ number → Loses u place w
enrol_lost u v w place found number word is can first second apart = record {
  waited = record { grows = grows_grows u.0 v.0 w.0 first.waited.grows second.waited.grows; stage = second.waited.stage; run = second.waited.run };
  slots = second.slots ∙ first.slots;
  later = go (subst (λ l. StaysOrRises (word_at (After v.0.seen) place) (word_at (After l) place)) (sym second.waited.grows.seen)
      (vacant_run v.0.seen second.waited.grows.between place (subst (λ l. Run l) second.waited.grows.seen second.waited.run) empty));
  bound = ((run_owned w.0.seen second.waited.run).words place).generation;
}
  where
    empty : (word_at (After v.0.seen) place).state ≡ Vacant
    empty = ap (λ x. x.state) (sym (decoded number (word_at (After v.0.seen) place) ((run_owned v.0.seen first.waited.run).words place) first.word)) ∙ (ap (λ x. x.state) (sym is) ∙ can.0)

    before : (word_at (After u.0.seen) place).generation ≤ (word_at (After v.0.seen) place).generation
    before = (subst (λ l. Renews (word_at (After u.0.seen) place) (word_at (After l) place)) (sym first.waited.grows.seen)
        (run_renews u.0.seen first.waited.grows.between place (subst (λ l. Run l) first.waited.grows.seen first.waited.run))).rises

    go : StaysOrRises (word_at (After v.0.seen) place) (word_at (After w.0.seen) place) → (word_at (After u.0.seen) place).generation < (word_at (After w.0.seen) place).generation
    go (inl same) = absurd (apart (second.word ∙ (ap code same ∙ sym first.word)))
    go (inr more) = omega (arith, more, before)

pub enrol_done : (u v w : Seated) (place size found number : ℕ) (word : Word) → word ≡ decode number → CanEnrol word → (CanEnrol (decode number) → Reads u place number v)
    → (found ≡ number → TakesUp v (Enrol place size (Ok ((decode number).generation + 1))) place nothing w) → found ≡ number
    → TakesUp u (Enrol place size (Ok (word.generation + 1))) place nothing w
enrol_done u v w place size found number word is can told takes same =
    let again : CanEnrol (decode number) = subst (λ x. CanEnrol x) is can in
    reads_takes u v w place number (Enrol place size (Ok (word.generation + 1))) nothing (told again)
    (subst (λ (x : Word). TakesUp v (Enrol place size (Ok (x.generation + 1))) place nothing w) (sym is) (takes same))

-- a try that was lost, and then what the passes so far have seen
pub loses_grown : (u v w : Seated) (place : ℕ) → HasGrown u v → Loses v place w → HasGrown u w
loses_grown u v w place first second = record { grows = grows_grows u.0 v.0 w.0 first.grows second.waited.grows; slots = second.slots ∙ first.slots; idle = second.waited.stage }
