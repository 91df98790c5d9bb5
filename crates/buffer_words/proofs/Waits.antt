-- Whole passes that see more and add nothing.
use Rattle.std.proofs.Common.{◌≡◌, ℕ, ◌≤◌, List, sym, ap, subst, ◌∙◌, arith}
use Rattle.atomic_table.specs.Seated.{TableId}
use Rattle.board_machine.specs.Places.{times}
use Rattle.board_machine.specs.Machine.{word_at, hand_at, held, InHand}
use Rattle.board_machine.specs.Histories.{After}
use Rattle.buffer_words.specs.declared.view.View.{View}
use Rattle.buffer_words.specs.Told.{Grows, Waited}
use Rattle.buffer_words.specs.Plays.{Seated}
use Rattle.buffer_words.specs.Passes.{slot_places, slot_of, GrowsTo, SameHands, Carries, IsPass}
use Rattle.buffer_words.proofs.Turns.{slot_some}
use Rattle.buffer_words.proofs.Handling.{token}

-- the hand, and the words of its places, after others' entries
pub grown_hand : (v w : View) → (g : Grows v w) → hand_at (After w.seen) w.number ≡ hand_at (After v.seen) v.number
grown_hand v w g = ap (λ n. hand_at (After w.seen) n) g.number ∙ (ap (λ l. hand_at (After l) v.number) g.seen ∙ g.grew.hand)

pub grown_word : (v w : View) (i : ℕ) → (g : Grows v w) → InHand (After v.seen) v.number i → word_at (After w.seen) i ≡ word_at (After v.seen) i
grown_word v w i g mine = ap (λ l. word_at (After l) i) g.seen ∙ g.grew.words i mine

pub waits_pass : (order : List ℕ) (me after : Seated) → IsPass order me.0 me.1 → Waited me.0 after.0 → after.1 ≡ me.1 → IsPass order after.0 after.1
waits_pass order me after is waited same = record {
  order = is.order ∙ ap (λ c. slot_places c) (sym same);
  idle = waited.stage;
  carries = subst (λ d. Carries after.0.number after.0.seen d) (sym same) (record {
    run = waited.run;
    actor = λ none_now. is.carries.actor (sym (grown_hand me.0 after.0 waited.grows) ∙ none_now);
    once = λ i. is.carries.once i ∙ ap (λ h. times i (held h)) (sym (grown_hand me.0 after.0 waited.grows));
    sizes = λ i f e.
        let some : 1 ≤ times i (slot_places me.1) = slot_some i me.1 (λ q. cc) in
        let mine : InHand (After me.0.seen) me.0.number i = omega (arith, is.carries.once i) in
        is.carries.sizes i f e ∙ ap (λ w. w.size) (sym (grown_word me.0 after.0 i waited.grows mine));
  });
}

pub waits_hands : (table table' : TableId) (order : List ℕ) (me after : Seated) → IsPass order me.0 me.1 → Grows me.0 after.0 → after.1 ≡ me.1 → SameHands (token table me) (token table' after)
waits_hands table table' order me after is grows same i = record {
  slot = ap (λ c. slot_of i c) same;
  buffer = λ some.
      let there : 1 ≤ times i (slot_places me.1) = slot_some i me.1 some in
      let mine : InHand (After me.0.seen) me.0.number i = omega (arith, is.carries.once i) in
      let word : word_at (After after.0.seen) i ≡ word_at (After me.0.seen) i = grown_word me.0 after.0 i grows mine in
      record { size = ap (λ w. w.size) word; generation = ap (λ w. w.generation) word };
}

pub grows_to : (table table' : TableId) (me after : Seated) → table' ≡ table → Grows me.0 after.0 → GrowsTo (token table me) (token table' after)
grows_to table table' me after same grows = record { table = same; number = grows.number; between = grows.between; seen = grows.seen; grew = grows.grew }
