-- A wait and then a wait or an entry.
use Rattle.std.proofs.Common.{◌≡◌, ℕ, ◌≤◌, List, [], ◌∷◌, ◌++◌, refl, sym, ap, subst, ◌∙◌, append_assoc, Some}
use Rattle.std.proofs.lemmas.List.{append-nil}
use Rattle.atomic_table.specs.Table.{rest}
use Rattle.board_machine.specs.declared.events.Entry.{Entry}
use Rattle.board_machine.specs.declared.events.Event.{Event}
use Rattle.board_machine.specs.Places.{times}
use Rattle.board_machine.specs.Machine.{word_at, hand_at, held, entry, InHand}
use Rattle.board_machine.specs.Histories.{After, own_of}
use Rattle.board_machine.specs.Laws.{IsAlone}
use Rattle.board_machine.proofs.Runs.{own_of-append}
use Rattle.buffer_words.specs.declared.view.View.{View}
use Rattle.buffer_words.specs.Rule.{Slot}
use Rattle.buffer_words.specs.Told.{Grew, Entered, Grows}
use Rattle.buffer_words.specs.Plays.{Seated, Reads, LooksAt, TakesUp, GivesBack, TakesBuffer}

pub grew_then : (n : ℕ) (s a b : List Entry) → Grew n s a → Grew n (s ++ a) b → Grew n s (a ++ b)
grew_then n s a b first second = record {
  others = own_of-append n a b ∙ (ap (λ l. l ++ own_of n b) first.others ∙ second.others);
  alone = λ alone. let none : a ≡ [] = first.alone alone in
      let still : IsAlone (After (s ++ a)) n = subst (λ l. IsAlone (After l) n) (sym (ap (λ l. s ++ l) none ∙ append-nil s)) alone in
      ap (λ l. l ++ b) none ∙ second.alone still;
  hand = ap (λ l. hand_at (After l) n) (sym (append_assoc s a b)) ∙ (second.hand ∙ first.hand);
  words = λ i mine. ap (λ l. word_at (After l) i) (sym (append_assoc s a b))
      ∙ (second.words i (subst (λ is. 1 ≤ times i (held is)) (sym first.hand) mine) ∙ first.words i mine);
}

-- what was seen in between, by its number and list
moved : (n m : ℕ) (s t b : List Entry) → m ≡ n → t ≡ s → Grew m t b → Grew n s b
moved n m s t b number seen grew = subst (λ k. Grew k s b) number (subst (λ l. Grew m l b) seen grew)

-- a pass that saw nothing more
pub grows_none : (v : View) → Grows v v
grows_none v = record {
  number = refl;
  between = [];
  seen = sym (append-nil v.seen);
  grew = record {
    others = refl;
    alone = λ _. refl;
    hand = ap (λ l. hand_at (After l) v.number) (append-nil v.seen);
    words = λ i mine. ap (λ l. word_at (After l) i) (append-nil v.seen);
  };
}

pub grows_grows : (u v w : View) → Grows u v → Grows v w → Grows u w
grows_grows u v w first second = record {
  number = second.number ∙ first.number;
  between = first.between ++ second.between;
  seen = second.seen ∙ (ap (λ l. l ++ second.between) first.seen ∙ append_assoc u.seen first.between second.between);
  grew = grew_then u.number u.seen first.between second.between first.grew (moved u.number v.number (u.seen ++ first.between) v.seen second.between first.number first.seen second.grew);
}

pub grows_enters : (u v w : View) (event : Event) → Grows u v → Entered v event w → Entered u event w
grows_enters u v w event first second = record {
  number = second.number ∙ first.number;
  stage = second.stage;
  run = second.run;
  between = first.between ++ second.between;
  seen = second.seen ∙ (ap (λ l. (l ++ second.between) ++ entry v.number event ∷ []) first.seen
      ∙ (ap (λ l. l ++ entry v.number event ∷ []) (append_assoc u.seen first.between second.between)
      ∙ ap (λ n. (u.seen ++ (first.between ++ second.between)) ++ entry n event ∷ []) first.number));
  grew = grew_then u.number u.seen first.between second.between first.grew (moved u.number v.number (u.seen ++ first.between) v.seen second.between first.number first.seen second.grew);
}

-- the same with slots that stayed
pub grows_looks : (u v w : Seated) (event : Event) → Grows u.0 v.0 → v.1 ≡ u.1 → LooksAt v event w → LooksAt u event w
grows_looks u v w event first same second = record { entered = grows_enters u.0 v.0 w.0 event first second.entered; slots = second.slots ∙ same }

pub grows_takes : (u v w : Seated) (event : Event) (place : ℕ) (slot : Slot) → Grows u.0 v.0 → v.1 ≡ u.1 → TakesUp v event place slot w → TakesUp u event place slot w
grows_takes u v w event place slot first same second = record {
  entered = grows_enters u.0 v.0 w.0 event first second.entered;
  slots = second.slots ∙ ap (λ c. (place, slot) ∷ c) same;
}

pub grows_gives : (u v w : Seated) (event : Event) → Grows u.0 v.0 → v.1 ≡ u.1 → GivesBack v event w → GivesBack u event w
grows_gives u v w event first same second = record { entered = grows_enters u.0 v.0 w.0 event first second.entered; slots = second.slots ∙ ap (λ c. rest c) same }

pub reads_looks : (u v w : Seated) (place found : ℕ) (event : Event) → Reads u place found v → LooksAt v event w → LooksAt u event w
reads_looks u v w place found event first second = grows_looks u v w event first.waited.grows first.slots second

pub reads_takes : (u v w : Seated) (place found : ℕ) (event : Event) (slot : Slot) → Reads u place found v → TakesUp v event place slot w → TakesUp u event place slot w
reads_takes u v w place found event slot first second = grows_takes u v w event place slot first.waited.grows first.slots second

pub reads_buffer : (u v w : Seated) (place found : ℕ) (event : Event) → Reads u place found v → TakesBuffer v event place w → TakesBuffer u event place w
reads_buffer u v w place found event first second = record { filling = second.filling; takes = reads_takes u v w place found event (Some second.filling) first second.takes; size = second.size }

pub reads_gives : (u v w : Seated) (place found : ℕ) (event : Event) → Reads u place found v → GivesBack v event w → GivesBack u event w
reads_gives u v w place found event first second = grows_gives u v w event first.waited.grows first.slots second

-- a place in hand is still in hand after a wait, and its word is the one that was read
pub still_in_hand : (u v : Seated) (place found : ℕ) → Reads u place found v → InHand (After u.0.seen) u.0.number place → InHand (After v.0.seen) v.0.number place
still_in_hand u v place found told mine =
    subst (λ k. InHand (After v.0.seen) k place) (sym told.waited.grows.number)
    (subst (λ l. InHand (After l) u.0.number place) (sym told.waited.grows.seen) (subst (λ is. 1 ≤ times place (held is)) (sym told.waited.grows.grew.hand) mine))

pub still_word : (u v : Seated) (place found : ℕ) → Reads u place found v → InHand (After u.0.seen) u.0.number place → word_at (After v.0.seen) place ≡ word_at (After u.0.seen) place
still_word u v place found told mine = ap (λ l. word_at (After l) place) told.waited.grows.seen ∙ told.waited.grows.grew.words place mine
