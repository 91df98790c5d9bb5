-- What a sweep does to a whole pass.
use Rattle.std.proofs.Common.{◌≡◌, ◌≢◌, ◌⊎◌, ℕ, ◌+◌, ◌≤◌, List, [], ◌∷◌, ◌++◌, length, Some, refl, sym, ap, subst, get_or, ◌∙◌, inl, inr, arith}
use Rattle.std.proofs.lemmas.List.{get_or-set_same, length-append}
use Rattle.std.proofs.lemmas.Bool.{cases_eq}
use Rattle.gev_types.specs.Filling.{Filling}
use Rattle.atomic_table.specs.Seated.{TableId}
use Rattle.board_machine.specs.declared.events.Event.{Event}
use Rattle.board_machine.specs.Places.{same, times, put_all}
use Rattle.board_machine.specs.Machine.{Board, word_at, hand_at, hand, held, no_actor, entry, next, set_hand}
use Rattle.board_machine.specs.Histories.{After}
use Rattle.board_machine.proofs.Places.{same_self, times-append, times-put_all}
use Rattle.board_machine.proofs.Boards.{actor_within}
use Rattle.buffer_words.specs.Rule.{Slot, Slots}
use Rattle.buffer_words.specs.Plays.{Seated}
use Rattle.buffer_words.specs.Passes.{slot_places, slot_of, IsPass}
use Rattle.buffer_words.specs.Swept.{TakesAll, GetsAll}
use Rattle.buffer_words.proofs.Turns.{slot_none, slot_else, slot_here}
use Rattle.buffer_words.proofs.Carried.{carries_single, carries_after, entered_may, hand_then}
use Rattle.buffer_words.proofs.Handling.{token, same_by, below_of, not_gone, room_of}

places-append : (xs c : Slots) → slot_places (xs ++ c) ≡ slot_places xs ++ slot_places c
places-append [] c = refl
places-append (x ∷ xs) c = ap (λ l. x.0 ∷ l) (places-append xs c)

-- a place among the first slots, and one that isn't
slot_front : (j : ℕ) (y : Slot) (xs c : Slots) → slot_of j xs ≡ Some y → slot_of j (xs ++ c) ≡ Some y
slot_front j y [] c e = absurd (cc)
slot_front j y (x ∷ xs) c e = go (cases_eq j x.0) (λ q. slot_front j y xs c q)
  where
    go : (j ≡ x.0) ⊎ (j ≢ x.0) → (slot_of j xs ≡ Some y → slot_of j (xs ++ c) ≡ Some y) → slot_of j (x ∷ xs ++ c) ≡ Some y
    go (inl q) later =
        let was : slot_of j (x ∷ xs) ≡ Some x.1 = subst (λ m. slot_of m (x ∷ xs) ≡ Some x.1) (sym q) (slot_here x.0 x.1 xs) in
        let now : slot_of j (x ∷ xs ++ c) ≡ Some x.1 = subst (λ m. slot_of m (x ∷ xs ++ c) ≡ Some x.1) (sym q) (slot_here x.0 x.1 (xs ++ c)) in
        now ∙ (sym was ∙ e)
    go (inr ne) later = slot_else j x.0 x.1 (xs ++ c) ne ∙ later (sym (slot_else j x.0 x.1 xs ne) ∙ e)

slot_past : (j : ℕ) (xs c : Slots) → times j (slot_places xs) ≡ 0 → slot_of j (xs ++ c) ≡ slot_of j c
slot_past j [] c none = refl
slot_past j (x ∷ xs) c none = go (cases_eq j x.0) (λ q. slot_past j xs c q)
  where
    go : (j ≡ x.0) ⊎ (j ≢ x.0) → (times j (slot_places xs) ≡ 0 → slot_of j (xs ++ c) ≡ slot_of j c) → slot_of j (x ∷ xs ++ c) ≡ slot_of j c
    go (inl e) later = let one : same j x.0 ≡ 1 = ap (λ m. same j m) (sym e) ∙ same_self j in absurd (omega (arith, none))
    go (inr ne) later = slot_else j x.0 x.1 (xs ++ c) ne ∙ later (omega (arith, none))

-- the event's actor has these places in its hands after it
abbrev pub PutsAll : ℕ → Event → List ℕ → Type 0
PutsAll k event is = (b : Board) → (next b (entry k event)).hands ≡ (set_hand b k (put_all is (hand b k))).hands

-- how often a place stands in the slots after a sweep
swept_times : (me after : Seated) (event : Event) (is : List ℕ) (j : ℕ) → (told : TakesAll me event is after) → times j (slot_places after.1) ≡ times j is + times j (slot_places me.1)
swept_times me after event is j told =
    ap (λ c. times j (slot_places c)) told.slots
    ∙ (ap (λ l. times j l) (places-append told.taken me.1)
    ∙ (times-append j (slot_places told.taken) (slot_places me.1)
    ∙ ap (λ l. times j l + times j (slot_places me.1)) told.places))

pub sweep_pass : (order : List ℕ) (me after : Seated) (event : Event) (is : List ℕ) → IsPass order me.0 me.1 → TakesAll me event is after → PutsAll me.0.number event is → IsPass (is ++ order) after.0 after.1
sweep_pass order me after event is pass told hands = record {
  order = ap (λ l. is ++ l) pass.order
      ∙ (ap (λ l. l ++ slot_places me.1) (sym told.places)
      ∙ (sym (places-append told.taken me.1) ∙ ap (λ c. slot_places c) (sym told.slots)));
  idle = told.entered.stage;
  carries = carries_after me.0 after.0 me.1 after.1 event pass.carries told.entered once sizes;
}
  where
    once : (j : ℕ) → times j (slot_places after.1) ≡ times j (hand (next (After (me.0.seen ++ told.entered.between)) (entry me.0.number event)) me.0.number)
    once j =
        let b = After (me.0.seen ++ told.entered.between) in
        let same_hand : hand_at (next b (entry me.0.number event)) me.0.number ≡ Some (put_all is (hand b me.0.number)) =
        ap (λ hs. get_or hs me.0.number no_actor) (hands b) ∙ get_or-set_same b.hands me.0.number (Some (put_all is (hand b me.0.number))) no_actor (actor_within b me.0.number (entered_may me.0 after.0 event told.entered).actor) in
        omega (arith, swept_times me after event is j told, hand_then me.0 after.0 event me.1 j pass.carries told.entered, ap (λ h. times j (held h)) same_hand, times-put_all j is (hand b me.0.number))

    sizes : (j : ℕ) (f : Filling) → slot_of j after.1 ≡ Some (Some f) → (slot_of j me.1 ≡ Some (Some f)) ⊎ (length f.bytes ≡ (word_at (After after.0.seen) j).size)
    sizes j f e = go (cases_eq (times j is) 0)
      where
        go : (times j is ≡ 0) ⊎ (times j is ≢ 0) → (slot_of j me.1 ≡ Some (Some f)) ⊎ (length f.bytes ≡ (word_at (After after.0.seen) j).size)
        go (inl none) = inl (sym (slot_past j told.taken me.1 (ap (λ l. times j l) told.places ∙ none)) ∙ (ap (λ c. slot_of j c) (sym told.slots) ∙ e))
        go (inr some) =
            let there = told.full j (omega (arith, some)) in
            let now : slot_of j after.1 ≡ Some (Some there.filling) = ap (λ c. slot_of j c) told.slots ∙ slot_front j (Some there.filling) told.taken me.1 there.is in
            let is_f : there.filling ≡ f = cc in
            inr (ap (λ (g : Filling). length g.bytes) (sym is_f) ∙ there.size)

pub sweep_gets : (table table' : TableId) (order : List ℕ) (me after : Seated) (event : Event) (is : List ℕ) → IsPass order me.0 me.1 → TakesAll me event is after → PutsAll me.0.number event is
    → GetsAll is (token table me) (token table' after)
sweep_gets table table' order me after event is pass told hands = record {
  single = λ i. omega (arith, swept_times me after event is i told, single i);
  all = λ i more.
      let there = told.full i more in
      let now : slot_of i after.1 ≡ Some (Some there.filling) = ap (λ c. slot_of i c) told.slots ∙ slot_front i (Some there.filling) told.taken me.1 there.is in
      record {
        below = below_of (is ++ order) after i later (not_gone i after.1 (Some there.filling) now);
        new = slot_none i me.1 (omega (arith, more, swept_times me after event is i told, single i));
        filling = there.filling;
        is = now;
        size = there.size;
      };
  others = λ i none. same_by table table' me me after event i pass.carries refl refl told.entered
      (ap (λ c. slot_of i c) told.slots ∙ slot_past i told.taken me.1 (ap (λ l. times i l) told.places ∙ none));
}
  where
    later : IsPass (is ++ order) after.0 after.1
    later = sweep_pass order me after event is pass told hands

    single : (i : ℕ) → times i (slot_places after.1) ≤ 1
    single = carries_single after.0.number after.0.seen after.1 later.carries

-- there is room for the places of a sweep
pub sweep_room : (order : List ℕ) (me after : Seated) (event : Event) (is : List ℕ) → IsPass order me.0 me.1 → TakesAll me event is after → PutsAll me.0.number event is → length is + length order ≤ 15
sweep_room order me after event is pass told hands = omega (arith, room_of (is ++ order) after.0 after.1 (sweep_pass order me after event is pass told hands), length-append is order)
