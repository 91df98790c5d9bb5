-- What a fill does to a whole pass.
use Rattle.std.proofs.Common.{◌≡◌, ℕ, ◌<◌, ◌≤◌, true, false, List, ◌∷◌, ◌++◌, Some, refl, sym, ap, subst, ◌∙◌, arith}
use Rattle.std.specs.Prelude.{remove}
use Rattle.gev_types.specs.Filling.{Filling}
use Rattle.atomic_table.specs.Seated.{TableId}
use Rattle.atomic_table.specs.Table.{rest}
use Rattle.board_machine.specs.declared.events.Entry.{Entry}
use Rattle.board_machine.specs.declared.events.Event.{Event}
use Rattle.board_machine.specs.declared.events.Event.TheVariants.{Fill}
use Rattle.board_machine.specs.Places.{times, IsPrefix}
use Rattle.board_machine.specs.Machine.{word_at, held, places, InHand}
use Rattle.board_machine.specs.Histories.{After}
use Rattle.board_machine.proofs.Runs.{run_owned, run_in_hand}
use Rattle.board_machine.proofs.Room.{has_room, out_few}
use Rattle.buffer_words.specs.declared.view.View.{View}
use Rattle.buffer_words.specs.Told.{Grew, Entered, Waited}
use Rattle.buffer_words.specs.Plays.{Seated, IsFront, HoldsBuffer}
use Rattle.buffer_words.specs.Passes.{Token, slot_of, IsDown, Enters, SameHands, IsPass}
use Rattle.buffer_words.specs.Tries.{LostTo}
use Rattle.buffer_words.specs.Output.{ReadsOut, RefusesFill, FillsOut}
use Rattle.buffer_words.specs.Handing.{DidFill}
use Rattle.buffer_words.proofs.Turns.{slot_here}
use Rattle.buffer_words.proofs.Shelves.{apart_in_hand}
use Rattle.buffer_words.proofs.Carried.{quiet_pass, enters_from}
use Rattle.buffer_words.proofs.Grown.{grows_gives}
use Rattle.buffer_words.proofs.Handling.{token, Turned, turned_pass, looks_same, Gave, gave}
use Rattle.buffer_words.proofs.Waits.{grown_hand, grown_word}
use Rattle.buffer_words.proofs.Retries.{hands_then}
use Rattle.buffer_words.proofs.Fields.{fields_bound}
use Rattle.buffer_words.proofs.Handed.{reads_are}

-- a place in hand after a wait
hand_after : (v w : View) (i : ℕ) → Waited v w → InHand (After v.seen) v.number i → InHand (After w.seen) w.number i
hand_after v w i waited mine = subst (λ h. 1 ≤ times i (held h)) (sym (grown_hand v w waited.grows)) mine

-- the buffer in front is there after a wait
pub still_holds : (me after : Seated) (i : ℕ) → Waited me.0 after.0 → after.1 ≡ me.1 → HoldsBuffer me i → HoldsBuffer after i
still_holds me after i waited same holds = record {
  filling = holds.filling;
  front = same ∙ (holds.front ∙ ap (λ c. (i, Some holds.filling) ∷ rest c) (sym same));
  in_hand = hand_after me.0 after.0 i waited holds.in_hand;
  size = holds.size ∙ ap (λ w. w.size) (sym (grown_word me.0 after.0 i waited.grows holds.in_hand));
}

-- the output has room for a place in hand
pub room_for : (me mid : Seated) (n i : ℕ) → ReadsOut me n mid → n < 1152921504606846976 → InHand (After me.0.seen) me.0.number i → n < 72057594037927936
room_for me mid n i told small mine =
    let b = After mid.0.seen in
    let owned = run_owned mid.0.seen told.waited.run in
    let now : InHand b mid.0.number i = hand_after me.0 mid.0 i told.waited mine in
    let room = has_room 15 i (places b.out) (out_few b owned) (run_in_hand mid.0.seen mid.0.number i told.waited.run now) (apart_in_hand b mid.0.number i owned now).out in
    fields_bound n 14 (places b.out) (reads_are me mid n told small) (omega (arith, room))

-- a fill after its load
pub fill_done : (me mid after : Seated) (loaded i : ℕ) → ReadsOut me loaded mid → FillsOut mid i after → FillsOut me i after
fill_done me mid after loaded i first second = record {
  filling = second.filling;
  front = sym first.slots ∙ (second.front ∙ ap (λ c. (i, Some second.filling) ∷ rest c) first.slots);
  gives = grows_gives me mid after (Fill i second.filling true) first.waited.grows first.slots second.gives;
}

-- what stood in front before the slots were turned
was_down : (s : Token) (table : TableId) (me new : Seated) (order : List ℕ) (i : ℕ) (f : Filling) → token table me ≡ s → Turned me new order → IsFront new i (Some f) → IsDown s i f
was_down s table me new order i f view turned front =
    subst (λ t. IsDown t i f) view (sym (turned.slots i) ∙ (ap (λ c. slot_of i c) front ∙ slot_here i (Some f) (rest new.1)))

turned_enters : (s : Token) (table table' : TableId) (me new after : Seated) (event : Event) → token table me ≡ s → new.0 ≡ me.0 → table' ≡ table → Entered new.0 event after.0 → Enters s event (token table' after)
turned_enters s table table' me new after event view same same_table e =
    subst (λ t. Enters t event (token table' after)) view
    (enters_from (token table me) (token table' after) new.0 after.0 event e same_table (ap (λ (v : View). v.number) same) (ap (λ (v : View). v.seen) same) refl refl)

turned_hands : (table table' : TableId) (me new : Seated) (order : List ℕ) → Turned me new order → SameHands (token table me) (token table' new)
turned_hands table table' me new order turned i = record {
  slot = turned.slots i;
  buffer = λ _. record {
    size = ap (λ (v : View). (word_at (After v.seen) i).size) turned.view;
    generation = ap (λ (v : View). (word_at (After v.seen) i).generation) turned.view;
  };
}

-- the buffer went into the output
pub filled_gave : (s : Token) (table table' : TableId) (order turns rest_of : List ℕ) (me new after : Seated) (i : ℕ) → token table me ≡ s → IsPass order me.0 me.1 → Turned me new turns → FillsOut new i after → rest_of ≡ remove turns 0
    → Gave s table' after i rest_of
filled_gave s table table' order turns rest_of me new after i view is turned told e =
    gave s table table' order turns rest_of me new after (Fill i told.filling true) i view is turned (record { slot = Some told.filling; front = told.front }) told.gives (λ b. refl) e

pub did_fill : (s : Token) (table table' : TableId) (order turns rest_of : List ℕ) (me new after : Seated) (i : ℕ) → token table me ≡ s → IsPass order me.0 me.1 → Turned me new turns → FillsOut new i after → rest_of ≡ remove turns 0 → table' ≡ table
    → DidFill i true s (token table' after)
did_fill s table table' order turns rest_of me new after i view is turned told e same_table = record {
  filling = told.filling;
  was = was_down s table me new turns i told.filling view turned told.front;
  entry = turned_enters s table table' me new after (Fill i told.filling true) view turned.view same_table told.gives.entered;
  hands = (filled_gave s table table' order turns rest_of me new after i view is turned told e).has;
}

-- the close mark stood
pub refused_pass : (order turns : List ℕ) (me new after : Seated) (i : ℕ) → IsPass order me.0 me.1 → Turned me new turns → RefusesFill new i after → IsPass turns after.0 after.1
refused_pass order turns me new after i is turned told = quiet_pass turns new after (Fill i told.filling false) (turned_pass order turns me new is turned) told.looks (λ b. refl)

pub refused_fill : (s : Token) (table table' : TableId) (order turns : List ℕ) (me new after : Seated) (i : ℕ) → token table me ≡ s → IsPass order me.0 me.1 → Turned me new turns → RefusesFill new i after → table' ≡ table
    → DidFill i false s (token table' after)
refused_fill s table table' order turns me new after i view is turned told same_table = record {
  filling = told.filling;
  was = was_down s table me new turns i told.filling view turned told.front;
  entry = turned_enters s table table' me new after (Fill i told.filling false) view turned.view same_table told.looks.entered;
  hands = subst (λ t. SameHands t (token table' after)) view
      (hands_then (token table me) (token table' new) (token table' after) (turned_hands table table' me new turns turned)
      (looks_same table' table' new after (Fill i told.filling false) (turned_pass order turns me new is turned).carries told.looks));
}

-- a try that was lost after the slots were turned
pub turned_lost : (Sees : List Entry → ℕ → Type 0) (s t : Token) (table table' : TableId) (me new : Seated) (turns : List ℕ) (loaded found : ℕ) → token table me ≡ s → Turned me new turns → table' ≡ table → LostTo Sees (token table' new) loaded found t → LostTo Sees s loaded found t
turned_lost Sees s t table table' me new turns loaded found view turned same_table lost = subst (λ r. LostTo Sees r loaded found t) view (record {
  grows = record {
    table = lost.grows.table ∙ same_table;
    number = lost.grows.number ∙ ap (λ (v : View). v.number) turned.view;
    between = lost.grows.between;
    seen = lost.grows.seen ∙ ap (λ (v : View). v.seen ++ lost.grows.between) turned.view;
    grew = subst (λ (v : View). Grew v.number v.seen lost.grows.between) turned.view lost.grows.grew;
  };
  hands = hands_then (token table me) (token table' new) t (turned_hands table table' me new turns turned) lost.hands;
  differ = lost.differ;
  first = lost.first;
  later = subst (λ (v : View). IsPrefix v.seen lost.first) turned.view lost.later;
  begins = lost.begins;
  was = lost.was;
  is = lost.is;
})
