-- Whole passes that part and meet, and whole calls over one lifted buffer.
use Rattle.std.proofs.Common.{◌≡◌, ◌≢◌, ℕ, ◌<◌, List, [], ◌∷◌, ◌++◌, length, Option, Some, None, Ok, refl, sym, ap, subst, ◌∙◌, arith}
use Rattle.gev_types.specs.Filling.{Filling}
use Rattle.atomic_table.specs.Table.{rest}
use Rattle.atomic_table.specs.Seated.{TableId}
use Rattle.board_machine.specs.declared.events.Event.{Event}
use Rattle.board_machine.specs.declared.events.Event.TheVariants as event
use Rattle.board_machine.specs.Places.{times}
use Rattle.board_machine.specs.Machine.{vacant, word_at, hand_at, hand, held, no_actor, empty_hands, entry}
use Rattle.board_machine.specs.Histories.{After}
use Rattle.board_machine.specs.Sizes.{KeepsBuffer}
use Rattle.gentl_types.specs.declared.word.Word.{Word}
use Rattle.board_machine.proofs.Boards.{empty_is_actor}
use Rattle.board_machine.proofs.Others.{new_hand, ended_hand}
use Rattle.board_machine.proofs.Ended.{split_adds}
use Rattle.buffer_words.specs.declared.view.View.{View}
use Rattle.buffer_words.specs.Rule.{Slot, Slots, nothing, idle}
use Rattle.buffer_words.specs.Told.{Entered, Grew}
use Rattle.buffer_words.specs.Plays.{Seated, IsFront, LooksAt, TakesUp}
use Rattle.buffer_words.specs.Passes.{Token, slot_places, slot_of, slot_at, lifted, down, IsDown, size_at, Stays, Enters, SamePlace, Has, IsPass}
use Rattle.buffer_words.proofs.Bits.{no_places}
use Rattle.buffer_words.proofs.Turns.{slot_here}
use Rattle.buffer_words.proofs.Carried.{same_pass, entered_may, entered_board, entered_front, takes_pass}
use Rattle.std.proofs.lemmas.List.{get_or-set_same}
use Rattle.gentl_types.specs.declared.word.State.TheVariants.{Away}
use Rattle.board_machine.proofs.Runs.{run_owned}
use Rattle.buffer_words.proofs.Handling.{token, Turned, turned_pass, changed_pass, changed_has}

pub split_pass : (order : List ℕ) (me after : Seated) (child : ℕ) → IsPass order me.0 me.1 → LooksAt me (event.Split child) after → IsPass order after.0 after.1
split_pass order me after child is told = same_pass order me after (event.Split child) is told (λ b may. new_hand b.hands me.0.number)

pub join_pass : (order : List ℕ) (me after : Seated) (other : ℕ) → IsPass order me.0 me.1 → LooksAt me (event.Join other) after → IsPass order after.0 after.1
join_pass order me after other is told = same_pass order me after (event.Join other) is told (λ b may. ended_hand b me.0.number other may.meets.0)

-- the pass of a new actor
pub newborn_pass : (me after : Seated) (child : ℕ) → LooksAt me (event.Split child) after → IsPass [] (idle child after.0.seen) []
newborn_pass me after child told = record {
  order = refl;
  idle = refl;
  carries = record {
    run = told.entered.run;
    actor = empty_is_actor (After after.0.seen) child empty;
    once = λ i. ap (λ h. times i (held h)) (sym empty);
    sizes = λ i f e. absurd (cc);
  };
}
  where
    empty : hand_at (After after.0.seen) child ≡ empty_hands
    empty = ap (λ b. hand_at b child) (entered_board me.0 after.0 (event.Split child) told.entered)
        ∙ (split_adds (After (me.0.seen ++ told.entered.between)) (entry me.0.number (event.Split child)) child (entered_may me.0 after.0 (event.Split child) told.entered) refl).empty

-- empty hands, as the seat has them
pub no_slots : (c : Slots) → ((i : ℕ) → slot_of i c ≡ None) → c ≡ []
no_slots [] none_there = refl
no_slots (x ∷ c) none_there = let here : slot_of x.0 (x ∷ c) ≡ Some x.1 = slot_here x.0 x.1 c in let gone_here = none_there x.0 in absurd (cc (here, gone_here))

empty_hand : (h : Option (List ℕ)) → h ≢ no_actor → held h ≡ [] → h ≡ empty_hands
empty_hand None actor e = absurd (actor refl)
empty_hand (Some is) actor e = ap (λ l. Some l) e

pub no_hands : (order : List ℕ) (v : View) (c : Slots) → IsPass order v c → c ≡ [] → hand_at (After v.seen) v.number ≡ empty_hands
no_hands order v c is e = empty_hand (hand_at (After v.seen) v.number) is.carries.actor
    (no_places (hand (After v.seen) v.number) (λ i. sym (is.carries.once i) ∙ ap (λ d. times i (slot_places d)) e))

-- the whole of a lift
pub record Lifts (s : Token) (table' : TableId) (after : Seated) (i : ℕ) (f : Filling) (held : List ℕ) : Type 0 where
  pub pass : IsPass held after.0 after.1
  pub stays : Stays s (token table' after)
  pub was : IsDown s i f
  pub size : length f.bytes ≡ size_at s i
  pub has : Has i lifted s (token table' after)

stays_by : (s : Token) (table table' : TableId) (held : List ℕ) (me new after : Seated) (c : Slots) → token table me ≡ s → Turned me new held → after ≡ (new.0, c) → table' ≡ table → Stays s (token table' after)
stays_by s table table' held me new after c view turned e same_table = record {
  table = same_table ∙ ap (λ (t : Token). t.table) view;
  number = ap (λ (m : Seated). m.0.number) e ∙ (ap (λ (v : View). v.number) turned.view ∙ ap (λ (t : Token). t.number) view);
  seen = ap (λ (m : Seated). m.0.seen) e ∙ (ap (λ (v : View). v.seen) turned.view ∙ ap (λ (t : Token). t.seen) view);
}

pub lifts : (s : Token) (table table' : TableId) (order held : List ℕ) (me new after : Seated) (i : ℕ) (f : Filling) → token table me ≡ s → IsPass order me.0 me.1 → Turned me new held → IsFront new i (Some f)
    → after ≡ (new.0, (i, nothing) ∷ rest new.1) → table' ≡ table → Lifts s table' after i f held
lifts s table table' order held me new after i f view is turned front e same_table = record {
  pass = changed_pass held new after i (Some f) nothing (turned_pass order held me new is turned) front e (λ g q. absurd (cc));
  stays = stays_by s table table' held me new after ((i, nothing) ∷ rest new.1) view turned e same_table;
  was = ap (λ t. slot_at t i) (sym view) ∙ there;
  size = is.carries.sizes i f there ∙ ap (λ t. size_at t i) view;
  has = changed_has s table table' held me new after i (Some f) nothing view turned front e;
}
  where
    there : slot_of i me.1 ≡ Some (Some f)
    there = sym (turned.slots i) ∙ (ap (λ c. slot_of i c) front ∙ slot_here i (Some f) (rest new.1))

-- the whole of a set-down
pub record SetsDown (s : Token) (table' : TableId) (after : Seated) (i : ℕ) (f : Filling) (held : List ℕ) : Type 0 where
  pub pass : IsPass held after.0 after.1
  pub stays : Stays s (token table' after)
  pub has : Has i (down f) s (token table' after)

pub sets_down : (s : Token) (table table' : TableId) (order held : List ℕ) (me new after : Seated) (i : ℕ) (f : Filling) → token table me ≡ s → IsPass order me.0 me.1 → Turned me new held → IsFront new i nothing
    → length f.bytes ≡ size_at s i → after ≡ (new.0, (i, Some f) ∷ rest new.1) → table' ≡ table → SetsDown s table' after i f held
sets_down s table table' order held me new after i f view is turned front size e same_table = record {
  pass = changed_pass held new after i nothing (Some f) (turned_pass order held me new is turned) front e sized;
  stays = stays_by s table table' held me new after ((i, Some f) ∷ rest new.1) view turned e same_table;
  has = changed_has s table table' held me new after i nothing (Some f) view turned front e;
}
  where
    sized : (g : Filling) → Some f ≡ Some g → length g.bytes ≡ (word_at (After new.0.seen) i).size
    sized g q =
        let same_filling : g ≡ f = cc in
        ap (λ (x : Filling). length x.bytes) same_filling ∙ (size ∙ (ap (λ t. size_at t i) (sym view) ∙ ap (λ (v : View). (word_at (After v.seen) i).size) (sym turned.view)))

pub keeps_then : (u v w : Word) → KeepsBuffer u v → KeepsBuffer v w → KeepsBuffer u w
keeps_then u v w first second = record { size = second.size ∙ first.size; generation = second.generation ∙ first.generation }

pub same_then : (i : ℕ) (s t u : Token) → SamePlace i s t → SamePlace i t u → SamePlace i s u
same_then i s t u first second = record {
  slot = second.slot ∙ first.slot;
  buffer = λ some. keeps_then _ _ _ (first.buffer some) (second.buffer (λ q. some (sym first.slot ∙ q)));
}

pub has_then : (i : ℕ) (x y : Option Slot) (s t u : Token) → Has i x s t → Has i y t u → Has i y s u
has_then i x y s t u first second = record { here = second.here; others = λ j ne. same_then j s t u (first.others j ne) (second.others j ne) }

pub stays_enters : (s t u : Token) (event : Event) → Stays s t → Enters t event u → Enters s event u
stays_enters s t u event first second = record {
  table = second.table ∙ first.table;
  number = second.number ∙ first.number;
  run = second.run;
  between = second.between;
  seen = second.seen ∙ (ap (λ l. (l ++ second.between) ++ entry t.number event ∷ []) first.seen ∙ ap (λ n. (s.seen ++ second.between) ++ entry n event ∷ []) first.number);
  grew = subst (λ n. Grew n s.seen second.between) first.number (subst (λ l. Grew t.number l second.between) first.seen second.grew);
}

-- the size of a new buffer's word
pub enrol_size : (v w : View) (i size g : ℕ) → i < 15 → Entered v (event.Enrol i size (Ok g)) w → (word_at (After w.seen) i).size ≡ size
enrol_size v w i size g below e =
    ap (λ b. (word_at b i).size) (entered_board v w (event.Enrol i size (Ok g)) e)
    ∙ ap (λ (x : Word). x.size) (get_or-set_same (After (v.seen ++ e.between)).words i (record { state = Away; size = size; generation = g }) vacant
    (omega (arith, (run_owned (v.seen ++ e.between) (entered_front v w (event.Enrol i size (Ok g)) e)).wide)))

-- a pass with a new buffer
pub enrol_pass : (order : List ℕ) (me after : Seated) (i g : ℕ) (f : Filling) → i < 15 → IsPass order me.0 me.1 → TakesUp me (event.Enrol i (length f.bytes) (Ok g)) i (Some f) after → IsPass (i ∷ order) after.0 after.1
enrol_pass order me after i g f below is told =
    takes_pass order me after (event.Enrol i (length f.bytes) (Ok g)) i (Some f) is told (λ b. refl)
    (λ x e. let same_filling : x ≡ f = cc in ap (λ (y : Filling). length y.bytes) same_filling ∙ sym (enrol_size me.0 after.0 i (length f.bytes) g below told.entered))
