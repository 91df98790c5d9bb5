-- What a call does to a whole pass, by what its steps do to the seat.
use Rattle.std.proofs.Common.{◌≡◌, ◌≢◌, ◌⊎◌, inl, inr, ℕ, ◌+◌, ◌<◌, ◌≤◌, List, ◌∷◌, length, Option, Some, None, refl, sym, ap, subst, ◌∙◌, arith}
use Rattle.std.specs.Prelude.{remove, OnErr, Result, Ok, Err}
use Rattle.gev_types.specs.Filling.{Filling}
use Rattle.gev_types.specs.Limits.{place_count}
use Rattle.atomic_table.specs.Table.{rest}
use Rattle.atomic_table.specs.Seated.{TableId}
use Rattle.board_machine.specs.declared.events.Event.{Event}
use Rattle.board_machine.specs.Places.{same, times}
use Rattle.board_machine.specs.Machine.{Board, word_at, InHand, entry, next, picks, drops}
use Rattle.board_machine.specs.Histories.{After}
use Rattle.board_machine.specs.Sizes.{KeepsBuffer}
use Rattle.board_machine.proofs.Places.{same_self}
use Rattle.board_machine.proofs.Runs.{run_in_hand}
use Rattle.board_machine.proofs.Room.{few_length}
use Rattle.buffer_words.specs.declared.view.View.{View}
use Rattle.buffer_words.specs.Rule.{Slot, Slots}
use Rattle.buffer_words.specs.Told.{Entered}
use Rattle.buffer_words.specs.Plays.{Seated, IsFront, IsFrontPlace, HoldsBuffer, HoldsNothing, LooksAt, TakesUp, TakesBuffer, GivesBack}
use Rattle.buffer_words.specs.Passes.{Token, slot_places, slot_of, slot_at, gone, IsWhole, IsSingle, Enters, SamePlace, SameHands, Has, Gets, Carries, IsPass}
use Rattle.buffer_words.proofs.Turns.{slot_here, slot_else, slot_none, slot_some}
use Rattle.std.proofs.lemmas.Bool.{cases_eq}
use Rattle.buffer_words.proofs.Carried.{carries_single, entered_keeps, enters_from, takes_pass, gives_pass}

-- what a contract sees of a seat
abbrev pub token : TableId → Seated → Token
token table me = record { table = table; number = me.0.number; seen = me.0.seen; slots = me.1 }

pub enters_seat : (table table' : TableId) (me after : Seated) (event : Event) → table' ≡ table → Entered me.0 event after.0 → Enters (token table me) event (token table' after)
enters_seat table table' me after event same e = enters_from (token table me) (token table' after) me.0 after.0 event e same refl refl refl refl

-- the slots of a pass were turned
pub record Turned (me new : Seated) (held : List ℕ) : Type 0 where
  pub order : held ≡ slot_places new.1
  pub view : new.0 ≡ me.0
  pub counts : (i : ℕ) → times i (slot_places new.1) ≡ times i (slot_places me.1)
  pub slots : (i : ℕ) → slot_of i new.1 ≡ slot_of i me.1

pub turned_pass : (order held : List ℕ) (me new : Seated) → IsPass order me.0 me.1 → Turned me new held → IsPass held new.0 new.1
turned_pass order held me new is turned = subst (λ (v : View). IsPass held v new.1) (sym turned.view) (record {
  order = turned.order;
  idle = is.idle;
  carries = record {
    run = is.carries.run;
    actor = is.carries.actor;
    once = λ i. turned.counts i ∙ is.carries.once i;
    sizes = λ i f e. is.carries.sizes i f (sym (turned.slots i) ∙ e);
  };
})

pub in_hand : (order : List ℕ) (me : Seated) (i : ℕ) → IsPass order me.0 me.1 → slot_of i me.1 ≢ None → InHand (After me.0.seen) me.0.number i
in_hand order me i is some = omega (arith, is.carries.once i, slot_some i me.1 some)

pub below_of : (order : List ℕ) (me : Seated) (i : ℕ) → IsPass order me.0 me.1 → slot_of i me.1 ≢ None → i < place_count
below_of order me i is some = run_in_hand me.0.seen me.0.number i is.carries.run (in_hand order me i is some)

-- what stands in front
front_is : (me : Seated) (i : ℕ) (x y : Slot) → IsFront me i x → slot_of i me.1 ≡ Some y → x ≡ y
front_is me i x y front e =
    let here : slot_of i me.1 ≡ Some x = ap (λ c. slot_of i c) front ∙ slot_here i x (rest me.1) in cc

pub holds_buffer : (order : List ℕ) (me : Seated) (i : ℕ) (f : Filling) → IsPass order me.0 me.1 → IsFrontPlace me i → slot_of i me.1 ≡ Some (Some f) → HoldsBuffer me i
holds_buffer order me i f is front e = record {
  filling = f;
  front = subst (λ x. IsFront me i x) (front_is me i front.slot (Some f) front.front e) front.front;
  in_hand = in_hand order me i is (λ q. cc);
  size = is.carries.sizes i f e;
}

-- a place that the call doesn't touch
pub same_by : (table table' : TableId) (me new after : Seated) (event : Event) (i : ℕ) → Carries new.0.number new.0.seen new.1 → new.0 ≡ me.0 → slot_of i new.1 ≡ slot_of i me.1
    → Entered new.0 event after.0 → slot_of i after.1 ≡ slot_of i new.1 → SamePlace i (token table me) (token table' after)
same_by table table' me new after event i carries view was e is = record {
  slot = is ∙ was;
  buffer = λ some. subst (λ (v : View). KeepsBuffer (word_at (After v.seen) i) (word_at (After after.0.seen) i)) view
      (entered_keeps new.0 after.0 event i e (omega (arith, carries.once i, slot_some i new.1 (λ q. some (sym was ∙ q)))));
}

pub looks_same : (table table' : TableId) (me after : Seated) (event : Event) → Carries me.0.number me.0.seen me.1 → LooksAt me event after → SameHands (token table me) (token table' after)
looks_same table table' me after event carries told i =
    same_by table table' me me after event i carries refl refl told.entered (ap (λ c. slot_of i c) told.slots)

pub gives_has : (table table' : TableId) (order held : List ℕ) (me new after : Seated) (event : Event) (i : ℕ) (x : Slot) → IsPass order me.0 me.1 → Turned me new held → IsFront new i x → GivesBack new event after
    → Has i gone (token table me) (token table' after)
gives_has table table' order held me new after event i x is turned front told = record {
  here = ap (λ c. slot_of i c) told.slots ∙ slot_none i (rest new.1) (omega (arith, whole i, same_self i, single i));
  others = λ j ne. same_by table table' me new after event j pass.carries turned.view (turned.slots j) told.entered
      (ap (λ c. slot_of j c) told.slots ∙ (sym (slot_else j i x (rest new.1) ne) ∙ ap (λ c. slot_of j c) (sym front)));
}
  where
    pass : IsPass held new.0 new.1
    pass = turned_pass order held me new is turned

    single : IsSingle new.1
    single = carries_single new.0.number new.0.seen new.1 pass.carries

    whole : (j : ℕ) → times j (slot_places new.1) ≡ same j i + times j (slot_places (rest new.1))
    whole j = ap (λ c. times j (slot_places c)) front

pub takes_has : (table table' : TableId) (me after : Seated) (event : Event) (i : ℕ) (x : Slot) → Carries me.0.number me.0.seen me.1 → TakesUp me event i x after → Has i (Some x) (token table me) (token table' after)
takes_has table table' me after event i x carries told = record {
  here = ap (λ c. slot_of i c) told.slots ∙ slot_here i x me.1;
  others = λ j ne. same_by table table' me me after event j carries refl refl told.entered (ap (λ c. slot_of j c) told.slots ∙ slot_else j i x me.1 ne);
}

-- a place that comes into hand was in no slot of the pass
pub was_gone : (order : List ℕ) (me after : Seated) (event : Event) (i : ℕ) (x : Slot) → TakesUp me event i x after → IsPass order after.0 after.1 → slot_of i me.1 ≡ None
was_gone order me after event i x told is =
    let whole : times i (slot_places after.1) ≡ same i i + times i (slot_places me.1) = ap (λ c. times i (slot_places c)) told.slots in
    slot_none i me.1 (omega (arith, whole, same_self i, carries_single after.0.number after.0.seen after.1 is.carries i))

pub takes_gets : (table table' : TableId) (order : List ℕ) (me after : Seated) (event : Event) (i : ℕ) → i < place_count → Carries me.0.number me.0.seen me.1 → TakesBuffer me event i after → IsPass order after.0 after.1
    → Gets i (token table me) (token table' after)
takes_gets table table' order me after event i below carries told is = record {
  below = below;
  new = was_gone order me after event i (Some told.filling) told.takes is;
  filling = told.filling;
  has = takes_has table table' me after event i (Some told.filling) carries told.takes;
  size = told.size;
}

-- there is room for the place that a pass has taken
pub room_of : (order : List ℕ) (v : View) (c : Slots) → IsPass order v c → length order ≤ 15
room_of order v c is = few_length 15 order (record {
  once = λ i. omega (arith, ap (λ l. times i l) is.order, carries_single v.number v.seen c is.carries i);
  below = λ i some. run_in_hand v.seen v.number i is.carries.run (omega (arith, some, ap (λ l. times i l) is.order, is.carries.once i));
})

-- an entry that takes a buffer up
pub buffer_pass : (order : List ℕ) (me after : Seated) (event : Event) (i : ℕ) → IsPass order me.0 me.1 → TakesBuffer me event i after
    → ((b : Board) → (next b (entry me.0.number event)).hands ≡ (picks b me.0.number i).hands) → IsPass (i ∷ order) after.0 after.1
buffer_pass order me after event i is told hands =
    takes_pass order me after event i (Some told.filling) is told.takes hands (λ f e. let same_filling : f ≡ told.filling = cc in ap (λ (g : Filling). length g.bytes) same_filling ∙ told.size)

-- what a contract says of a place, read off the seat
pub seen_slot : (s : Token) (table : TableId) (me : Seated) (i : ℕ) (x : Option Slot) → token table me ≡ s → slot_at s i ≡ x → slot_of i me.1 ≡ x
seen_slot s table me i x view e = ap (λ (t : Token). slot_at t i) view ∙ e

pub not_gone : (i : ℕ) (c : Slots) (x : Slot) → slot_of i c ≡ Some x → slot_of i c ≢ None
not_gone i c x e q = cc

pub whole_some : (s : Token) (table : TableId) (me : Seated) (i : ℕ) → token table me ≡ s → IsWhole s i → slot_of i me.1 ≢ None
whole_some s table me i view w = not_gone i me.1 (Some w.filling) (seen_slot s table me i (Some (Some w.filling)) view w.is)

pub lifted_some : (s : Token) (table : TableId) (me : Seated) (i : ℕ) → token table me ≡ s → slot_at s i ≡ Some None → slot_of i me.1 ≢ None
lifted_some s table me i view e = not_gone i me.1 None (seen_slot s table me i (Some None) view e)

-- the buffer that was turned to the front
pub brought_buffer : (s : Token) (table : TableId) (order held : List ℕ) (me new : Seated) (i : ℕ) → token table me ≡ s → IsWhole s i → IsPass order me.0 me.1 → Turned me new held → IsFrontPlace new i → HoldsBuffer new i
brought_buffer s table order held me new i view w is turned front =
    holds_buffer held new i w.filling (turned_pass order held me new is turned) front (turned.slots i ∙ seen_slot s table me i (Some (Some w.filling)) view w.is)

pub brought_nothing : (s : Token) (table : TableId) (order held : List ℕ) (me new : Seated) (i : ℕ) → token table me ≡ s → slot_at s i ≡ Some None → IsPass order me.0 me.1 → Turned me new held → IsFrontPlace new i → HoldsNothing new i
brought_nothing s table order held me new i view e is turned front =
    let there : slot_of i new.1 ≡ Some None = turned.slots i ∙ seen_slot s table me i (Some None) view e in
    let pass = turned_pass order held me new is turned in
    record {
      front = subst (λ x. IsFront new i x) (front_is new i front.slot None front.front there) front.front;
      in_hand = in_hand held new i pass (λ q. cc);
    }

-- the whole of a call that gives the slot in front back
pub record Gave (s : Token) (table' : TableId) (after : Seated) (i : ℕ) (rest_of : List ℕ) : Type 0 where
  pub pass : IsPass rest_of after.0 after.1
  pub has : Has i gone s (token table' after)

pub gave : (s : Token) (table table' : TableId) (order held rest_of : List ℕ) (me new after : Seated) (event : Event) (i : ℕ) → token table me ≡ s → IsPass order me.0 me.1 → Turned me new held → IsFrontPlace new i → GivesBack new event after
    → ((b : Board) → (next b (entry new.0.number event)).hands ≡ (drops b new.0.number i).hands) → rest_of ≡ remove held 0 → Gave s table' after i rest_of
gave s table table' order held rest_of me new after event i view is turned front told hands e = record {
  pass = subst (λ l. IsPass l after.0 after.1) (sym e) (gives_pass held new after event i front.slot (turned_pass order held me new is turned) front.front told hands);
  has = subst (λ t. Has i gone t (token table' after)) view (gives_has table table' order held me new after event i front.slot is turned front.front told);
}

-- what is in the slot in front changes
pub changed_pass : (held : List ℕ) (me new : Seated) (i : ℕ) (x y : Slot) → IsPass held me.0 me.1 → IsFront me i x → new ≡ (me.0, (i, y) ∷ rest me.1)
    → ((f : Filling) → y ≡ Some f → length f.bytes ≡ (word_at (After me.0.seen) i).size) → IsPass held new.0 new.1
changed_pass held me new i x y is front e sized = subst (λ (m : Seated). IsPass held m.0 m.1) (sym e) (record {
  order = is.order ∙ ap (λ c. slot_places c) front;
  idle = is.idle;
  carries = record {
    run = is.carries.run;
    actor = is.carries.actor;
    once = λ j. ap (λ c. times j (slot_places c)) (sym front) ∙ is.carries.once j;
    sizes = λ j f q. go j f q (cases_eq j i);
  };
})
  where
    go : (j : ℕ) (f : Filling) → slot_of j ((i, y) ∷ rest me.1) ≡ Some (Some f) → (j ≡ i) ⊎ (j ≢ i) → length f.bytes ≡ (word_at (After me.0.seen) j).size
    go j f q (inl at) =
        let here : slot_of j ((i, y) ∷ rest me.1) ≡ Some y = subst (λ m. slot_of m ((i, y) ∷ rest me.1) ≡ Some y) (sym at) (slot_here i y (rest me.1)) in
        let is_f : y ≡ Some f = cc in
        sized f is_f ∙ ap (λ m. (word_at (After me.0.seen) m).size) (sym at)
    go j f q (inr ne) = is.carries.sizes j f (ap (λ c. slot_of j c) front ∙ (slot_else j i x (rest me.1) ne ∙ (sym (slot_else j i y (rest me.1) ne) ∙ q)))

-- the whole of a call that changes what is in the slot in front
pub changed_has : (s : Token) (table table' : TableId) (held : List ℕ) (me new after : Seated) (i : ℕ) (x y : Slot) → token table me ≡ s → Turned me new held → IsFront new i x → after ≡ (new.0, (i, y) ∷ rest new.1)
    → Has i (Some y) s (token table' after)
changed_has s table table' held me new after i x y view turned front e = subst (λ t. Has i (Some y) t (token table' after)) view (record {
  here = ap (λ (m : Seated). slot_of i m.1) e ∙ slot_here i y (rest new.1);
  others = λ j ne. record {
    slot = ap (λ (m : Seated). slot_of j m.1) e ∙ (slot_else j i y (rest new.1) ne ∙ (sym (slot_else j i x (rest new.1) ne) ∙ (ap (λ c. slot_of j c) (sym front) ∙ turned.slots j)));
    buffer = λ some. let same_seen : after.0.seen ≡ me.0.seen = ap (λ (m : Seated). m.0.seen) e ∙ ap (λ (v : View). v.seen) turned.view in
        record { size = ap (λ l. (word_at (After l) j).size) same_seen; generation = ap (λ l. (word_at (After l) j).generation) same_seen };
  };
})

pub on_err : {T E : Type 0} (r : Result T E) (P : Type 0) → P → OnErr r P
on_err (Ok x) P p = tt
on_err (Err e) P p = p
