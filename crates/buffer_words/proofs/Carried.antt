-- What an entry leaves of a pass and of its slots.
use Rattle.std.proofs.Common.{◌≡◌, ◌≢◌, ◌⊎◌, ℕ, ◌+◌, ◌≤◌, List, [], ◌∷◌, ◌++◌, length, get_or, Some, sym, ap, subst, ◌∙◌, inl, inr, ⊎_elim, arith}
use Rattle.std.proofs.lemmas.List.{get_or-set_same}
use Rattle.std.proofs.lemmas.Bool.{cases_eq}
use Rattle.std.specs.Prelude.{remove}
use Rattle.gev_types.specs.Filling.{Filling}
use Rattle.atomic_table.specs.Table.{rest}
use Rattle.board_machine.specs.declared.events.Entry.{Entry}
use Rattle.board_machine.specs.declared.events.Event.{Event}
use Rattle.board_machine.specs.Places.{same, times, put_in, without}
use Rattle.board_machine.specs.Machine.{Board, empty_board, word_at, hand_at, hand, held, no_actor, IsActor, InHand, CanBeNext, entry, next, picks, drops}
use Rattle.board_machine.specs.Histories.{Run, After}
use Rattle.board_machine.specs.Sizes.{KeepsBuffer}
use Rattle.board_machine.proofs.Places.{same_self, times-put, times-without}
use Rattle.board_machine.proofs.Boards.{actor_within, in_hand_of-le}
use Rattle.board_machine.proofs.Forms.{owned_cases}
use Rattle.board_machine.proofs.Counts.{due_le}
use Rattle.board_machine.proofs.Runs.{after-push, run_owned, runs_front, runs_rest}
use Rattle.board_machine.proofs.Actors.{actors_stay}
use Rattle.board_machine.proofs.Sizes.{held_stays}
use Rattle.buffer_words.specs.declared.view.View.{View}
use Rattle.buffer_words.specs.Rule.{Slot, Slots}
use Rattle.buffer_words.specs.Told.{Grew, Entered}
use Rattle.buffer_words.specs.Plays.{Seated, IsFront, LooksAt, TakesUp, GivesBack}
use Rattle.buffer_words.specs.Passes.{Token, slot_places, slot_of, IsSingle, Enters, Carries, IsPass}
use Rattle.buffer_words.proofs.Turns.{slot_here, slot_else, slot_some}

-- each place is in a pass's slots once
pub carries_single : (n : ℕ) (seen : List Entry) (c : Slots) → Carries n seen c → IsSingle c
carries_single n seen c carries i =
    omega (arith, carries.once i, in_hand_of-le i (After seen).hands n, (run_owned seen carries.run).once i, due_le (word_at (After seen) i).state)

-- the board before an entry, and what may be said of it
pub entered_runs : (v w : View) (event : Event) → (e : Entered v event w) → Run ((v.seen ++ e.between) ++ entry v.number event ∷ [])
entered_runs v w event e = subst (λ l. Run l) e.seen e.run

pub entered_front : (v w : View) (event : Event) → (e : Entered v event w) → Run (v.seen ++ e.between)
entered_front v w event e = runs_front empty_board (v.seen ++ e.between) (entry v.number event ∷ []) (entered_runs v w event e)

pub entered_may : (v w : View) (event : Event) → (e : Entered v event w) → CanBeNext (After (v.seen ++ e.between)) (entry v.number event)
entered_may v w event e = (runs_rest empty_board (v.seen ++ e.between) (entry v.number event ∷ []) (entered_runs v w event e)).0

pub entered_board : (v w : View) (event : Event) → (e : Entered v event w) → After w.seen ≡ next (After (v.seen ++ e.between)) (entry v.number event)
entered_board v w event e = ap (λ l. After l) e.seen ∙ after-push (v.seen ++ e.between) (entry v.number event)

-- what a pass has in hand stays the same buffer
pub entered_keeps : (v w : View) (event : Event) (i : ℕ) → Entered v event w → InHand (After v.seen) v.number i → KeepsBuffer (word_at (After v.seen) i) (word_at (After w.seen) i)
entered_keeps v w event i e mine =
    subst (λ x. KeepsBuffer (word_at (After v.seen) i) x) (sym (ap (λ b. word_at b i) (entered_board v w event e)))
    (subst (λ x. KeepsBuffer x (word_at (next (After (v.seen ++ e.between)) (entry v.number event)) i)) (e.grew.words i mine)
    (held_stays (After (v.seen ++ e.between)) (entry v.number event) v.number i
    (owned_cases (After (v.seen ++ e.between)) (run_owned (v.seen ++ e.between) (entered_front v w event e)))
    (entered_may v w event e)
    (subst (λ h. 1 ≤ times i (held h)) (sym e.grew.hand) mine)))

-- the slots after an entry, by the hand that it leaves
pub carries_after : (v w : View) (c d : Slots) (event : Event) → Carries v.number v.seen c → (e : Entered v event w)
    → ((i : ℕ) → times i (slot_places d) ≡ times i (hand (next (After (v.seen ++ e.between)) (entry v.number event)) v.number))
    → ((i : ℕ) (f : Filling) → slot_of i d ≡ Some (Some f) → (slot_of i c ≡ Some (Some f)) ⊎ (length f.bytes ≡ (word_at (After w.seen) i).size))
    → Carries w.number w.seen d
carries_after v w c d event carries e once sizes = record {
  run = e.run;
  actor = subst (λ n. IsActor (After w.seen) n) (sym e.number)
      (subst (λ b. IsActor b v.number) (sym (entered_board v w event e)) (actors_stay (After (v.seen ++ e.between)) (entry v.number event) (entered_may v w event e)));
  once = λ i. once i ∙ (ap (λ b. times i (hand b v.number)) (sym (entered_board v w event e)) ∙ ap (λ n. times i (hand (After w.seen) n)) (sym e.number));
  sizes = λ i f is. ⊎_elim (λ old. kept i f old) (λ new. new) (sizes i f is);
}
  where
    kept : (i : ℕ) (f : Filling) → slot_of i c ≡ Some (Some f) → length f.bytes ≡ (word_at (After w.seen) i).size
    kept i f old =
        let some : 1 ≤ times i (slot_places c) = slot_some i c (λ q. cc) in
        let mine : InHand (After v.seen) v.number i = omega (arith, carries.once i) in
        carries.sizes i f old ∙ sym (entered_keeps v w event i e mine).size

-- the hand before the entry
pub hand_then : (v w : View) (event : Event) (c : Slots) (i : ℕ) → Carries v.number v.seen c → (e : Entered v event w) → times i (slot_places c) ≡ times i (hand (After (v.seen ++ e.between)) v.number)
hand_then v w event c i carries e = carries.once i ∙ ap (λ h. times i (held h)) (sym e.grew.hand)

-- an entry that changes nothing
pub quiet_pass : (order : List ℕ) (me after : Seated) (event : Event) → IsPass order me.0 me.1 → LooksAt me event after
    → ((b : Board) → next b (entry me.0.number event) ≡ b) → IsPass order after.0 after.1
quiet_pass order me after event is told quiet = record {
  order = is.order ∙ ap (λ c. slot_places c) (sym told.slots);
  idle = told.entered.stage;
  carries = subst (λ d. Carries after.0.number after.0.seen d) (sym told.slots)
      (carries_after me.0 after.0 me.1 me.1 event is.carries told.entered
      (λ i. hand_then me.0 after.0 event me.1 i is.carries told.entered
      ∙ ap (λ b. times i (hand b me.0.number)) (sym (quiet (After (me.0.seen ++ told.entered.between)))))
      (λ i f e. inl e));
}

-- an entry that takes a slot up
pub takes_pass : (order : List ℕ) (me after : Seated) (event : Event) (i : ℕ) (x : Slot) → IsPass order me.0 me.1 → TakesUp me event i x after
    → ((b : Board) → (next b (entry me.0.number event)).hands ≡ (picks b me.0.number i).hands)
    → ((f : Filling) → x ≡ Some f → length f.bytes ≡ (word_at (After after.0.seen) i).size)
    → IsPass (i ∷ order) after.0 after.1
takes_pass order me after event i x is told hands sized = record {
  order = ap (λ l. i ∷ l) is.order ∙ ap (λ c. slot_places c) (sym told.slots);
  idle = told.entered.stage;
  carries = subst (λ d. Carries after.0.number after.0.seen d) (sym told.slots)
      (carries_after me.0 after.0 me.1 ((i, x) ∷ me.1) event is.carries told.entered once sizes);
}
  where
    once : (j : ℕ) → same j i + times j (slot_places me.1) ≡ times j (hand (next (After (me.0.seen ++ told.entered.between)) (entry me.0.number event)) me.0.number)
    once j =
        let b = After (me.0.seen ++ told.entered.between) in
        let same_hand : hand_at (next b (entry me.0.number event)) me.0.number ≡ Some (put_in i (hand b me.0.number)) =
        ap (λ hs. get_or hs me.0.number no_actor) (hands b)
        ∙ get_or-set_same b.hands me.0.number (Some (put_in i (hand b me.0.number))) no_actor (actor_within b me.0.number (entered_may me.0 after.0 event told.entered).actor) in
        omega (arith, hand_then me.0 after.0 event me.1 j is.carries told.entered, ap (λ h. times j (held h)) same_hand, times-put j i (hand b me.0.number))

    sizes : (j : ℕ) (f : Filling) → slot_of j ((i, x) ∷ me.1) ≡ Some (Some f) → (slot_of j me.1 ≡ Some (Some f)) ⊎ (length f.bytes ≡ (word_at (After after.0.seen) j).size)
    sizes j f e = go (cases_eq j i)
      where
        go : (j ≡ i) ⊎ (j ≢ i) → (slot_of j me.1 ≡ Some (Some f)) ⊎ (length f.bytes ≡ (word_at (After after.0.seen) j).size)
        go (inl q) =
            let here : slot_of j ((i, x) ∷ me.1) ≡ Some x = subst (λ m. slot_of m ((i, x) ∷ me.1) ≡ Some x) (sym q) (slot_here i x me.1) in
            let is_f : x ≡ Some f = cc in
            inr (sized f is_f ∙ ap (λ m. (word_at (After after.0.seen) m).size) (sym q))
        go (inr n) = inl (sym (slot_else j i x me.1 n) ∙ e)

-- an entry that gives the slot in front back
pub gives_pass : (order : List ℕ) (me after : Seated) (event : Event) (i : ℕ) (x : Slot) → IsPass order me.0 me.1 → IsFront me i x → GivesBack me event after
    → ((b : Board) → (next b (entry me.0.number event)).hands ≡ (drops b me.0.number i).hands)
    → IsPass (remove order 0) after.0 after.1
gives_pass order me after event i x is front told hands = record {
  order = ap (λ l. remove l 0) (is.order ∙ ap (λ c. slot_places c) front) ∙ ap (λ c. slot_places c) (sym told.slots);
  idle = told.entered.stage;
  carries = subst (λ d. Carries after.0.number after.0.seen d) (sym told.slots)
      (carries_after me.0 after.0 me.1 (rest me.1) event is.carries told.entered once sizes);
}
  where
    whole : (j : ℕ) → times j (slot_places me.1) ≡ same j i + times j (slot_places (rest me.1))
    whole j = ap (λ c. times j (slot_places c)) front

    once : (j : ℕ) → times j (slot_places (rest me.1)) ≡ times j (hand (next (After (me.0.seen ++ told.entered.between)) (entry me.0.number event)) me.0.number)
    once j =
        let b = After (me.0.seen ++ told.entered.between) in
        let same_hand : hand_at (next b (entry me.0.number event)) me.0.number ≡ Some (without i (hand b me.0.number)) =
        ap (λ hs. get_or hs me.0.number no_actor) (hands b)
        ∙ get_or-set_same b.hands me.0.number (Some (without i (hand b me.0.number))) no_actor (actor_within b me.0.number (entered_may me.0 after.0 event told.entered).actor) in
        let mine : 1 ≤ times i (hand b me.0.number) = omega (arith, hand_then me.0 after.0 event me.1 i is.carries told.entered, whole i, same_self i) in
        omega (arith, hand_then me.0 after.0 event me.1 j is.carries told.entered, ap (λ h. times j (held h)) same_hand, times-without j i (hand b me.0.number) mine, whole j)

    sizes : (j : ℕ) (f : Filling) → slot_of j (rest me.1) ≡ Some (Some f) → (slot_of j me.1 ≡ Some (Some f)) ⊎ (length f.bytes ≡ (word_at (After after.0.seen) j).size)
    sizes j f e =
        let some : 1 ≤ times j (slot_places (rest me.1)) = slot_some j (rest me.1) (λ q. cc) in
        let ne : j ≢ i = λ q. let one : same j i ≡ 1 = ap (λ m. same m i) q ∙ same_self i in omega (arith, whole j, carries_single me.0.number me.0.seen me.1 is.carries j) in
        inl (ap (λ c. slot_of j c) front ∙ (slot_else j i x (rest me.1) ne ∙ e))

-- what is said of the whole pass: the entry,
pub enters_from : (s t : Token) (v w : View) (event : Event) → Entered v event w → t.table ≡ s.table → v.number ≡ s.number → v.seen ≡ s.seen → w.number ≡ t.number → w.seen ≡ t.seen → Enters s event t
enters_from s t v w event e table number seen number' seen' = record {
  table = table;
  number = sym number' ∙ (e.number ∙ number);
  run = subst (λ l. Run l) seen' e.run;
  between = e.between;
  seen = sym seen' ∙ (e.seen ∙ (ap (λ l. (l ++ e.between) ++ entry v.number event ∷ []) seen ∙ ap (λ n. (s.seen ++ e.between) ++ entry n event ∷ []) number));
  grew = subst (λ n. Grew n s.seen e.between) number (subst (λ l. Grew v.number l e.between) seen e.grew);
}

-- an entry that leaves the pass's own hand
pub same_pass : (order : List ℕ) (me after : Seated) (event : Event) → IsPass order me.0 me.1 → LooksAt me event after
    → ((b : Board) → CanBeNext b (entry me.0.number event) → hand (next b (entry me.0.number event)) me.0.number ≡ hand b me.0.number) → IsPass order after.0 after.1
same_pass order me after event is told same_hand = record {
  order = is.order ∙ ap (λ c. slot_places c) (sym told.slots);
  idle = told.entered.stage;
  carries = subst (λ d. Carries after.0.number after.0.seen d) (sym told.slots)
      (carries_after me.0 after.0 me.1 me.1 event is.carries told.entered
      (λ i. hand_then me.0 after.0 event me.1 i is.carries told.entered
      ∙ ap (λ h. times i h) (sym (same_hand (After (me.0.seen ++ told.entered.between)) (entered_may me.0 after.0 event told.entered))))
      (λ i f e. inl e));
}
