-- Blocks do their rounds.
use Rattle.std.proofs.Common.{◌≡◌, ℕ, suc, zero, ◌+◌, ◌*◌, ◌<◌, ◌≤◌, List, [], ◌∷◌, ◌++◌, length, get_or, map, drop, refl, sym, ap, subst, ◌∙◌, append_assoc, arith}
use Rattle.std.specs.Prelude.{slice_set, vec_len}
use Rattle.std.proofs.lemmas.List.{map-append}
use Rattle.acquisition_machine.specs.declared.config.AcqConfig.{AcqConfig}
use Rattle.acquisition_machine.specs.Blocks.{Open, ranges_asked, after_round}
use Rattle.acquisition_machine.specs.Machine.{number_after, requests_for, requests_of, number_past, after_rounds}
use Rattle.acq_core.specs.declared.asked.Asked.{Asked}
use Rattle.acq_core.specs.declared.slot.Slot.{Slot}
use Rattle.acq_core.specs.declared.window.Window.{Window}
use Rattle.acq_core.specs.Standing.{SlotStands, SlotsStand, IsSlot, AreSlots, HasRoom, asked_of}
use Rattle.acq_core.specs.Rounds.{AsksAll}

-- ---- all blocks' rounds

-- so many of the blocks did their rounds, the lowest first
abbrev partly : AcqConfig → ℕ → ℕ → List Open → List Open
partly c now zero os = os
partly c now (suc n) [] = []
partly c now (suc n) (o ∷ os) = after_round c now o ∷ partly c now n os

-- the block whose round is next
record IsNext (p : ℕ) (c : AcqConfig) (now at : ℕ) (xs : List Slot) (os : List Open) : Type 0 where
  pub block : Open
  pub left : drop at os ≡ block ∷ drop (suc at) os
  pub slot : (d : Slot) → SlotStands p (get_or xs at d) block
  pub after : (y : Slot) → SlotStands p y (after_round c now block) → SlotsStand p (slice_set xs at y) (partly c now (suc at) os)

next_at : (p : ℕ) (c : AcqConfig) (now at : ℕ) (xs : List Slot) (os : List Open) → SlotsStand p xs (partly c now at os) → at < length xs → IsNext p c now at xs os
next_at p c now zero [] os s l = absurd (omega arith)
next_at p c now zero (x ∷ xs) [] s l = absurd s
next_at p c now zero (x ∷ xs) (o ∷ os) s l = record { block = o; left = refl; slot = λ d. s.0; after = λ y t. (t, s.1) }
next_at p c now (suc n) [] os s l = absurd (omega arith)
next_at p c now (suc n) (x ∷ xs) [] s l = absurd s
next_at p c now (suc n) (x ∷ xs) (o ∷ os) s l =
    let less : n < length xs = omega arith in
    let later = next_at p c now n xs os s.1 less in
    record { block = later.block; left = later.left; slot = later.slot; after = λ y t. (s.0, later.after y t) }

-- how far the rounds have come
pub record AsksTo (first last : Window) (at : ℕ) (os : List Open) : Type 0 where
  pub slots : SlotsStand first.config.p last.slots.items (partly first.config first.moment at os)
  pub requests : last.requests.items ++ map asked_of (requests_of first.config first.moment last.number (drop at os))
      ≡ first.requests.items ++ map asked_of (requests_of first.config first.moment first.number os)
  pub number : number_past first.config first.moment last.number (drop at os) ≡ number_past first.config first.moment first.number os

pub record RoundsTo (first last : Window) (at : ℕ) : Type 0 where
  pub part : (os : List Open) → SlotsStand first.config.p first.slots.items os → AsksTo first last at os
  pub rest : last ≡ record first { slots = last.slots; number = last.number; requests = last.requests }
  pub room : HasRoom last
  pub within : at ≤ length last.slots.items
  pub few : vec_len last.requests ≤ 8 * at

pub rounds_none : (m : Window) → HasRoom m → vec_len m.requests ≡ 0 → RoundsTo m m 0
rounds_none m room none = record {
  part = λ os s. record { slots = s; requests = refl; number = refl };
  rest = refl;
  room = room;
  within = omega arith;
  few = omega (arith, none);
}

pub slot_next : (first last : Window) (at : ℕ) (x : Slot) → AreSlots first → RoundsTo first last at → at < length last.slots.items → x ≡ get_or last.slots.items at x → IsSlot last.config.p x
slot_next first last at x some r l is =
    let os = some.0 in
    let n = next_at first.config.p first.config first.moment at last.slots.items os (r.part os some.1).slots l in
    let config : last.config ≡ first.config = ap (λ (m : Window). m.config) r.rest in
    record {
      block = n.block;
      stands = subst (λ (k : AcqConfig). SlotStands k.p x n.block) (sym config) (subst (λ y. SlotStands first.config.p y n.block) (sym is) (n.slot x));
    }

of_more : (c : AcqConfig) (now n : ℕ) (o : Open) (rest all : List Open) (items more t : List Asked) → all ≡ o ∷ rest → more ≡ items ++ map asked_of (requests_for n o.block (ranges_asked c now o)) → items ++ map asked_of (requests_of c now n all) ≡ t → more ++ map asked_of (requests_of c now (number_after n (ranges_asked c now o)) rest) ≡ t
of_more c now n o rest all items more t e is h =
    let mine : List Asked = map asked_of (requests_for n o.block (ranges_asked c now o)) in
    let theirs : List Asked = map asked_of (requests_of c now (number_after n (ranges_asked c now o)) rest) in
    ap (λ l. l ++ theirs) is ∙ append_assoc items mine theirs
    ∙ ap (λ l. items ++ l) (sym (map-append asked_of (requests_for n o.block (ranges_asked c now o)) (requests_of c now (number_after n (ranges_asked c now o)) rest)))
    ∙ ap (λ l. items ++ map asked_of (requests_of c now n l)) (sym e) ∙ h

asks_one : (first mid last : Window) (at : ℕ) (x y : Slot) (os : List Open) → AsksTo first mid at os → at < length mid.slots.items → x ≡ get_or mid.slots.items at x → last.slots.items ≡ slice_set mid.slots.items at y
    → ((o : Open) → SlotStands first.config.p x o → SlotStands first.config.p y (after_round first.config first.moment o))
    → ((o : Open) → SlotStands first.config.p x o → last.requests.items ≡ mid.requests.items ++ map asked_of (requests_for mid.number o.block (ranges_asked first.config first.moment o)))
    → ((o : Open) → SlotStands first.config.p x o → last.number ≡ number_after mid.number (ranges_asked first.config first.moment o))
    → AsksTo first last (suc at) os
asks_one first mid last at x y os a l is items stands made numbers =
    let p : ℕ = first.config.p in
    let c : AcqConfig = first.config in
    let now : ℕ = first.moment in
    let n = next_at p c now at mid.slots.items os a.slots l in
    let here : SlotStands p x n.block = subst (λ z. SlotStands p z n.block) (sym is) (n.slot x) in
    let number : last.number ≡ number_after mid.number (ranges_asked c now n.block) = numbers n.block here in
    record {
      slots = subst (λ xs. SlotsStand p xs (partly c now (suc at) os)) (sym items) (n.after y (stands n.block here));
      requests = ap (λ k. last.requests.items ++ map asked_of (requests_of c now k (drop (suc at) os))) number
          ∙ of_more c now mid.number n.block (drop (suc at) os) (drop at os) mid.requests.items last.requests.items
          (first.requests.items ++ map asked_of (requests_of c now first.number os)) n.left (made n.block here) a.requests;
      number = ap (λ k. number_past c now k (drop (suc at) os)) number ∙ ap (number_past c now mid.number) (sym n.left) ∙ a.number;
    }

pub rounds_one : (first mid last : Window) (at : ℕ) (x y : Slot) → RoundsTo first mid at → at < length mid.slots.items → x ≡ get_or mid.slots.items at x → last.slots.items ≡ slice_set mid.slots.items at y
    → last ≡ record mid { slots = last.slots; number = last.number; requests = last.requests }
    → ((o : Open) → SlotStands mid.config.p x o → SlotStands mid.config.p y (after_round mid.config mid.moment o))
    → ((o : Open) → SlotStands mid.config.p x o → last.requests.items ≡ mid.requests.items ++ map asked_of (requests_for mid.number o.block (ranges_asked mid.config mid.moment o)))
    → ((o : Open) → SlotStands mid.config.p x o → last.number ≡ number_after mid.number (ranges_asked mid.config mid.moment o))
    → HasRoom last → at < length last.slots.items → vec_len last.requests ≤ vec_len mid.requests + 8 → RoundsTo first last (at + 1)
rounds_one first mid last at x y r l is items rest stands made numbers room within few =
    let config : mid.config ≡ first.config = ap (λ (m : Window). m.config) r.rest in
    let moment : mid.moment ≡ first.moment = ap (λ (m : Window). m.moment) r.rest in
    let next : suc at ≡ at + 1 = omega arith in
    let before = r.few in
    record {
      part = λ os s.
          subst (λ k. AsksTo first last k os) next
          (asks_one first mid last at x y os (r.part os s) l is items
          (subst (λ (c : AcqConfig). (o : Open) → SlotStands c.p x o → SlotStands c.p y (after_round c first.moment o)) config
          (subst (λ now. (o : Open) → SlotStands mid.config.p x o → SlotStands mid.config.p y (after_round mid.config now o)) moment stands))
          (subst (λ (c : AcqConfig). (o : Open) → SlotStands c.p x o → last.requests.items ≡ mid.requests.items ++ map asked_of (requests_for mid.number o.block (ranges_asked c first.moment o))) config
          (subst (λ now. (o : Open) → SlotStands mid.config.p x o → last.requests.items ≡ mid.requests.items ++ map asked_of (requests_for mid.number o.block (ranges_asked mid.config now o))) moment made))
          (subst (λ (c : AcqConfig). (o : Open) → SlotStands c.p x o → last.number ≡ number_after mid.number (ranges_asked c first.moment o)) config
          (subst (λ now. (o : Open) → SlotStands mid.config.p x o → last.number ≡ number_after mid.number (ranges_asked mid.config now o)) moment numbers)));
      rest = rest ∙ ap (λ (m : Window). record m { slots = last.slots; number = last.number; requests = last.requests }) r.rest;
      room = room;
      within = omega arith;
      few = omega (arith, before, few);
    }

partly_all : (p : ℕ) (c : AcqConfig) (now n : ℕ) (xs : List Slot) (os : List Open) → SlotsStand p xs (partly c now n os) → length xs ≤ n → (partly c now n os ≡ after_rounds c now os) × (drop n os ≡ [])
partly_all p c now zero [] [] s l = (refl, refl)
partly_all p c now zero [] (o ∷ os) s l = absurd s
partly_all p c now zero (x ∷ xs) os s l = absurd (omega arith)
partly_all p c now (suc n) xs [] s l = (refl, refl)
partly_all p c now (suc n) [] (o ∷ os) s l = absurd s
partly_all p c now (suc n) (x ∷ xs) (o ∷ os) s l =
    let less : length xs ≤ n = omega arith in
    let rest = partly_all p c now n xs os s.1 less in
    (ap (λ l. after_round c now o ∷ l) rest.0, rest.1)

append_nil : {X : Type 0} (xs : List X) → xs ++ [] ≡ xs
append_nil [] = refl
append_nil (x ∷ xs) = ap (λ l. x ∷ l) (append_nil xs)

pub rounds_end : (first last : Window) (at : ℕ) → RoundsTo first last at → length last.slots.items ≤ at → (os : List Open) → SlotsStand first.config.p first.slots.items os → AsksAll first last os
rounds_end first last at r l os s =
    let c : AcqConfig = first.config in
    let now : ℕ = first.moment in
    let a = r.part os s in
    let over = partly_all c.p c now at last.slots.items os a.slots l in
    record {
      slots = subst (λ k. SlotsStand c.p last.slots.items k) over.0 a.slots;
      requests = sym (append_nil last.requests.items) ∙ ap (λ k. last.requests.items ++ map asked_of (requests_of c now last.number k)) (sym over.1) ∙ a.requests;
      number = ap (number_past c now last.number) (sym over.1) ∙ a.number;
    }
