-- Blocks that retire one after the other.
use Rattle.std.proofs.Common.{◌≡◌, ℕ, ◌+◌, ◌<◌, List, [], ◌∷◌, ◌++◌, length, Bool, true, false, refl, sym, ap, subst, ◌∙◌, append_assoc, arith}
use Rattle.std.specs.Prelude.{Option, Some, None, is_some, vec_len}
use Rattle.acquisition_machine.specs.declared.config.AcqConfig.{AcqConfig}
use Rattle.acquisition_machine.specs.Blocks.{Open, Cause, Retirement, due, given_back, fills}
use Rattle.acquisition_machine.specs.Machine.{leave_if, stay_if, leaving, staying, floor_after}
use Rattle.gev_types.specs.declared.block_account.Cause.{Cause as Told}
use Rattle.acq_core.specs.declared.slot.Slot.{Slot}
use Rattle.acq_core.specs.declared.window.Window.{Window}
use Rattle.acq_core.specs.Standing.{SlotsStand, AreSlots, floor_of, HasRoom}
use Rattle.acquisition_machine.specs.Blocks.{cause_of}
use Rattle.acq_core.specs.Ending.{cause_if, end_of, told_end, ends_of}
use Rattle.acq_core.specs.Retiring.{ChangesSlots, RetiresFirst, RetiresAll}

-- how far settling has come from the blocks with which it began
pub record SettlesTo (first last : Window) (os : List Open) : Type 0 where
  pub left : List Open
  pub slots : SlotsStand first.config.p last.slots.items left
  pub staying : staying first.config first.moment left ≡ staying first.config first.moment os
  pub fills : last.fills.items ++ fills first.config.p (leaving first.config first.moment left)
      ≡ first.fills.items ++ fills first.config.p (leaving first.config first.moment os)
  pub ends : last.ends.items ++ ends_of first.telling first.config.p (floor_of last.floor) (leaving first.config first.moment left)
      ≡ first.ends.items ++ ends_of first.telling first.config.p (floor_of first.floor) (leaving first.config first.moment os)
  pub floor : floor_after (floor_of last.floor) (leaving first.config first.moment left)
      ≡ floor_after (floor_of first.floor) (leaving first.config first.moment os)

pub record Settling (first last : Window) : Type 0 where
  pub part : (os : List Open) → SlotsStand first.config.p first.slots.items os → SettlesTo first last os
  pub slots : AreSlots last
  pub changes : ChangesSlots first last
  pub room : HasRoom last

-- one more
leaves_one : (p : ℕ) (o : Open) (d : Option Cause) (cause : Told) (rs : List Retirement) → cause_if d ≡ Some cause → fills p (leave_if d o rs) ≡ given_back p cause o o.given ++ fills p rs
leaves_one p o None cause rs e = absurd (apart e) where
  apart : None ≡ Some cause → ⊥
  apart e = cc
leaves_one p o (Some why) cause rs e =
    let same : cause_of why ≡ cause = cc in ap (λ (k : Told). given_back p k o o.given ++ fills p rs) same

floor_one : (low : ℕ) (o : Open) (d : Option Cause) (rs : List Retirement) → is_some d ≡ true → floor_after low (leave_if d o rs) ≡ floor_after (o.block + 1) rs
floor_one low o None rs e = absurd cc
floor_one low o (Some cause) rs e = refl

stays_one : (d : Option Cause) (os rest : List Open) → is_some d ≡ true → stay_if d os rest ≡ rest
stays_one None os rest e = absurd cc
stays_one (Some cause) os rest e = refl

ends_one : (t : Bool) (p low : ℕ) (o : Open) (d : Option Cause) (cause : Told) (rs : List Retirement) → cause_if d ≡ Some cause
    → ends_of t p low (leave_if d o rs) ≡ told_end t (end_of p low cause o) ++ ends_of t p (o.block + 1) rs
ends_one t p low o None cause rs e = absurd (apart e) where
  apart : None ≡ Some cause → ⊥
  apart e = cc
ends_one t p low o (Some why) cause rs e =
    let same : cause_of why ≡ cause = cc in ap (λ (k : Told). told_end t (end_of p low k o) ++ ends_of t p (o.block + 1) rs) same

some_due : (d : Option Cause) (cause : Told) → cause_if d ≡ Some cause → is_some d ≡ true
some_due None cause e = absurd (apart e) where
  apart : None ≡ Some cause → ⊥
  apart e = cc
some_due (Some why) cause e = refl

pub settles_one : (first mid last : Window) (os left : List Open) (o : Open) (cause : Told) → SlotsStand first.config.p mid.slots.items (o ∷ left) → mid.config ≡ first.config → mid.telling ≡ first.telling → cause_if (due first.config first.moment o) ≡ Some cause
    → staying first.config first.moment (o ∷ left) ≡ staying first.config first.moment os
    → mid.fills.items ++ fills first.config.p (leaving first.config first.moment (o ∷ left)) ≡ first.fills.items ++ fills first.config.p (leaving first.config first.moment os)
    → mid.ends.items ++ ends_of first.telling first.config.p (floor_of mid.floor) (leaving first.config first.moment (o ∷ left)) ≡ first.ends.items ++ ends_of first.telling first.config.p (floor_of first.floor) (leaving first.config first.moment os)
    → floor_after (floor_of mid.floor) (leaving first.config first.moment (o ∷ left)) ≡ floor_after (floor_of first.floor) (leaving first.config first.moment os)
    → RetiresFirst mid last cause o left → SettlesTo first last os
settles_one first mid last os left o cause stands same tell why stay fill end floor r =
    let rs : List Retirement = leaving first.config first.moment left in
    let d : Option Cause = due first.config first.moment o in
    let p : ℕ = first.config.p in
    let t : Bool = first.telling in
    let is : is_some d ≡ true = some_due d cause why in
    record {
      left = left;
      slots = subst (λ (k : AcqConfig). SlotsStand k.p last.slots.items left) same r.slots;
      staying = sym (stays_one d (o ∷ left) (staying first.config first.moment left) is) ∙ stay;
      fills = ap (λ l. l ++ fills p rs) (r.fills ∙ ap (λ (k : AcqConfig). mid.fills.items ++ given_back k.p cause o o.given) same)
          ∙ append_assoc mid.fills.items (given_back p cause o o.given) (fills p rs)
          ∙ ap (λ l. mid.fills.items ++ l) (sym (leaves_one p o d cause rs why))
          ∙ fill;
      ends = ap (λ l. l ++ ends_of t p (floor_of last.floor) rs) (r.ends ∙ ap (λ (k : AcqConfig). mid.ends.items ++ told_end mid.telling (end_of k.p (floor_of mid.floor) cause o)) same
          ∙ ap (λ (v : Bool). mid.ends.items ++ told_end v (end_of p (floor_of mid.floor) cause o)) tell)
          ∙ ap (λ (k : ℕ). (mid.ends.items ++ told_end t (end_of p (floor_of mid.floor) cause o)) ++ ends_of t p k rs) r.floor
          ∙ append_assoc mid.ends.items (told_end t (end_of p (floor_of mid.floor) cause o)) (ends_of t p (o.block + 1) rs)
          ∙ ap (λ l. mid.ends.items ++ l) (sym (ends_one t p (floor_of mid.floor) o d cause rs why))
          ∙ end;
      floor = ap (λ k. floor_after k rs) r.floor ∙ sym (floor_one (floor_of mid.floor) o d rs is) ∙ floor;
    }

-- nothing more is due
none_due : (o : Open) (d : Option Cause) (rs : List Retirement) (os rest : List Open) → is_some d ≡ false → (leave_if d o rs ≡ []) × (stay_if d os rest ≡ os)
none_due o None rs os rest e = (refl, refl)
none_due o (Some cause) rs os rest e = absurd cc

append_nil : {X : Type 0} (xs : List X) → xs ++ [] ≡ xs
append_nil [] = refl
append_nil (x ∷ xs) = ap (λ l. x ∷ l) (append_nil xs)

pub settles_end : (first last : Window) (os left : List Open) → SlotsStand first.config.p last.slots.items left
    → staying first.config first.moment left ≡ staying first.config first.moment os
    → last.fills.items ++ fills first.config.p (leaving first.config first.moment left) ≡ first.fills.items ++ fills first.config.p (leaving first.config first.moment os)
    → last.ends.items ++ ends_of first.telling first.config.p (floor_of last.floor) (leaving first.config first.moment left) ≡ first.ends.items ++ ends_of first.telling first.config.p (floor_of first.floor) (leaving first.config first.moment os)
    → floor_after (floor_of last.floor) (leaving first.config first.moment left) ≡ floor_after (floor_of first.floor) (leaving first.config first.moment os)
    → leaving first.config first.moment left ≡ [] → staying first.config first.moment left ≡ left
    → RetiresAll first last (leaving first.config first.moment os) (staying first.config first.moment os)
settles_end first last os left s stay fill end floor none all = record {
  slots = subst (λ l. SlotsStand first.config.p last.slots.items l) (sym all ∙ stay) s;
  fills = sym (append_nil last.fills.items) ∙ ap (λ rs. last.fills.items ++ fills first.config.p rs) (sym none) ∙ fill;
  ends = sym (append_nil last.ends.items) ∙ ap (λ rs. last.ends.items ++ ends_of first.telling first.config.p (floor_of last.floor) rs) (sym none) ∙ end;
  floor = ap (λ rs. floor_after (floor_of last.floor) rs) (sym none) ∙ floor;
}

-- the lowest of those that are left isn't due
pub ends_at : (c : AcqConfig) (now : ℕ) (left : List Open) → ((o : Open) (rest : List Open) → left ≡ o ∷ rest → is_some (due c now o) ≡ false) → (leaving c now left ≡ []) × (staying c now left ≡ left)
ends_at c now [] f = (refl, refl)
ends_at c now (o ∷ rest) f = none_due o (due c now o) (leaving c now rest) (o ∷ rest) (staying c now rest) (f o rest refl)

-- ---- the loop

-- with slots some block is left
pub no_left : (p : ℕ) (xs : List Slot) → SlotsStand p xs [] → 0 < length xs → ⊥
no_left p [] s some = absurd (omega arith)
no_left p (x ∷ xs) s some = s

pub mid_config : (first mid : Window) → ChangesSlots first mid → mid.config ≡ first.config
mid_config first mid ch = ap (λ (m : Window). m.config) ch

pub mid_telling : (first mid : Window) → ChangesSlots first mid → mid.telling ≡ first.telling
mid_telling first mid ch = ap (λ (m : Window). m.telling) ch

mid_moment : (first mid : Window) → ChangesSlots first mid → mid.moment ≡ first.moment
mid_moment first mid ch = ap (λ (m : Window). m.moment) ch

-- the lowest of those that are left is due
step_left : (first mid last : Window) (os left : List Open) (cause : Told) → SlotsStand first.config.p mid.slots.items left → mid.config ≡ first.config → mid.telling ≡ first.telling → mid.moment ≡ first.moment → 0 < length mid.slots.items
    → ((o : Open) (rest : List Open) → SlotsStand mid.config.p mid.slots.items (o ∷ rest) → Some cause ≡ cause_if (due mid.config mid.moment o))
    → ((o : Open) (rest : List Open) → SlotsStand mid.config.p mid.slots.items (o ∷ rest) → RetiresFirst mid last cause o rest)
    → staying first.config first.moment left ≡ staying first.config first.moment os
    → mid.fills.items ++ fills first.config.p (leaving first.config first.moment left) ≡ first.fills.items ++ fills first.config.p (leaving first.config first.moment os)
    → mid.ends.items ++ ends_of first.telling first.config.p (floor_of mid.floor) (leaving first.config first.moment left) ≡ first.ends.items ++ ends_of first.telling first.config.p (floor_of first.floor) (leaving first.config first.moment os)
    → floor_after (floor_of mid.floor) (leaving first.config first.moment left) ≡ floor_after (floor_of first.floor) (leaving first.config first.moment os)
    → SettlesTo first last os
step_left first mid last os [] cause s config tell moment some is r stay fill end floor = absurd (no_left first.config.p mid.slots.items s some)
step_left first mid last os (o ∷ left) cause s config tell moment some is r stay fill end floor =
    let stands : SlotsStand mid.config.p mid.slots.items (o ∷ left) = subst (λ (k : AcqConfig). SlotsStand k.p mid.slots.items (o ∷ left)) (sym config) s in
    let now : cause_if (due first.config first.moment o) ≡ Some cause =
    ap (λ (k : AcqConfig). cause_if (due k first.moment o)) (sym config) ∙ ap (λ m. cause_if (due mid.config m o)) (sym moment) ∙ sym (is o left stands) in
    settles_one first mid last os left o cause s config tell now stay fill end floor (r o left stands)

pub slots_left : (mid last : Window) (os : List Open) (cause : Told) → SlotsStand mid.config.p mid.slots.items os → last.config ≡ mid.config → 0 < length mid.slots.items
    → ((o : Open) (rest : List Open) → SlotsStand mid.config.p mid.slots.items (o ∷ rest) → RetiresFirst mid last cause o rest) → AreSlots last
slots_left mid last [] cause s config some r = absurd (no_left mid.config.p mid.slots.items s some)
slots_left mid last (o ∷ os) cause s config some r =
    (os, subst (λ (k : AcqConfig). SlotsStand k.p last.slots.items os) (sym config) (r o os s).slots)

pub settling_one : (first mid last : Window) (cause : Told) → Settling first mid → 0 < vec_len mid.slots
    → ((o : Open) (rest : List Open) → SlotsStand mid.config.p mid.slots.items (o ∷ rest) → Some cause ≡ cause_if (due mid.config mid.moment o))
    → ((o : Open) (rest : List Open) → SlotsStand mid.config.p mid.slots.items (o ∷ rest) → RetiresFirst mid last cause o rest)
    → ChangesSlots mid last → HasRoom last → Settling first last
settling_one first mid last cause s some is r ch room =
    let count : mid.slots.len ≡ length mid.slots.items = mid.slots.ok.0 in
    let more : 0 < length mid.slots.items = omega arith in
    record {
      part = λ os stands.
          let m = s.part os stands in
          step_left first mid last os m.left cause m.slots (mid_config first mid s.changes) (mid_telling first mid s.changes) (mid_moment first mid s.changes) more is r m.staying m.fills m.ends m.floor;
      slots = slots_left mid last s.slots.0 cause s.slots.1 (mid_config mid last ch) more r;
      changes = ch ∙ ap (λ (m : Window). record m { floor = last.floor; slots = last.slots; spare = last.spare; fills = last.fills; ends = last.ends }) s.changes;
      room = room;
    }

none_if : (d : Option Cause) → cause_if d ≡ None → is_some d ≡ false
none_if None e = refl
none_if (Some why) e = absurd (apart e) where
  apart : Some (cause_of why) ≡ None → ⊥
  apart e = cc

pub settling_end : (first last : Window) → Settling first last
    → ((o : Open) (rest : List Open) → SlotsStand last.config.p last.slots.items (o ∷ rest) → None ≡ cause_if (due last.config last.moment o))
    → (os : List Open) → SlotsStand first.config.p first.slots.items os
    → RetiresAll first last (leaving first.config first.moment os) (staying first.config first.moment os)
settling_end first last s not_due os stands =
    let m = s.part os stands in
    let config = mid_config first last s.changes in
    let moment = mid_moment first last s.changes in
    let over = ends_at first.config first.moment m.left
    (λ o rest e.
    let here : SlotsStand first.config.p last.slots.items (o ∷ rest) = subst (λ l. SlotsStand first.config.p last.slots.items l) e m.slots in
    let there : SlotsStand last.config.p last.slots.items (o ∷ rest) = subst (λ (k : AcqConfig). SlotsStand k.p last.slots.items (o ∷ rest)) (sym config) here in
    none_if (due first.config first.moment o) (ap (λ (k : AcqConfig). cause_if (due k first.moment o)) (sym config) ∙ ap (λ n. cause_if (due last.config n o)) (sym moment) ∙ sym (not_due o rest there))) in
    settles_end first last os m.left m.slots m.staying m.fills m.ends m.floor over.0 over.1
