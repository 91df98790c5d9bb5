-- Room for another block, and the bound.
use Rattle.std.proofs.Common.{◌≡◌, ℕ, ◌<◌, ◌≤◌, List, [], ◌∷◌, ◌++◌, length, get_or, Bool, true, false, refl, sym, ap, subst, ◌∙◌, arith}
use Rattle.std.specs.Prelude.{◌==◌, Some, vec_len}
use Rattle.std.proofs.lemmas.Bool.{le-leb, lt-leb, eqb-false}
use Rattle.acquisition_machine.specs.declared.config.AcqConfig.{AcqConfig}
use Rattle.acquisition_machine.specs.declared.need.Need.TheVariants.{Buffer}
use Rattle.acquisition_machine.specs.Blocks.{Open, given_back}
use Rattle.acquisition_machine.specs.Machine.{State, bound, is_full, lowest_or, floor_after, displaced_of, rest_of, wants}
use Rattle.gev_types.specs.declared.block_account.Cause.TheVariants.{Displaced}
use Rattle.acq_core.specs.declared.slot.Slot.{Slot}
use Rattle.acq_core.specs.declared.window.Window.{Window}
use Rattle.acq_core.specs.Standing.{SlotsStand, Acts, floor_of}
use Rattle.acq_core.specs.Ending.{end_of, told_end}
use Rattle.acq_core.specs.Retiring.{ChangesSlots, RetiresFirst, RetiresAll}
use Rattle.acq_core.specs.Turning.{Answers}
use Rattle.acq_core.proofs.Acting.{append_nil}

pub length-stand : (p : ℕ) (xs : List Slot) (os : List Open) → SlotsStand p xs os → length xs ≡ length os
length-stand p [] [] s = refl
length-stand p [] (o ∷ os) s = absurd s
length-stand p (x ∷ xs) [] s = absurd s
length-stand p (x ∷ xs) (o ∷ os) s = let rest = length-stand p xs os s.1 in rw rest refl

-- there are as many slots as open blocks
pub count-opens : (m : Window) (s : State) → Acts m s → m.slots.len ≡ length s.opens
count-opens m s acts = m.slots.ok.0 ∙ length-stand m.config.p m.slots.items s.opens acts.slots

pub none_displaced : (m : Window) (s : State) → Acts m s → vec_len m.slots < m.config.window → RetiresAll m m (displaced_of (is_full m.config s.opens) s.opens) (rest_of (is_full m.config s.opens) s.opens)
none_displaced m s acts room =
    let count = count-opens m s acts in
    let free : length s.opens < m.config.window = omega (arith, count) in
    let none : is_full m.config s.opens ≡ false = lt-leb m.config.window (length s.opens) free in
    rw none (record { slots = acts.slots; fills = sym (append_nil m.fills.items); ends = sym (append_nil m.ends.items); floor = refl })

one_displaced_step : (m n : Window) (os : List Open) → SlotsStand m.config.p m.slots.items os → 0 < length os
    → ((o : Open) (rest : List Open) → SlotsStand m.config.p m.slots.items (o ∷ rest) → RetiresFirst m n Displaced o rest)
    → RetiresAll m n (displaced_of true os) (rest_of true os)
one_displaced_step m n [] s some r = absurd (omega arith)
one_displaced_step m n (o ∷ os) s some r =
    let first = r o os s in
    record {
      slots = first.slots;
      fills = first.fills ∙ ap (λ l. m.fills.items ++ l) (sym (append_nil (given_back m.config.p Displaced o o.given)));
      ends = first.ends ∙ ap (λ l. m.ends.items ++ l) (sym (append_nil (told_end m.telling (end_of m.config.p (floor_of m.floor) Displaced o))));
      floor = first.floor;
    }

pub one_displaced : (m n : Window) (s : State) → Acts m s → m.config.window ≤ vec_len m.slots → 1 ≤ m.config.window
    → ((o : Open) (rest : List Open) → SlotsStand m.config.p m.slots.items (o ∷ rest) → RetiresFirst m n Displaced o rest)
    → RetiresAll m n (displaced_of (is_full m.config s.opens) s.opens) (rest_of (is_full m.config s.opens) s.opens)
one_displaced m n s acts room one r =
    let count = count-opens m s acts in
    let all : m.config.window ≤ length s.opens = omega (arith, count) in
    let some : 0 < length s.opens = omega arith in
    let full : is_full m.config s.opens ≡ true = le-leb m.config.window (length s.opens) all in
    rw full (one_displaced_step m n s.opens acts.slots some r)

pub wants_answers : (a b : Window) (s : State) (block : ℕ) → Acts a s → RetiresAll a b (displaced_of (is_full a.config s.opens) s.opens) (rest_of (is_full a.config s.opens) s.opens) → ChangesSlots a b → Answers a (record b { asked = Some block }) (Buffer block) (wants a.config block s)
wants_answers a b s block acts r ch =
    let config : b.config ≡ a.config = ap (λ (m : Window). m.config) ch in
    record {
      gives = record {
        acts = record {
          moment = ap (λ (m : Window). m.moment) ch ∙ acts.moment;
          floor = r.floor ∙ ap (λ low. floor_after low (displaced_of (is_full a.config s.opens) s.opens)) acts.floor;
          slots = subst (λ (k : AcqConfig). SlotsStand k.p b.slots.items (rest_of (is_full a.config s.opens) s.opens)) (sym config) r.slots;
          asked = refl;
          counts = ap (λ (m : Window). m.counts) ch ∙ acts.counts;
          number = ap (λ (m : Window). m.number) ch ∙ acts.number;
        };
        fills = r.fills;
        ends = r.ends;
        telling = ap (λ (m : Window). m.telling) ch;
        requests = ap (λ (m : Window). m.requests.items) ch ∙ sym (append_nil a.requests.items);
        config = config;
      };
      need = refl;
    }

-- ---- the bound

pub bound_room : (m : Window) (s : State) → Acts m s → vec_len m.slots < m.config.window → floor_of m.floor ≡ bound m.config s
bound_room m s acts room =
    let count = count-opens m s acts in
    let free : length s.opens < m.config.window = omega (arith, count) in
    let none : is_full m.config s.opens ≡ false = lt-leb m.config.window (length s.opens) free in
    rw none acts.floor

lowest_step : (p low : ℕ) (xs : List Slot) (os : List Open) (d : Slot) → SlotsStand p xs os → 0 < length xs → (get_or xs 0 d).block ≡ lowest_or low os
lowest_step p low [] os d s some = absurd (omega arith)
lowest_step p low (x ∷ xs) [] d s some = absurd s
lowest_step p low (x ∷ xs) (o ∷ os) d s some = s.0.block

pub bound_full : (m : Window) (s : State) (x : Slot) → Acts m s → m.config.window ≤ vec_len m.slots → 0 < vec_len m.slots → x ≡ get_or m.slots.items 0 x → x.block ≡ bound m.config s
bound_full m s x acts room some is =
    let count = count-opens m s acts in
    let all : m.config.window ≤ length s.opens = omega (arith, count) in
    let full : is_full m.config s.opens ≡ true = le-leb m.config.window (length s.opens) all in
    let items : m.slots.len ≡ length m.slots.items = m.slots.ok.0 in
    let more : 0 < length m.slots.items = omega (arith, items) in
    rw full (ap (λ (y : Slot). y.block) is ∙ lowest_step m.config.p s.floor m.slots.items s.opens x acts.slots more)

pub some_slots : (n : ℕ) (v : Bool) → v ≡ (n == 0) → v ≡ false → 0 < n
some_slots n v e f = let apart = eqb-false n 0 (sym e ∙ f) in omega (arith, apart)
