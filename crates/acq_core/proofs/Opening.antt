-- A block is opened.
use Rattle.std.proofs.Common.{◌≡◌, ◌≢◌, ℕ, suc, ◌+◌, ◌<◌, List, [], ◌∷◌, length, Bool, true, false, refl, sym, ap, subst, ◌∙◌, arith}
use Rattle.std.specs.Prelude.{nat_lt, not, cond, position, insert, Option, Some, None, vec_len}
use Rattle.std.specs.List.{prefix_len}
use Rattle.std.proofs.lemmas.Bool.{ne_eqb}
use Rattle.std.proofs.lemmas.List.Sums.{prefix_len-le-length}
use Rattle.acquisition_machine.specs.declared.config.AcqConfig.{AcqConfig}
use Rattle.acquisition_machine.specs.declared.counts.Counts.{Counts}
use Rattle.acquisition_machine.specs.Blocks.{Given, Open, opened}
use Rattle.acquisition_machine.specs.Machine.{State, put, unasked, quiet, count_given, opens_block, claimed, step}
use Rattle.acquisition_machine.specs.Sound.{AreOthers, IsSound, MayOpen}
use Rattle.acq_core.specs.declared.slot.Slot.{Slot}
use Rattle.acq_core.specs.declared.window.Window.{Window}
use Rattle.acq_core.specs.Standing.{SlotStands, SlotsStand, Acts, ActsForSome, HasRoom, floor_of, capped}
use Rattle.acq_core.specs.Turning.{Gives}
use Rattle.acq_core.proofs.Acting.{append_nil}
use Rattle.acq_core.proofs.Places.{some_step, none_at}
use Rattle.acq_core.proofs.Wanting.{count-opens}

-- ---- the place

pub place_some : (b at : ℕ) (xs : List Slot) → Some at ≡ position (λ x. nat_lt b x.block) xs → at ≡ prefix_len (λ x. not (nat_lt b x.block)) xs
place_some b at xs is =
    let n : ℕ = prefix_len (λ (x : Slot). not (nat_lt b x.block)) xs in
    sym (some_step n (length xs) at (nat_lt n (length xs)) refl (sym is)).0

pub place_none : (b : ℕ) (xs : List Slot) → None ≡ position (λ x. nat_lt b x.block) xs → length xs ≡ prefix_len (λ x. not (nat_lt b x.block)) xs
place_none b xs is =
    let n : ℕ = prefix_len (λ (x : Slot). not (nat_lt b x.block)) xs in
    let all = none_at n (length xs) (nat_lt n (length xs)) refl (sym is) in
    let most = prefix_len-le-length (λ (x : Slot). not (nat_lt b x.block)) xs in
    omega (arith, all, most)

inserted_step : (p : ℕ) (y : Slot) (o : Open) (x : Slot) (xs : List Slot) (n : Open) (os : List Open) (k : ℕ) (v : Bool) → nat_lt o.block n.block ≡ v → nat_lt o.block x.block ≡ v → n.block ≢ o.block → SlotStands p x n → SlotsStand p xs os → SlotStands p y o
    → SlotsStand p (insert xs k y) (put o os) → SlotsStand p (insert (x ∷ xs) (cond (not v) (1 + k) 0) y) (put o (n ∷ os))
inserted_step p y o x xs n os k true e f apart s ss t later = rw e (t, (s, ss))
inserted_step p y o x xs n os k false e f apart s ss t later =
    let next : suc k ≡ 1 + k = omega arith in
    let other : o.block ≢ n.block = λ same. apart (sym same) in
    subst (λ j. SlotsStand p (insert (x ∷ xs) j y) (put o (n ∷ os))) next (rw (e, ne_eqb o.block n.block other) (s, later))

-- a slot that is put there stands for the block among the others
pub inserted : (p : ℕ) (y : Slot) (o : Open) (xs : List Slot) (os : List Open) → SlotsStand p xs os → SlotStands p y o → AreOthers o.block os → SlotsStand p (insert xs (prefix_len (λ x. not (nat_lt o.block x.block)) xs) y) (put o os)
inserted p y o [] [] s t a = (t, tt)
inserted p y o [] (n ∷ os) s t a = absurd s
inserted p y o (x ∷ xs) [] s t a = absurd s
inserted p y o (x ∷ xs) (n ∷ os) s t a =
    let same : nat_lt o.block x.block ≡ nat_lt o.block n.block = ap (nat_lt o.block) s.0.block in
    subst (λ v. SlotsStand p (insert (x ∷ xs) (cond (not v) (1 + prefix_len (λ (x : Slot). not (nat_lt o.block x.block)) xs) 0) y) (put o (n ∷ os))) (sym same)
    (inserted_step p y o x xs n os (prefix_len (λ (x : Slot). not (nat_lt o.block x.block)) xs) (nat_lt o.block n.block) refl same a.0 s.0 s.1 t
    (inserted p y o xs os s.1 t a.1))

-- ---- the turn

may_open : (m : Window) (s : State) (b : ℕ) → Acts m s → IsSound m.config s → m.asked ≡ Some b → MayOpen m.config s b
may_open m s b acts sound asked = sound.claim b (sym acts.asked ∙ asked)

-- bitmaps are left for one more block
pub some_spare : (m : Window) (b : ℕ) → ActsForSome m → HasRoom m → m.asked ≡ Some b → 0 < vec_len m.spare
some_spare m b some room asked =
    let free = (may_open m some.state b some.acts some.sound asked).room in
    let count = count-opens m some.state some.acts in
    let pairs = room.pairs in
    omega (arith, free, count, pairs)

pub opens_gives : (m n : Window) (s : State) (b at : ℕ) (y : Slot) (given : Option Given) → n ≡ record m { asked = None; slots = n.slots; counts = n.counts; spare = n.spare } → Acts m s → IsSound m.config s → m.asked ≡ Some b
    → at ≡ prefix_len (λ x. not (nat_lt b x.block)) m.slots.items → n.slots.items ≡ insert m.slots.items at y → SlotStands m.config.p y (opened b given m.moment)
    → ((k : Counts) → m.counts ≡ capped k → n.counts ≡ capped (count_given given k))
    → Gives m n (step m.config s (claimed given))
opens_gives m n s b at y given rest acts sound asked place items stands counted =
    let is : s.asked ≡ Some b = sym acts.asked ∙ asked in
    let config : n.config ≡ m.config = ap (λ (k : Window). k.config) rest in
    let p : ℕ = m.config.p in
    let open_now : SlotStands p y (opened b given s.now) = subst (λ now. SlotStands p y (opened b given now)) acts.moment stands in
    let put_in : SlotsStand p (insert m.slots.items (prefix_len (λ (x : Slot). not (nat_lt b x.block)) m.slots.items) y) (put (opened b given s.now) s.opens) =
    inserted p y (opened b given s.now) m.slots.items s.opens acts.slots open_now (may_open m s b acts sound asked).others in
    let there : SlotsStand p n.slots.items (put (opened b given s.now) s.opens) =
    subst (λ l. SlotsStand p l (put (opened b given s.now) s.opens)) (sym (items ∙ ap (λ k. insert m.slots.items k y) place)) put_in in
    subst (λ k. Gives m n (quiet (opens_block given k (unasked s)))) (sym is)
    (record {
      acts = record {
        moment = ap (λ (k : Window). k.moment) rest ∙ acts.moment;
        floor = ap (λ (k : Window). floor_of k.floor) rest ∙ acts.floor;
        slots = subst (λ (k : AcqConfig). SlotsStand k.p n.slots.items (put (opened b given s.now) s.opens)) (sym config) there;
        asked = ap (λ (k : Window). k.asked) rest;
        counts = counted s.counts acts.counts;
        number = ap (λ (k : Window). k.number) rest ∙ acts.number;
      };
      fills = ap (λ (k : Window). k.fills.items) rest ∙ sym (append_nil m.fills.items);
      ends = ap (λ (k : Window). k.ends.items) rest ∙ sym (append_nil m.ends.items);
      telling = ap (λ (k : Window). k.telling) rest;
      requests = ap (λ (k : Window). k.requests.items) rest ∙ sym (append_nil m.requests.items);
      config = config;
    })
