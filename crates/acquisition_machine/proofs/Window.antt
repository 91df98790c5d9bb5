-- The window: order, bound, and the order in which blocks retire.
use Rattle.std.proofs.Common.{◌≡◌, ◌⊎◌, inl, inr, ℕ, ◌<◌, ◌≤◌, List, [], ◌∷◌, ◌++◌, length, refl, sym, ap, subst, ◌∙◌, arith}
use Rattle.stream_packets.specs.Packets.{StreamPacket}
use Rattle.acquisition_machine.specs.declared.config.AcqConfig.{AcqConfig}
use Rattle.acquisition_machine.specs.Blocks.{Open, opened}
use Rattle.acquisition_machine.specs.Machine.{Input, datagram, claimed, tick, stop, restart, State, Turn, bound_of, bound, floor_after, after_rounds, step}
use Rattle.acquisition_machine.specs.Runs.{first_state, after_from, After, retired_from}
use Rattle.acquisition_machine.specs.Sound.{RiseFrom, IsSound}
use Rattle.acquisition_machine.specs.Laws.{BlocksAreInOrder, StepsKeepOrder, HasNoRestart, BoundNeverFalls, RetireFrom, BlocksRetireInOrder}
use Rattle.acquisition_machine.proofs.Order.{rise_lower, rise_swap, rise_put, length-swap, length-put}
use Rattle.acquisition_machine.proofs.Retiring.{were, rise_rest, retire_rise, floor_rises, floor_after-append, retire_append, floor_below_bound, bound-room, bound_rises, rise_rounds, length-rounds, bound-rounds}
use Rattle.acquisition_machine.proofs.Turned.{Hears, Changed, nothing, passed, heard, taken, FloorIs, Turned, turned}
use Rattle.acquisition_machine.proofs.Joining.{after_from-append}
use Rattle.std.proofs.lemmas.List.{length-append}

-- ---- a block that changes or is opened

pub hears-block : (now : ℕ) (x : StreamPacket) (o n : Open) → Hears now x o n → n.block ≡ o.block
hears-block now x o n (inl e) = ap (λ (m : Open). m.block) e
hears-block now x o n (inr e) = ap (λ (m : Open). m.block) e

rise_changed : (c : AcqConfig) (s : State) {i : Input} {mid : List Open} → IsSound c s → Changed s i mid → RiseFrom s.floor mid
rise_changed c s sound (nothing none) = sound.rise
rise_changed c s sound (passed bytes x is others) = sound.rise
rise_changed c s sound (heard bytes x o n f is h) =
    rise_swap s.floor f.front o n f.back (hears-block s.now x o n h) (subst (λ l. RiseFrom s.floor l) f.parts sound.rise)
rise_changed c s sound (taken b given f e) =
    subst (λ l. RiseFrom s.floor l) f.now
    (rise_put s.floor (opened b given s.now) s.opens (sound.claim b e).above (sound.claim b e).others sound.rise)

pub room_changed : (c : AcqConfig) (s : State) {i : Input} {mid : List Open} → IsSound c s → Changed s i mid → length mid ≤ c.window
room_changed c s sound (nothing none) = sound.room
room_changed c s sound (passed bytes x is others) = sound.room
room_changed c s sound (heard bytes x o n f is h) =
    rw (length-swap f.front o n f.back) (subst (λ l. length l ≤ c.window) f.parts sound.room)
room_changed c s sound (taken b given f e) =
    let free = (sound.claim b e).room in
    let before : length (f.front ++ f.back) < c.window = subst (λ l. length l < c.window) f.was free in
    let more = length-put f.front (opened b given s.now) f.back in
    omega (arith, more, before)

bound-swap : (c : AcqConfig) (low : ℕ) (front : List Open) (o n : Open) (back : List Open) → n.block ≡ o.block → bound_of c low (front ++ n ∷ back) ≡ bound_of c low (front ++ o ∷ back)
bound-swap c low [] o n back e = rw e refl
bound-swap c low (f ∷ front) o n back e = rw (length-swap front o n back) refl

bound_changed : (c : AcqConfig) (s : State) {i : Input} {mid : List Open} → IsSound c s → Changed s i mid → bound_of c s.floor s.opens ≤ bound_of c s.floor mid
bound_changed c s sound (nothing none) = omega arith
bound_changed c s sound (passed bytes x is others) = omega arith
bound_changed c s sound (heard bytes x o n f is h) =
    let before = ap (λ l. bound_of c s.floor l) f.parts in
    let after = bound-swap c s.floor f.front o n f.back (hears-block s.now x o n h) in
    omega (arith, before, after)
bound_changed c s sound (taken b given f e) =
    let before = bound-room c s.floor s.opens (sound.claim b e).room in
    let rise = rise_changed c s sound (taken b given f e) in
    let after = floor_below_bound c s.floor (f.front ++ opened b given s.now ∷ f.back) rise in
    omega (arith, before, after)

-- ---- one input

-- the order of what retires and of what stays
rise_parts : (c : AcqConfig) (s : State) (i : Input) (t : Turn) → IsSound c s → (d : Turned c s i t) → RiseFrom s.floor (were t.retired ++ d.rest)
rise_parts c s i t sound d = subst (λ l. RiseFrom s.floor l) (sym d.parts) (rise_changed c s sound d.changed)

floor_low : (s : State) (i : Input) (t : Turn) → FloorIs s i t → 1 ≤ floor_after s.floor t.retired → (1 ≤ t.after.floor) × (t.after.floor ≤ floor_after s.floor t.retired)
floor_low s (datagram bytes) t f h = (omega (arith, f), omega (arith, f))
floor_low s (claimed given) t f h = (omega (arith, f), omega (arith, f))
floor_low s (tick moment) t f h = (omega (arith, f), omega (arith, f))
floor_low s stop t f h = (omega (arith, f), omega (arith, f))
floor_low s restart t f h = (omega (arith, f), omega (arith, f))

rise_opens : (c : AcqConfig) (now low : ℕ) (rest opens : List Open) → (opens ≡ rest) ⊎ (opens ≡ after_rounds c now rest) → RiseFrom low rest → RiseFrom low opens
rise_opens c now low rest opens (inl e) r = subst (λ l. RiseFrom low l) (sym e) r
rise_opens c now low rest opens (inr e) r = subst (λ l. RiseFrom low l) (sym e) (rise_rounds c now low rest r)

pub length-opens : (c : AcqConfig) (now : ℕ) (rest opens : List Open) → (opens ≡ rest) ⊎ (opens ≡ after_rounds c now rest) → length opens ≡ length rest
length-opens c now rest opens (inl e) = ap length e
length-opens c now rest opens (inr e) = ap length e ∙ length-rounds c now rest

bound-opens : (c : AcqConfig) (now low : ℕ) (rest opens : List Open) → (opens ≡ rest) ⊎ (opens ≡ after_rounds c now rest) → bound_of c low opens ≡ bound_of c low rest
bound-opens c now low rest opens (inl e) = ap (λ l. bound_of c low l) e
bound-opens c now low rest opens (inr e) = ap (λ l. bound_of c low l) e ∙ bound-rounds c now low rest

sound_after : (c : AcqConfig) (s : State) (i : Input) (t : Turn) → IsSound c s → Turned c s i t → IsSound c t.after
sound_after c s i t sound d =
    let rise = rise_parts c s i t sound d in
    let higher = floor_rises s.floor t.retired d.rest rise in
    let above : 1 ≤ floor_after s.floor t.retired = omega (arith, sound.from_one, higher) in
    let low = floor_low s i t d.floor above in
    let rest : RiseFrom t.after.floor d.rest =
    rise_lower (floor_after s.floor t.retired) t.after.floor d.rest low.1 (rise_rest s.floor t.retired d.rest rise) in
    let all : length (were t.retired ++ d.rest) ≤ c.window = subst (λ l. length l ≤ c.window) (sym d.parts) (room_changed c s sound d.changed) in
    let count = length-append (were t.retired) d.rest in
    let same = length-opens c t.after.now d.rest t.after.opens d.opens in
    record {
      from_one = low.0;
      rise = rise_opens c t.after.now t.after.floor d.rest t.after.opens d.opens rest;
      room = omega (arith, all, count, same);
      claim = d.claim;
      number = d.number sound.number;
    }

pub step_sound : StepsKeepOrder
step_sound c s i some sound = sound_after c s i (step c s i) sound (turned c s i some sound)

pub first_sound : (c : AcqConfig) → IsSound c first_state
first_sound c = record {
  from_one = omega arith;
  rise = tt;
  room = omega arith;
  claim = λ b e. absurd cc;
  number = record { from_one = omega arith; at_most = omega arith };
}

pub run_sound : (c : AcqConfig) (s : State) (q : List Input) → 1 ≤ c.window → IsSound c s → IsSound c (after_from c s q)
run_sound c s [] some sound = sound
run_sound c s (i ∷ q) some sound = run_sound c (step c s i).after q some (step_sound c s i some sound)

pub blocks_are_in_order : BlocksAreInOrder
blocks_are_in_order c q some = run_sound c first_state q some (first_sound c)

-- ---- one acquisition

no_restart : (i : Input) (q : List Input) → HasNoRestart (i ∷ q) → HasNoRestart q
no_restart (datagram bytes) q h = h
no_restart (claimed given) q h = h
no_restart (tick moment) q h = h
no_restart stop q h = h
no_restart restart q h = absurd h

floor_on : (s : State) (i : Input) (q : List Input) (t : Turn) → HasNoRestart (i ∷ q) → FloorIs s i t → t.after.floor ≡ floor_after s.floor t.retired
floor_on s (datagram bytes) q t h f = f
floor_on s (claimed given) q t h f = f
floor_on s (tick moment) q t h f = f
floor_on s stop q t h f = f
floor_on s restart q t h f = absurd h

-- One input that is no start.
record Moves (c : AcqConfig) (s : State) (t : Turn) : Type 0 where
  pub bound : bound c s ≤ bound c t.after
  pub retire : RetireFrom s.floor t.retired
  pub floor : t.after.floor ≡ floor_after s.floor t.retired

moves_turned : (c : AcqConfig) (s : State) (i : Input) (q : List Input) (t : Turn) → HasNoRestart (i ∷ q) → IsSound c s → Turned c s i t → Moves c s t
moves_turned c s i q t h sound d =
    let rise = rise_parts c s i t sound d in
    let floor = floor_on s i q t h d.floor in
    let all : length (were t.retired ++ d.rest) ≤ c.window = subst (λ l. length l ≤ c.window) (sym d.parts) (room_changed c s sound d.changed) in
    let first = bound_changed c s sound d.changed in
    let second : bound_of c s.floor d.mid ≤ bound_of c (floor_after s.floor t.retired) d.rest =
    subst (λ l. bound_of c s.floor l ≤ bound_of c (floor_after s.floor t.retired) d.rest) d.parts (bound_rises c s.floor t.retired d.rest rise all) in
    let third = bound-opens c t.after.now t.after.floor d.rest t.after.opens d.opens in
    let fourth = ap (λ k. bound_of c k d.rest) floor in
    record {
      bound = omega (arith, first, second, third, fourth);
      retire = retire_rise s.floor t.retired d.rest rise;
      floor = floor;
    }

moves : (c : AcqConfig) (s : State) (i : Input) (q : List Input) → 1 ≤ c.window → HasNoRestart (i ∷ q) → IsSound c s → Moves c s (step c s i)
moves c s i q some h sound = moves_turned c s i q (step c s i) h sound (turned c s i some sound)

bound_on : (c : AcqConfig) (s : State) (rest : List Input) → 1 ≤ c.window → HasNoRestart rest → IsSound c s → bound c s ≤ bound c (after_from c s rest)
bound_on c s [] some h sound = omega arith
bound_on c s (i ∷ rest) some h sound =
    let first = (moves c s i rest some h sound).bound in
    let later = bound_on c (step c s i).after rest some (no_restart i rest h) (step_sound c s i some sound) in
    omega (arith, first, later)

pub bound_never_falls : BoundNeverFalls
bound_never_falls c q rest some h =
    let joined = ap (λ s. bound c s) (after_from-append c first_state q rest) in
    let later = bound_on c (After c q) rest some h (blocks_are_in_order c q some) in
    omega (arith, joined, later)

-- what retires rises, and the floor follows
record Retires (c : AcqConfig) (s : State) (rest : List Input) : Type 0 where
  pub rising : RetireFrom s.floor (retired_from c s rest)
  pub floor : (after_from c s rest).floor ≡ floor_after s.floor (retired_from c s rest)

retires : (c : AcqConfig) (s : State) (rest : List Input) → 1 ≤ c.window → HasNoRestart rest → IsSound c s → Retires c s rest
retires c s [] some h sound = record { rising = tt; floor = refl }
retires c s (i ∷ rest) some h sound =
    let first = moves c s i rest some h sound in
    let later = retires c (step c s i).after rest some (no_restart i rest h) (step_sound c s i some sound) in
    record {
      rising = retire_append s.floor (step c s i).retired (retired_from c (step c s i).after rest) first.retire
          (subst (λ k. RetireFrom k (retired_from c (step c s i).after rest)) first.floor later.rising);
      floor = later.floor ∙ ap (λ k. floor_after k (retired_from c (step c s i).after rest)) first.floor
          ∙ sym (floor_after-append s.floor (step c s i).retired (retired_from c (step c s i).after rest));
    }

pub blocks_retire_in_order : BlocksRetireInOrder
blocks_retire_in_order c q rest some h =
    let all = retires c (After c q) rest some h (blocks_are_in_order c q some) in
    record {
      rising = all.rising;
      floor = ap (λ (s : State). s.floor) (after_from-append c first_state q rest) ∙ all.floor;
    }
