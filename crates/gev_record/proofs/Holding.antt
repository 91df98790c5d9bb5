-- The buffers of the open blocks of a recorded run: at three places, each held once, and what inputs make of them.
use Rattle.std.proofs.Common.{◌≡◌, ◌≢◌, ◌⊎◌, inl, inr, ℕ, suc, ◌+◌, ◌<◌, ◌≤◌, ◌==◌, Bool, true, false, List, [], ◌∷◌, ◌++◌, length, map, if◌then◌else◌, refl, sym, ap, subst, ◌∙◌, arith, eqb-true}
use Rattle.std.specs.Prelude.{Option, Some, None}
use Rattle.std.specs.List.{AllByRecursion}
use Rattle.std.proofs.lemmas.Bool.{eqb-false, cases_eq}
use Rattle.board_machine.specs.Places.{same, times}
use Rattle.board_machine.proofs.Places.{times-append, same_self, same_other, same_le}
use Rattle.acquisition_machine.specs.declared.retired.Retired.{Retired}
use Rattle.acquisition_machine.specs.Blocks.{Given, Open, fills}
use Rattle.acquisition_machine.specs.Machine.{Input, datagram, claimed, tick, stop, State, step}
use Rattle.acquisition_machine.specs.Runs.{first_state, After}
use Rattle.acquisition_machine.specs.TurnLaws.{held, given_of, with_given, HasOneMore, TakesGiven, GivesBack}
use Rattle.acquisition_machine.proofs.Joining.{after_from-append}
use Rattle.acquisition_machine.proofs.Order.{all_append, all_front, all_back}
use Rattle.acquisition_machine.proofs.Buffers.{no_buffer_is_lost}
use Rattle.acquisition_machine.proofs.Window.{blocks_are_in_order}
use Rattle.acquisition_machine.specs.Turns.{buffer_size}
use Rattle.gev_record.specs.Script.{live_config, held_places, is_among, lowest_free}

abbrev pub places_in : List Given → List ℕ
places_in gs = map (λ (g : Given). g.place) gs

pub places_in-append : (gs hs : List Given) → places_in (gs ++ hs) ≡ places_in gs ++ places_in hs
places_in-append [] hs = refl
places_in-append (g ∷ gs) hs = ap (λ l. g.place ∷ l) (places_in-append gs hs)

-- one of the three places, with a buffer of a recorded run's size
pub record IsLive (g : Given) : Type 0 where
  pub low : g.place < 3
  pub sized : g.size ≡ buffer_size

-- Inputs lead to this state; and each open block's buffer is at one of the three places, no two at one.
pub record Live (s : State) : Type 0 where
  pub inputs : List Input
  pub reached : After live_config inputs ≡ s
  pub each : AllByRecursion IsLive (held s.opens)
  pub once : (i : ℕ) → times i (held_places s) ≤ 1

pub reaches_on : (q : List Input) (s : State) (i : Input) → After live_config q ≡ s → After live_config (q ++ i ∷ []) ≡ (step live_config s i).after
reaches_on q s i e = after_from-append live_config first_state q (i ∷ []) ∙ ap (λ u. (step live_config u i).after) e

-- what came back, and what stayed
abbrev pub BacksOf : State → Input → Type 0
BacksOf s i = GivesBack live_config.p s.opens (step live_config s i)

backs_datagram : (q : List Input) (s : State) (bytes : List ℕ) → After live_config q ≡ s → BacksOf s (datagram bytes)
backs_datagram q s bytes e = subst (λ u. BacksOf u (datagram bytes)) e (no_buffer_is_lost live_config q (datagram bytes) (omega arith))

backs_tick : (q : List Input) (s : State) (moment : ℕ) → After live_config q ≡ s → BacksOf s (tick moment)
backs_tick q s moment e = subst (λ u. BacksOf u (tick moment)) e (no_buffer_is_lost live_config q (tick moment) (omega arith))

backs_stop : (q : List Input) (s : State) → After live_config q ≡ s → BacksOf s stop
backs_stop q s e = subst (λ u. BacksOf u stop) e (no_buffer_is_lost live_config q stop (omega arith))

abbrev pub came_back : State → Input → List Retired
came_back s i = fills live_config.p (step live_config s i).retired

-- what an input leaves, where what retires comes back
pub record Settled (s : State) (i : Input) : Type 0 where
  pub live : Live (step live_config s i).after
  pub back : AllByRecursion IsLive (map given_of (came_back s i))
  pub places : held_places s ≡ places_in (map given_of (came_back s i)) ++ held_places (step live_config s i).after

settled_by : (s : State) (i : Input) → Live s → BacksOf s i → Settled s i
settled_by s i live backs =
    let gone : List Given = map given_of (came_back s i) in
    let left : List Given = held (step live_config s i).after.opens in
    let all = subst (λ l. AllByRecursion IsLive l) (sym backs) live.each in
    let places : held_places s ≡ places_in gone ++ places_in left = ap places_in (sym backs) ∙ places_in-append gone left in
    record {
      live = record {
        inputs = live.inputs ++ i ∷ [];
        reached = reaches_on live.inputs s i live.reached;
        each = all_back IsLive gone left all;
        once = λ k. (let first = live.once k in let sum : times k (held_places s) ≡ times k (places_in gone) + times k (places_in left) =
            ap (times k) places ∙ times-append k (places_in gone) (places_in left) in omega (arith, first, sum));
      };
      back = all_front IsLive gone left all;
      places = places;
    }

pub settled_datagram : (s : State) (bytes : List ℕ) → Live s → Settled s (datagram bytes)
settled_datagram s bytes live = settled_by s (datagram bytes) live (backs_datagram live.inputs s bytes live.reached)

pub settled_tick : (s : State) (moment : ℕ) → Live s → Settled s (tick moment)
settled_tick s moment live = settled_by s (tick moment) live (backs_tick live.inputs s moment live.reached)

pub settled_stop : (s : State) → Live s → Settled s stop
settled_stop s live = settled_by s stop live (backs_stop live.inputs s live.reached)

-- ---- the outcome of a claim

takes_given : (q : List Input) (s : State) (given : Option Given) → After live_config q ≡ s
    → TakesGiven given s.asked (held s.opens) (held (step live_config s (claimed given)).after.opens)
takes_given q s given e =
    subst (λ u. TakesGiven given u.asked (held u.opens) (held (step live_config u (claimed given)).after.opens)) e
    (no_buffer_is_lost live_config q (claimed given) (omega arith)).1

-- No buffer was given, and none is held in addition.
pub none_given : (s : State) → Live s → (Live (step live_config s (claimed None)).after) × (held_places (step live_config s (claimed None)).after ≡ held_places s)
none_given s live =
    let same : held (step live_config s (claimed None)).after.opens ≡ held s.opens = takes_given live.inputs s None live.reached in (
      record {
        inputs = live.inputs ++ claimed None ∷ [];
        reached = reaches_on live.inputs s (claimed None) live.reached;
        each = subst (λ l. AllByRecursion IsLive l) (sym same) live.each;
        once = λ k. subst (λ l. times k (places_in l) ≤ 1) (sym same) (live.once k);
      },
      ap places_in same,
    )

-- A buffer at a free place was given, and it is held somewhere among the others.
pub record HoldsMore (p : ℕ) (s new : State) : Type 0 where
  pub live : Live new
  pub front : List ℕ
  pub back : List ℕ
  pub were : held_places s ≡ front ++ back
  pub are : held_places new ≡ front ++ p ∷ back

abbrev given_at : ℕ → Given
given_at p = record { place = p; size = buffer_size }

pub one_given : (p b : ℕ) (s : State) → Live s → p < 3 → times p (held_places s) ≡ 0 → s.asked ≡ Some b → HoldsMore p s (step live_config s (claimed (Some (given_at p)))).after
one_given p b s live low free asked =
    let new : State = (step live_config s (claimed (Some (given_at p)))).after in
    let more : HasOneMore (given_at p) (held s.opens) (held new.opens) =
    subst (λ a. TakesGiven (Some (given_at p)) a (held s.opens) (held new.opens)) asked (takes_given live.inputs s (Some (given_at p)) live.reached) in
    let were : held_places s ≡ places_in more.front ++ places_in more.back = ap places_in more.were ∙ places_in-append more.front more.back in
    let are : held_places new ≡ places_in more.front ++ p ∷ places_in more.back = ap places_in more.are ∙ places_in-append more.front (given_at p ∷ more.back) in
    let all = subst (λ l. AllByRecursion IsLive l) more.were live.each in
    record {
      live = record {
        inputs = live.inputs ++ claimed (Some (given_at p)) ∷ [];
        reached = reaches_on live.inputs s (claimed (Some (given_at p))) live.reached;
        each = subst (λ l. AllByRecursion IsLive l) (sym more.are)
            (all_append IsLive more.front (given_at p ∷ more.back) (all_front IsLive more.front more.back all)
            (record { low = low; sized = refl }, all_back IsLive more.front more.back all));
        once = λ k. once_more k (places_in more.front) (places_in more.back) (held_places s) (held_places new) were are (live.once k) free;
      };
      front = places_in more.front;
      back = places_in more.back;
      were = were;
      are = are;
    }
  where
    once_more : (k : ℕ) (front back were are : List ℕ) → were ≡ front ++ back → are ≡ front ++ p ∷ back → times k were ≤ 1 → times p were ≡ 0 → times k are ≤ 1
    once_more k front back were are w a first free =
        let x : times k were ≡ times k front + times k back = ap (times k) w ∙ times-append k front back in
        let y : times k are ≡ times k front + (same k p + times k back) = ap (times k) a ∙ times-append k front (p ∷ back) in
        go (cases_eq k p) x y where
          go : (k ≡ p) ⊎ (k ≢ p) → times k were ≡ times k front + times k back → times k are ≡ times k front + (same k p + times k back) → times k are ≤ 1
          go (inl e) x y = let none : times k were ≡ 0 = subst (λ j. times j were ≡ 0) (sym e) free in let l = same_le k p in omega (arith, x, y, none, l)
          go (inr apart) x y = let s = same_other k p apart in omega (arith, x, y, s, first)

-- ---- the lowest free place

among_times : (i : ℕ) (is : List ℕ) → is_among i is ≡ true → 1 ≤ times i is
among_times i [] e = absurd cc
among_times i (j ∷ js) e = go (i == j) refl e (among_times i js) where
  go : (v : Bool) → (i == j) ≡ v → (if v then true else is_among i js) ≡ true → (is_among i js ≡ true → 1 ≤ times i js) → 1 ≤ times i (j ∷ js)
  go true f e rest = let s : same i j ≡ 1 = subst (λ k. same i k ≡ 1) (eqb-true i j f) (same_self i) in omega (arith, s)
  go false f e rest = let r = rest e in omega (arith, r)

not_among : (i : ℕ) (is : List ℕ) → is_among i is ≡ false → times i is ≡ 0
not_among i [] e = refl
not_among i (j ∷ js) e = go (i == j) refl e (not_among i js) where
  go : (v : Bool) → (i == j) ≡ v → (if v then true else is_among i js) ≡ false → (is_among i js ≡ false → times i js ≡ 0) → times i (j ∷ js) ≡ 0
  go true f e rest = absurd cc
  go false f e rest = let r = rest e in let s = same_other i j (eqb-false i j f) in omega (arith, r, s)

apart : (i j x : ℕ) → i ≢ j → same i x + same j x ≤ 1
apart i j x other = go (cases_eq i x) (cases_eq j x) where
  go : (i ≡ x) ⊎ (i ≢ x) → (j ≡ x) ⊎ (j ≢ x) → same i x + same j x ≤ 1
  go (inl e) (inl f) = absurd (other (e ∙ sym f))
  go (inl e) (inr f) = let s = same_other j x f in let l = same_le i x in omega (arith, s, l)
  go (inr e) f = let s = same_other i x e in let l = same_le j x in omega (arith, s, l)

three_fit : (is : List ℕ) → times 0 is + times 1 is + times 2 is ≤ length is
three_fit [] = omega arith
three_fit (x ∷ xs) =
    let rest = three_fit xs in
    let a = apart 0 1 x (λ e. absurd (omega arith)) in
    let b = apart 0 2 x (λ e. absurd (omega arith)) in
    let d = apart 1 2 x (λ e. absurd (omega arith)) in
    omega (arith, rest, a, b, d)

pub record IsFree (is : List ℕ) : Type 0 where
  pub low : lowest_free is < 3
  pub free : times (lowest_free is) is ≡ 0

free_by : (is : List ℕ) (v w : Bool) → is_among 0 is ≡ v → is_among 1 is ≡ w → length is ≤ 2
    → ((if v then (if w then 2 else 1) else 0) < 3) × (times (if v then (if w then 2 else 1) else 0) is ≡ 0)
free_by is false w e f few = (omega arith, not_among 0 is e)
free_by is true false e f few = (omega arith, not_among 1 is f)
free_by is true true e f few =
    let a = among_times 0 is e in let b = among_times 1 is f in let t = three_fit is in (omega arith, omega (arith, a, b, t, few))

pub few_held : (os : List Open) → length (held os) ≤ length os
few_held [] = omega arith
few_held (o ∷ os) = go o.given (few_held os) where
  go : (g : Option Given) → length (held os) ≤ length os → length (with_given g (held os)) ≤ length (o ∷ os)
  go None r = omega (arith, r)
  go (Some g) r = omega (arith, r)

length-places : (gs : List Given) → length (places_in gs) ≡ length gs
length-places [] = refl
length-places (g ∷ gs) = ap suc (length-places gs)

-- two blocks at most are open, so one of the three places is free
pub is_free : (s : State) → Live s → IsFree (held_places s)
is_free s live =
    let room : length s.opens ≤ 2 = subst (λ (u : State). length u.opens ≤ 2) live.reached (blocks_are_in_order live_config live.inputs (omega arith)).room in
    let fewer = few_held s.opens in
    let counted = length-places (held s.opens) in
    let few : length (held_places s) ≤ 2 = omega (arith, room, fewer, counted) in
    let both = free_by (held_places s) (is_among 0 (held_places s)) (is_among 1 (held_places s)) refl refl few in
    record { low = both.0; free = both.1 }
