-- The buffers of the open blocks of a captured script: at five places, each held once, and what inputs make of them.
use Rattle.std.proofs.Common.{◌≡◌, ◌≢◌, ◌⊎◌, inl, inr, ℕ, suc, ◌+◌, ◌<◌, ◌≤◌, List, [], ◌∷◌, ◌++◌, length, map, refl, sym, ap, subst, ◌∙◌, arith}
use Rattle.std.specs.Prelude.{Option, Some, None}
use Rattle.std.specs.List.{AllByRecursion}
use Rattle.std.proofs.lemmas.Bool.{cases_eq}
use Rattle.board_machine.specs.Places.{same, times}
use Rattle.board_machine.proofs.Places.{times-append, same_other, same_le}
use Rattle.acquisition_machine.specs.declared.retired.Retired.{Retired}
use Rattle.acquisition_machine.specs.Blocks.{Given, Open, fills}
use Rattle.acquisition_machine.specs.Machine.{Input, datagram, claimed, tick, stop, State, step}
use Rattle.acquisition_machine.specs.Runs.{first_state, After}
use Rattle.acquisition_machine.specs.TurnLaws.{held, given_of, with_given, HasOneMore, TakesGiven, GivesBack}
use Rattle.acquisition_machine.proofs.Joining.{after_from-append}
use Rattle.acquisition_machine.proofs.Order.{all_append, all_front, all_back}
use Rattle.acquisition_machine.proofs.Buffers.{no_buffer_is_lost}
use Rattle.acquisition_machine.proofs.Window.{blocks_are_in_order}
use Rattle.capture_script.specs.Playing.{config}

abbrev pub places_in : List Given → List ℕ
places_in gs = map (λ (g : Given). g.place) gs

-- the places of the open blocks' buffers, lowest block first
abbrev pub held_places : State → List ℕ
held_places s = places_in (held s.opens)

pub places_in-append : (gs hs : List Given) → places_in (gs ++ hs) ≡ places_in gs ++ places_in hs
places_in-append [] hs = refl
places_in-append (g ∷ gs) hs = ap (λ l. g.place ∷ l) (places_in-append gs hs)

-- one of the five places, with a buffer of the script's size
pub record IsLive (pp ss : ℕ) (g : Given) : Type 0 where
  pub low : g.place < 5
  pub sized : g.size ≡ ss

-- Inputs lead to this state; and each open block's buffer is at one of the five places, no two at one.
pub record Live (pp ss : ℕ) (s : State) : Type 0 where
  pub inputs : List Input
  pub reached : After (config pp) inputs ≡ s
  pub each : AllByRecursion (IsLive pp ss) (held s.opens)
  pub once : (i : ℕ) → times i (held_places s) ≤ 1

pub reaches_on : (pp ss : ℕ) → (q : List Input) (s : State) (i : Input) → After (config pp) q ≡ s → After (config pp) (q ++ i ∷ []) ≡ (step (config pp) s i).after
reaches_on pp ss q s i e = after_from-append (config pp) first_state q (i ∷ []) ∙ ap (λ u. (step (config pp) u i).after) e

-- what came back, and what stayed
abbrev pub BacksOf : (pp ss : ℕ) → State → Input → Type 0
BacksOf pp ss s i = GivesBack (config pp).p s.opens (step (config pp) s i)

backs_datagram : (pp ss : ℕ) → (q : List Input) (s : State) (bytes : List ℕ) → After (config pp) q ≡ s → BacksOf pp ss s (datagram bytes)
backs_datagram pp ss q s bytes e = subst (λ u. (BacksOf pp ss) u (datagram bytes)) e (no_buffer_is_lost (config pp) q (datagram bytes) (omega arith))

backs_tick : (pp ss : ℕ) → (q : List Input) (s : State) (moment : ℕ) → After (config pp) q ≡ s → BacksOf pp ss s (tick moment)
backs_tick pp ss q s moment e = subst (λ u. (BacksOf pp ss) u (tick moment)) e (no_buffer_is_lost (config pp) q (tick moment) (omega arith))

backs_stop : (pp ss : ℕ) → (q : List Input) (s : State) → After (config pp) q ≡ s → BacksOf pp ss s stop
backs_stop pp ss q s e = subst (λ u. (BacksOf pp ss) u stop) e (no_buffer_is_lost (config pp) q stop (omega arith))

abbrev pub came_back : (pp ss : ℕ) → State → Input → List Retired
came_back pp ss s i = fills (config pp).p (step (config pp) s i).retired

-- what an input leaves, where what retires comes back
pub record Settled (pp ss : ℕ) (s : State) (i : Input) : Type 0 where
  pub live : Live pp ss (step (config pp) s i).after
  pub back : AllByRecursion (IsLive pp ss) (map given_of (came_back pp ss s i))
  pub places : held_places s ≡ places_in (map given_of (came_back pp ss s i)) ++ held_places (step (config pp) s i).after

settled_by : (pp ss : ℕ) → (s : State) (i : Input) → Live pp ss s → BacksOf pp ss s i → Settled pp ss s i
settled_by pp ss s i live backs =
    let gone : List Given = map given_of (came_back pp ss s i) in
    let left : List Given = held (step (config pp) s i).after.opens in
    let all = subst (λ l. AllByRecursion (IsLive pp ss) l) (sym backs) live.each in
    let places : held_places s ≡ places_in gone ++ places_in left = ap places_in (sym backs) ∙ places_in-append gone left in
    record {
      live = record {
        inputs = live.inputs ++ i ∷ [];
        reached = reaches_on pp ss live.inputs s i live.reached;
        each = all_back (IsLive pp ss) gone left all;
        once = λ k. (let first = live.once k in let sum : times k (held_places s) ≡ times k (places_in gone) + times k (places_in left) =
            ap (times k) places ∙ times-append k (places_in gone) (places_in left) in omega (arith, first, sum));
      };
      back = all_front (IsLive pp ss) gone left all;
      places = places;
    }

pub settled_datagram : (pp ss : ℕ) → (s : State) (bytes : List ℕ) → Live pp ss s → Settled pp ss s (datagram bytes)
settled_datagram pp ss s bytes live = settled_by pp ss s (datagram bytes) live (backs_datagram pp ss live.inputs s bytes live.reached)

pub settled_tick : (pp ss : ℕ) → (s : State) (moment : ℕ) → Live pp ss s → Settled pp ss s (tick moment)
settled_tick pp ss s moment live = settled_by pp ss s (tick moment) live (backs_tick pp ss live.inputs s moment live.reached)

pub settled_stop : (pp ss : ℕ) → (s : State) → Live pp ss s → Settled pp ss s stop
settled_stop pp ss s live = settled_by pp ss s stop live (backs_stop pp ss live.inputs s live.reached)

-- ---- the outcome of a claim

takes_given : (pp ss : ℕ) → (q : List Input) (s : State) (given : Option Given) → After (config pp) q ≡ s
    → TakesGiven given s.asked (held s.opens) (held (step (config pp) s (claimed given)).after.opens)
takes_given pp ss q s given e =
    subst (λ u. TakesGiven given u.asked (held u.opens) (held (step (config pp) u (claimed given)).after.opens)) e
    (no_buffer_is_lost (config pp) q (claimed given) (omega arith)).1

-- A buffer at a free place was given, and it is held somewhere among the others.
pub record HoldsMore (pp ss : ℕ) (p : ℕ) (s new : State) : Type 0 where
  pub live : Live pp ss new
  pub front : List ℕ
  pub back : List ℕ
  pub were : held_places s ≡ front ++ back
  pub are : held_places new ≡ front ++ p ∷ back

abbrev given_at : (pp ss : ℕ) → ℕ → Given
given_at pp ss p = record { place = p; size = ss }

pub one_given : (pp ss : ℕ) → (p b : ℕ) (s : State) → Live pp ss s → p < 5 → times p (held_places s) ≡ 0 → s.asked ≡ Some b → HoldsMore pp ss p s (step (config pp) s (claimed (Some (given_at pp ss p)))).after
one_given pp ss p b s live low free asked =
    let new : State = (step (config pp) s (claimed (Some (given_at pp ss p)))).after in
    let more : HasOneMore (given_at pp ss p) (held s.opens) (held new.opens) =
    subst (λ a. TakesGiven (Some (given_at pp ss p)) a (held s.opens) (held new.opens)) asked (takes_given pp ss live.inputs s (Some (given_at pp ss p)) live.reached) in
    let were : held_places s ≡ places_in more.front ++ places_in more.back = ap places_in more.were ∙ places_in-append more.front more.back in
    let are : held_places new ≡ places_in more.front ++ p ∷ places_in more.back = ap places_in more.are ∙ places_in-append more.front (given_at pp ss p ∷ more.back) in
    let all = subst (λ l. AllByRecursion (IsLive pp ss) l) more.were live.each in
    record {
      live = record {
        inputs = live.inputs ++ claimed (Some (given_at pp ss p)) ∷ [];
        reached = reaches_on pp ss live.inputs s (claimed (Some (given_at pp ss p))) live.reached;
        each = subst (λ l. AllByRecursion (IsLive pp ss) l) (sym more.are)
            (all_append (IsLive pp ss) more.front (given_at pp ss p ∷ more.back) (all_front (IsLive pp ss) more.front more.back all)
            (record { low = low; sized = refl }, all_back (IsLive pp ss) more.front more.back all));
        once = λ k. once_more k (places_in more.front) (places_in more.back) (held_places s) (held_places new) were are (live.once k) free;
      };
      front = places_in more.front;
      back = places_in more.back;
      were = were;
      are = are;
    }
  where
    once_more : (k : ℕ) (front back were are : List ℕ) → were ≡ front ++ back → are ≡ front ++ p ∷ back → times k were ≤ 1 → times p were ≡ 0 → times k are ≤ 1
    once_more k front back were are w a first free =
        let x : times k were ≡ times k front + times k back = ap (times k) w ∙ times-append k front back in
        let y : times k are ≡ times k front + (same k p + times k back) = ap (times k) a ∙ times-append k front (p ∷ back) in
        go (cases_eq k p) x y where
          go : (k ≡ p) ⊎ (k ≢ p) → times k were ≡ times k front + times k back → times k are ≡ times k front + (same k p + times k back) → times k are ≤ 1
          go (inl e) x y = let none : times k were ≡ 0 = subst (λ j. times j were ≡ 0) (sym e) free in let l = same_le k p in omega (arith, x, y, none, l)
          go (inr apart) x y = let s = same_other k p apart in omega (arith, x, y, s, first)

few_held : (os : List Open) → length (held os) ≤ length os
few_held [] = omega arith
few_held (o ∷ os) = go o.given (few_held os) where
  go : (g : Option Given) → length (held os) ≤ length os → length (with_given g (held os)) ≤ length (o ∷ os)
  go None r = omega (arith, r)
  go (Some g) r = omega (arith, r)

length-places : (gs : List Given) → length (places_in gs) ≡ length gs
length-places [] = refl
length-places (g ∷ gs) = ap suc (length-places gs)

-- four blocks at most are open
pub few_places : (pp ss : ℕ) → (s : State) → Live pp ss s → length (held_places s) ≤ 4
few_places pp ss s live =
    let room : length s.opens ≤ 4 = subst (λ (u : State). length u.opens ≤ 4) live.reached (blocks_are_in_order (config pp) live.inputs (omega arith)).room in
    let fewer = few_held s.opens in
    let counted = length-places (held s.opens) in
    omega (arith, room, fewer, counted)
