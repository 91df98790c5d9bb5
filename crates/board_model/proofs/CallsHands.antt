-- What an actor has in its hands after its own act, and what lies there.
use Rattle.std.proofs.Common.{◌≡◌, ℕ, ◌+◌, ◌≤◌, List, Option, Some, get_or, ap, subst, ◌∙◌, arith, get_or-set_same, true}
use Rattle.gev_types.specs.Filling.{Filling}
use Rattle.board_machine.specs.declared.events.Event.TheVariants.{Lay, Pool, Fill}
use Rattle.board_machine.specs.Places.{same, times, put_in, without, put_all}
use Rattle.board_machine.specs.Machine.{Board, hand, held, places, no_actor, IsActor, InHand, set_hand, picks}
use Rattle.board_machine.specs.Adding.{AddsEntry}
use Rattle.board_machine.proofs.Boards.{actor_within}
use Rattle.board_machine.proofs.Places.{same_self, times-put, times-put_all, times-without}
use Rattle.board_model.specs.Plain.{IsPlain}
use Rattle.board_model.specs.Holdings.{CameToHand, HaveBufs}
use Rattle.board_model.proofs.Keeps.{pooled_has, output_has}

pub hand_set : (b : Board) (k : ℕ) (is : List ℕ) → IsActor b k → hand (set_hand b k is) k ≡ is
hand_set b k is actor = ap held (get_or-set_same b.hands k (Some is) no_actor (actor_within b k actor))

-- how often a place is in the hands after they were changed
pub times_set : (b : Board) (k i : ℕ) (is : List ℕ) → IsActor b k → times i (hand (set_hand b k is) k) ≡ times i is
times_set b k i is actor = ap (times i) (hand_set b k is actor)

-- a place that came into a hand is there
pub picked_in : (b : Board) (k i : ℕ) → IsActor b k → InHand (picks b k i) k i
picked_in b k i actor = omega (arith, times_set b k i (put_in i (hand b k)) actor, times-put i i (hand b k), same_self i)

-- and so are places that were swept
pub swept_in : (b new : Board) (k : ℕ) (is js : List ℕ) → js ≡ is → IsActor b k → new.hands ≡ (set_hand b k (put_all js (hand b k))).hands → CameToHand b k is new
swept_in b new k is js e actor after = record {
  there = λ i.
      ap (λ (hs : List (Option (List ℕ))). times i (held (get_or hs k no_actor))) after
      ∙ (times_set b k i (put_all js (hand b k)) actor ∙ (times-put_all i js (hand b k) ∙ ap (λ (ks : List ℕ). times i ks + times i (hand b k)) e));
}

-- the buffers of a sweep lie at their places
pub pool_have : (b : Board) (c : List (Option Filling)) (is : List ℕ) → IsPlain b c → is ≡ b.pool → HaveBufs c is
pool_have b c is p e = record { there = λ i some. pooled_has b c i p (subst (λ (js : List ℕ). 1 ≤ times i js) e some) }

pub out_have : (b : Board) (c : List (Option Filling)) (is : List ℕ) → IsPlain b c → is ≡ places b.out → HaveBufs c is
out_have b c is p e = record { there = λ i some. output_has b c i p (subst (λ (js : List ℕ). 1 ≤ times i js) e some) }

-- how often each place is in the hands after one was given away
dropped : (b : Board) (k i j : ℕ) → IsActor b k → InHand b k i → same j i + times j (hand (set_hand b k (without i (hand b k))) k) ≡ times j (hand b k)
dropped b k i j actor mine =
    omega (arith, times_set b k j (without i (hand b k)) actor, times-without j i (hand b k) mine)

pub laid : (b new : Board) (k i j : ℕ) → AddsEntry b k (Lay i) new → same j i + times j (hand new k) ≡ times j (hand b k)
laid b new k i j step =
    ap (λ (c : Board). same j i + times j (hand c k)) step.after ∙ dropped b k i j step.may.actor step.may.meets

pub pooled : (b new : Board) (k i j : ℕ) → AddsEntry b k (Pool i) new → same j i + times j (hand new k) ≡ times j (hand b k)
pooled b new k i j step =
    ap (λ (c : Board). same j i + times j (hand c k)) step.after ∙ dropped b k i j step.may.actor step.may.meets

pub filled : (b new : Board) (k i j : ℕ) (f : Filling) → AddsEntry b k (Fill i f true) new → same j i + times j (hand new k) ≡ times j (hand b k)
filled b new k i j f step =
    ap (λ (c : Board). same j i + times j (hand c k)) step.after ∙ dropped b k i j step.may.actor step.may.meets.0
